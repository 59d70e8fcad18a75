-- `check_rows`: the checks in their groups, each made where none of those before it applies. Assumes nothing.
use Rattle.std.proofs.Common.{◌≡◌, ◌≢◌, ◌*◌, ℕ, Bool, false, List, ◌++◌, ◌||◌, length, rules, sym, ◌∙◌, arith}
use Rattle.laws.specs.Refusal.{refusal}
use Rattle.laws.proofs.Bools.{or-false}
use Rattle.laws.proofs.Refusal.{first-applies, first-passed, passes}
use Rattle.edges.specs.LentPlanes.{samples}
use Rattle.edges.specs.Picture.{Planes}
use Rattle.refusals.specs.Refusals.{number_of, code_of}
use Rattle.refusals.proofs.Codes.{code-positive}
use Rattle.sizes.specs.declared.Part.{Part}
use Rattle.slices.specs.Slicing.{bad_number_count, bad_slice_offset}
use Rattle.pictures.specs.Checks.{Lent, picture_checks, grid_checks}
use Rattle.pictures.specs.Inner.{GridsHold, row_entry_checks}
use Rattle.pictures.specs.LentData.{given}
use Rattle.pictures.specs.Rows.{bad_range, row_answer}
use Rattle.pictures.proofs.Fitting.{fitting, grids-hold}
use Rattle.pictures.proofs.RowCalls.{RowsFit, rows_fit, ends}
use Rattle.pictures.proofs.row_checks.check_rows.Goals as goal

module _ (part : Part) (d : Lent) (a b : ℕ) (p : Planes) where
  -- the three groups
  abbrev picture : List (ℕ × Bool)
  picture = picture_checks part d.size (bad_range d.size a b) (length p.luma) (length p.u) (length p.v)

  abbrev grids-of : ℕ → Bool → List (ℕ × Bool)
  grids-of n six = grid_checks n (length d.strengths) (length d.qps) (length d.t8s) (bad_number_count d.slicing n || false) six

  abbrev grids : List (ℕ × Bool)
  grids = grids-of (d.size.w * d.size.h) (bad_slice_offset d.slicing)

  abbrev entries : List (ℕ × Bool)
  entries = row_entry_checks d a b

  -- the number of macroblocks is the product of the sides, and check 6 is what the slicing answers of it
  by-count : {k n : ℕ} {six : Bool} → n ≡ d.size.w * d.size.h → six ≡ bad_slice_offset d.slicing → k ≡ refusal (grids-of n six) → k ≡ refusal grids
  by-count e f h = h ∙ (λ i. refusal (grids-of (e i) (f i)))

  by-picture : {n : ℕ} → n ≡ refusal picture → n ≢ 0 → n ≡ row_answer part d a b p
  unfolding row_answer
  by-picture e h = first-applies picture (grids ++ entries) tt e h

  by-grids : {n : ℕ} → refusal picture ≡ 0 → n ≡ refusal grids → n ≢ 0 → n ≡ row_answer part d a b p
  unfolding row_answer
  by-grids z e h = first-passed picture (grids ++ entries) tt z (first-applies grids entries tt e h)

  by-entries : {n : ℕ} → refusal picture ≡ 0 → refusal grids ≡ 0 → n ≡ refusal entries → n ≡ row_answer part d a b p
  unfolding row_answer
  by-entries z y e = first-passed picture (grids ++ entries) tt z (first-passed grids entries tt y e)

  fits : refusal picture ≡ 0 → refusal grids ≡ 0 → RowsFit part d a b (length p.luma) (length p.u) (length p.v)
  fits z y =
      rows_fit part d a b (length p.luma) (length p.u) (length p.v)
      (fitting part d (length p.luma) (length p.u) (length p.v) (passes 1 picture tt z) (passes 19 picture tt z) (passes 3 picture tt z) (or-false _ _ (passes 4 grids tt y)).0)
      (passes 2 picture tt z)

  hold : refusal picture ≡ 0 → refusal grids ≡ 0 → GridsHold (b * d.size.w) d
  hold z y =
      let f = fits z y in
      grids-hold part d (length p.luma) (length p.u) (length p.v) (b * d.size.w) f.fit (or-false _ _ (or-false _ _ (passes 4 grids tt y)).1).0 (ends part d a b (length p.luma) (length p.u) (length p.v) f)

pub returns-in_err-check_picture : goal.returns-in_err-check_picture
returns-in_err-check_picture c =
    let a = c.args in
    let same : number_of c.from_residual.result ≡ code_of c.in_err-check_picture.field-0.0 = search rules in
    same
    ∙ by-picture a.picture.part (given a.picture.size a.lent.now) a.a a.b (samples a.planes.now) c.in_err-check_picture.ensures (code-positive c.in_err-check_picture.field-0.0)

pub returns-in_err-check_grids : goal.returns-in_err-check_grids
returns-in_err-check_grids c =
    let a = c.args in
    let same : number_of c.from_residual-in_err-check_grids.result ≡ code_of c.in_err-check_grids.field-0.0 = search rules in
    same
    ∙ by-grids a.picture.part (given a.picture.size a.lent.now) a.a a.b (samples a.planes.now) (sym c.in_ok-check_picture.ensures) (by-count a.picture.part (given a.picture.size a.lent.now) a.a a.b (samples a.planes.now) c.count.ensures c.has_bad_offset.ensures c.in_err-check_grids.ensures)
    (code-positive c.in_err-check_grids.field-0.0)

pub check_row_entries-requires-clause-rows : goal.check_row_entries-requires-clause-rows
check_row_entries-requires-clause-rows c =
    let a = c.args in
    let p = samples a.planes.now in
    let d = given a.picture.size a.lent.now in
    let f = fits a.picture.part d a.a a.b p (sym c.in_ok-check_picture.ensures) (sym (by-count a.picture.part (given a.picture.size a.lent.now) a.a a.b (samples a.planes.now) c.count.ensures c.has_bad_offset.ensures c.in_ok-check_grids.ensures)) in
    (f.order, omega (arith, f.fit.sides.most, ends a.picture.part d a.a a.b (length p.luma) (length p.u) (length p.v) f))

pub check_row_entries-requires-clause-grids : goal.check_row_entries-requires-clause-grids
check_row_entries-requires-clause-grids c =
    let a = c.args in
    hold a.picture.part (given a.picture.size a.lent.now) a.a a.b (samples a.planes.now) (sym c.in_ok-check_picture.ensures) (sym (by-count a.picture.part (given a.picture.size a.lent.now) a.a a.b (samples a.planes.now) c.count.ensures c.has_bad_offset.ensures c.in_ok-check_grids.ensures))

pub returns : goal.returns
returns c =
    let a = c.args in
    by-entries a.picture.part (given a.picture.size a.lent.now) a.a a.b (samples a.planes.now) (sym c.in_ok-check_picture.ensures) (sym (by-count a.picture.part (given a.picture.size a.lent.now) a.a a.b (samples a.planes.now) c.count.ensures c.has_bad_offset.ensures c.in_ok-check_grids.ensures)) c.check_row_entries.ensures
