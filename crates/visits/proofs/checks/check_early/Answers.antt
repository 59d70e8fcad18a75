-- `check_early`: the checks in their groups, each made where none of those before it applies. Assumes
-- nothing.
use Rattle.std.proofs.Common.{◌≡◌, ◌≢◌, ◌+◌, ◌*◌, ℕ, Bool, List, ◌++◌, not, ◌||◌, eqb, length, rules, sym, ap, ◌∙◌, arith}
use Rattle.laws.specs.Refusal.{refusal}
use Rattle.laws.proofs.Refusal.{first-applies, first-passed}
use Rattle.edges.specs.LentPlanes.{samples}
use Rattle.edges.specs.Picture.{Planes}
use Rattle.refusals.specs.Refusals.{number_of, code_of}
use Rattle.refusals.proofs.Codes.{code-positive}
use Rattle.sizes.specs.Sizes.{outside_of}
use Rattle.sizes.specs.declared.Part.{Part}
use Rattle.slices.specs.Slicing.{bad_number_count}
use Rattle.slices.specs.declared.Survey.{Survey}
use Rattle.pictures.specs.Checks.{Lent, picture_checks, grid_checks}
use Rattle.pictures.specs.LentData.{given}
use Rattle.visits.specs.Inner.{told_entry_checks, early_by}
use Rattle.visits.specs.Visit.{At}
use Rattle.visits.proofs.VisitFits.{grouped-visit-fits, grouped-grids, in-picture, in-largest, index}
use Rattle.visits.proofs.checks.check_early.Goals as goal

module _ (told : Survey) (part : Part) (d : Lent) (p : Planes) (ms : List ℕ) (r : At) where
  -- the three groups
  abbrev picture : List (ℕ × Bool)
  picture = picture_checks part d.size (outside_of d.size r.0 r.1) (length p.luma) (length p.u) (length p.v)

  abbrev lengths-of : ℕ → List (ℕ × Bool)
  lengths-of n =
      grid_checks n (length d.strengths) (length d.qps) (length d.t8s)
      (bad_number_count d.slicing n || not (eqb (length ms) n)) told.bad_offset

  abbrev lengths : List (ℕ × Bool)
  lengths = lengths-of (d.size.w * d.size.h)

  abbrev entries : List (ℕ × Bool)
  entries = told_entry_checks told.bad_mode d ms r

  -- the number of macroblocks is the product of the sides
  by-count : {k n : ℕ} → n ≡ d.size.w * d.size.h → k ≡ refusal (lengths-of n) → k ≡ refusal lengths
  by-count e h = h ∙ ap (λ m. refusal (lengths-of m)) e

  by-picture : {n : ℕ} → n ≡ refusal picture → n ≢ 0 → n ≡ early_by told part d (p, ms) r
  unfolding early_by
  by-picture e h = first-applies picture (lengths ++ entries) tt e h

  by-lengths : {n : ℕ} → refusal picture ≡ 0 → n ≡ refusal lengths → n ≢ 0 → n ≡ early_by told part d (p, ms) r
  unfolding early_by
  by-lengths z e h = first-passed picture (lengths ++ entries) tt z (first-applies lengths entries tt e h)

  by-entries : {n : ℕ} → refusal picture ≡ 0 → refusal lengths ≡ 0 → n ≡ refusal entries → n ≡ early_by told part d (p, ms) r
  unfolding early_by
  by-entries z y e = first-passed picture (lengths ++ entries) tt z (first-passed lengths entries tt y e)

pub returns-in_err-check_picture : goal.returns-in_err-check_picture
returns-in_err-check_picture c =
    let a = c.args in
    let same : number_of c.from_residual.result ≡ code_of c.in_err-check_picture.field-0.0 = search rules in
    same
    ∙ by-picture a.survey a.picture.part (given a.picture.size a.lent.now) (samples a.planes.now) a.marks.now (a.x, a.y) c.in_err-check_picture.ensures (code-positive c.in_err-check_picture.field-0.0)

pub returns-in_err-check_grids : goal.returns-in_err-check_grids
returns-in_err-check_grids c =
    let a = c.args in
    let same : number_of c.from_residual-in_err-check_grids.result ≡ code_of c.in_err-check_grids.field-0.0 = search rules in
    same
    ∙ by-lengths a.survey a.picture.part (given a.picture.size a.lent.now) (samples a.planes.now) a.marks.now (a.x, a.y) (sym c.in_ok-check_picture.ensures) (by-count a.survey a.picture.part (given a.picture.size a.lent.now) (samples a.planes.now) a.marks.now (a.x, a.y) c.count-n.ensures c.in_err-check_grids.ensures)
    (code-positive c.in_err-check_grids.field-0.0)

pub check_visit_entries-requires-clause-place : goal.check_visit_entries-requires-clause-place
check_visit_entries-requires-clause-place c =
    let a = c.args in
    let d = given a.picture.size a.lent.now in
    let p = samples a.planes.now in
    let g = grouped-visit-fits a.picture.part d (length p.luma) (length p.u) (length p.v) (length a.marks.now) (a.x, a.y) (bad_number_count d.slicing (d.size.w * d.size.h)) a.survey.bad_offset (sym c.in_ok-check_picture.ensures) (sym (by-count a.survey a.picture.part (given a.picture.size a.lent.now) (samples a.planes.now) a.marks.now (a.x, a.y) c.count-n.ensures c.in_ok-check_grids.ensures)) in
    (in-picture a.picture.part d _ _ _ _ (a.x, a.y) g (length a.marks.now) g.marks, in-largest a.picture.part d _ _ _ _ (a.x, a.y) g)

pub check_visit_entries-requires-clause-grids : goal.check_visit_entries-requires-clause-grids
check_visit_entries-requires-clause-grids c =
    let a = c.args in
    let d = given a.picture.size a.lent.now in
    let p = samples a.planes.now in
    let z = sym c.in_ok-check_picture.ensures in
    let g = grouped-visit-fits a.picture.part d (length p.luma) (length p.u) (length p.v) (length a.marks.now) (a.x, a.y) (bad_number_count d.slicing (d.size.w * d.size.h)) a.survey.bad_offset z (sym (by-count a.survey a.picture.part (given a.picture.size a.lent.now) (samples a.planes.now) a.marks.now (a.x, a.y) c.count-n.ensures c.in_ok-check_grids.ensures)) in
    let h = grouped-grids a.picture.part d (length p.luma) (length p.u) (length p.v) (length a.marks.now) (a.x, a.y) a.survey.bad_offset z (sym (by-count a.survey a.picture.part (given a.picture.size a.lent.now) (samples a.planes.now) a.marks.now (a.x, a.y) c.count-n.ensures c.in_ok-check_grids.ensures)) (a.y * a.picture.size.w + a.x + 1)
    (omega (arith, index a.picture.part d _ _ _ _ (a.x, a.y) g)) in
    record { strengths = h.strengths; qps = h.qps; t8s = h.t8s; numbers = h.numbers }

pub returns : goal.returns
returns c =
    let a = c.args in
    by-entries a.survey a.picture.part (given a.picture.size a.lent.now) (samples a.planes.now) a.marks.now (a.x, a.y) (sym c.in_ok-check_picture.ensures) (sym (by-count a.survey a.picture.part (given a.picture.size a.lent.now) (samples a.planes.now) a.marks.now (a.x, a.y) c.count-n.ensures c.in_ok-check_grids.ensures)) c.check_visit_entries.ensures
