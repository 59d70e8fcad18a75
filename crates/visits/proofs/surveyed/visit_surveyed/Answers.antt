-- `visit_surveyed`: the ways out are those of the promise. Assumes nothing.
use Rattle.std.proofs.Common.{◌≡◌, ℕ, ◌+◌, ◌*◌, ◌<◌, ◌≤◌, List, length, rules, set, sym, ap, ◌∙◌, arith}
use Rattle.edges.specs.Fields.{on_part}
use Rattle.edges.specs.Laid.{layout_of, laid_mb}
use Rattle.edges.specs.LentPlanes.{samples}
use Rattle.edges.specs.Picture.{Planes, step_of}
use Rattle.edges.proofs.OnPart.{mb-on-part}
use Rattle.edges.proofs.Pictures.{step-index}
use Rattle.refusals.specs.Refusals.{number_of, code_of}
use Rattle.refusals.proofs.Codes.{code-positive}
use Rattle.sizes.specs.declared.Part.{Part}
use Rattle.sizes.proofs.Sized.{frame-of-part-le}
use Rattle.slices.specs.Inner.{survey_of_slices}
use Rattle.slices.specs.declared.Survey.{Survey}
use Rattle.pictures.specs.Checks.{Lent, held_of}
use Rattle.pictures.specs.Inner.{GridsHold}
use Rattle.pictures.specs.LentData.{given}
use Rattle.visits.specs.Checks.{early_in}
use Rattle.visits.specs.Inner.{early_by}
use Rattle.visits.specs.Visit.{At, State}
use Rattle.visits.proofs.Outcome.{answer-early, answer-late, refused-outcome, done-outcome}
use Rattle.visits.proofs.Told.{told-early}
use Rattle.visits.proofs.VisitFits.{VisitFits, checked-visit-fits, checked-grids, index, in-picture, row-inside}
use Rattle.visits.proofs.surveyed.visit_surveyed.Goals as goal

-- the earlier checks by what the slices come to are those of the rules
by-told : (told : Survey) (part : Part) (d : Lent) (s : State Planes) (r : At) → told ≡ survey_of_slices d.slicing → {n : ℕ} → n ≡ early_by told part d s r → n ≡ early_in part d s r
by-told told part d s r e h = h ∙ (λ i. early_by (e i) part d s r) ∙ told-early part d s r

-- where the call goes on after the earlier checks
module _ (part : Part) (d : Lent) (p : Planes) (marks : List ℕ) (r : At) (z : early_in part d (p, marks) r ≡ 0) where
  ok : VisitFits part d (length p.luma) (length p.u) (length p.v) (length marks) r
  unfolding early_in
  ok = checked-visit-fits part d (length p.luma) (length p.u) (length p.v) marks r z

  place : r.1 * d.size.w + r.0 < d.size.w * d.size.h
  place = index part d _ _ _ _ r ok

  hold : (m : ℕ) → m ≤ d.size.w * d.size.h → GridsHold m d
  unfolding early_in
  hold = checked-grids part d (length p.luma) (length p.u) (length p.v) marks r z

  -- the macroblock where it lies is the step of the picture on its part of the planes
  step-made : laid_mb (held_of d) (layout_of part) r.0 r.1 p ≡ on_part part d.size (step_of (held_of d) (r.1 * d.size.w + r.0)) p
  step-made =
      let g = ok in
      mb-on-part (held_of d) d.size.h g.fit.sides.both.wide part g.fit.parity r.0 r.1 g.column g.row p
      (record { luma = g.fit.luma; u = g.fit.u; v = g.fit.v })
      ∙ (λ i. on_part part d.size (λ t. sym (step-index (held_of d) r.0 r.1 g.column t) i) p)

pub returns-in_err-check_early-clause-outcome : goal.returns-in_err-check_early-clause-outcome
returns-in_err-check_early-clause-outcome c =
    let a = c.args in
    let d = given a.picture.size a.lent.now in
    let r = c.in_err-check_early.field-0.0 in
    let same : number_of c.from_residual.result ≡ code_of r = search rules in
    let early = by-told a.survey a.picture.part d (samples a.planes.now, a.marks.now) (a.x, a.y) c.requires c.in_err-check_early.ensures in
    let e = same ∙ early in
    refused-outcome (answer-early a.picture.size.w (early_in a.picture.part d) (samples a.planes.now, a.marks.now) (a.x, a.y) (λ k. code-positive r (early ∙ k)) ∙ sym e)
    (λ k. code-positive r (sym same ∙ k))

pub check_ready-requires : goal.check_ready-requires
check_ready-requires c =
    let a = c.args in
    let z = sym (by-told a.survey a.picture.part (given a.picture.size a.lent.now) (samples a.planes.now, a.marks.now) (a.x, a.y) c.requires c.in_ok-check_early.ensures) in
    let g = ok a.picture.part (given a.picture.size a.lent.now) (samples a.planes.now) a.marks.now (a.x, a.y) z in
    in-picture a.picture.part (given a.picture.size a.lent.now) _ _ _ _ (a.x, a.y) g (length a.marks.now) g.marks

pub returns-in_err-check_ready-clause-outcome : goal.returns-in_err-check_ready-clause-outcome
returns-in_err-check_ready-clause-outcome c =
    let a = c.args in
    let z = sym (by-told a.survey a.picture.part (given a.picture.size a.lent.now) (samples a.planes.now, a.marks.now) (a.x, a.y) c.requires c.in_ok-check_early.ensures) in
    let d = given a.picture.size a.lent.now in
    let r = c.in_err-check_ready.field-0.0 in
    let same : number_of c.from_residual-in_err-check_ready.result ≡ code_of r = search rules in
    refused-outcome (answer-late a.picture.size.w (early_in a.picture.part d) (samples a.planes.now, a.marks.now) (a.x, a.y) z ∙ sym (same ∙ c.in_err-check_ready.ensures))
    (λ k. code-positive r (sym same ∙ k))

pub filter_macroblock-requires-clause-place : goal.filter_macroblock-requires-clause-place
filter_macroblock-requires-clause-place c =
    let a = c.args in
    let z = sym (by-told a.survey a.picture.part (given a.picture.size a.lent.now) (samples a.planes.now, a.marks.now) (a.x, a.y) c.requires c.in_ok-check_early.ensures) in
    let g = ok a.picture.part (given a.picture.size a.lent.now) (samples a.planes.now) a.marks.now (a.x, a.y) z in
    (g.fit.parity, omega (arith, g.column), omega (arith, row-inside a.picture.part (given a.picture.size a.lent.now) _ _ _ _ (a.x, a.y) g, g.fit.sides.most))

pub filter_macroblock-requires-clause-planes : goal.filter_macroblock-requires-clause-planes
filter_macroblock-requires-clause-planes c =
    let a = c.args in
    let z = sym (by-told a.survey a.picture.part (given a.picture.size a.lent.now) (samples a.planes.now, a.marks.now) (a.x, a.y) c.requires c.in_ok-check_early.ensures) in
    let g = ok a.picture.part (given a.picture.size a.lent.now) (samples a.planes.now) a.marks.now (a.x, a.y) z in
    let m = frame-of-part-le a.picture.part (row-inside a.picture.part (given a.picture.size a.lent.now) _ _ _ _ (a.x, a.y) g) in
    record { luma = omega (arith, m, g.fit.luma); u = omega (arith, m, g.fit.u); v = omega (arith, m, g.fit.v) }

pub filter_macroblock-requires-clause-grids : goal.filter_macroblock-requires-clause-grids
filter_macroblock-requires-clause-grids c =
    let a = c.args in
    let z = sym (by-told a.survey a.picture.part (given a.picture.size a.lent.now) (samples a.planes.now, a.marks.now) (a.x, a.y) c.requires c.in_ok-check_early.ensures) in
    let d = given a.picture.size a.lent.now in
    let g = ok a.picture.part d (samples a.planes.now) a.marks.now (a.x, a.y) z in
    let h = hold a.picture.part d (samples a.planes.now) a.marks.now (a.x, a.y) z (a.y * a.picture.size.w + a.picture.size.w) (row-inside a.picture.part d _ _ _ _ (a.x, a.y) g) in
    record { strengths = h.strengths; qps = h.qps; t8s = h.t8s; numbers = h.numbers }

pub address-i-requires : goal.address-i-requires
address-i-requires c =
    let a = c.args in
    let d = given a.picture.size a.lent.now in
    let z = sym (by-told a.survey a.picture.part (given a.picture.size a.lent.now) (samples a.planes.now, a.marks.now) (a.x, a.y) c.requires c.in_ok-check_early.ensures) in
    omega (arith, place a.picture.part d (samples a.planes.now) a.marks.now (a.x, a.y) z, (ok a.picture.part d (samples a.planes.now) a.marks.now (a.x, a.y) z).fit.sides.most)

-- by `grind` here and of the marks below: it follows each way that an index may have come, so that an edit
-- there is refused for which macroblock it marks, and not for a branch
pub bounds-marks-i : goal.bounds-marks-i
bounds-marks-i c =
    let a = c.args in
    let d = given a.picture.size a.lent.now in
    let z = sym (by-told a.survey a.picture.part (given a.picture.size a.lent.now) (samples a.planes.now, a.marks.now) (a.x, a.y) c.requires c.in_ok-check_early.ensures) in
    grind (arith, place a.picture.part d (samples a.planes.now) a.marks.now (a.x, a.y) z, (ok a.picture.part d (samples a.planes.now) a.marks.now (a.x, a.y) z).marks)

pub returns-clause-outcome : goal.returns-clause-outcome
returns-clause-outcome c =
    let a = c.args in
    let d = given a.picture.size a.lent.now in
    let p = samples a.planes.now in
    let z = sym (by-told a.survey a.picture.part (given a.picture.size a.lent.now) (samples a.planes.now, a.marks.now) (a.x, a.y) c.requires c.in_ok-check_early.ensures) in
    done-outcome (answer-late a.picture.size.w (early_in a.picture.part d) (p, a.marks.now) (a.x, a.y) z ∙ sym c.in_ok-check_ready.ensures)
    (c.filter_macroblock.ensures.is ∙ step-made a.picture.part d p a.marks.now (a.x, a.y) z) (ap (λ (i : ℕ). set a.marks.now i 1) (grind (arith, c.address-i.ensures)))
