-- `check_row_entries`: each check is by its test, of QPs and slice numbers from the first that is read.
-- Assumes nothing.
use Rattle.std.proofs.Common.{◌*◌, ℕ, Bool, [], ◌∷◌, ap, ◌∙◌}
use Rattle.laws.specs.Refusal.{refusal}
use Rattle.slices.specs.LentSlicing.{slicing_of}
use Rattle.slices.specs.Slicing.{some_bad_number}
use Rattle.pictures.specs.Checks.{bad_qp, some_bad}
use Rattle.pictures.proofs.row_checks.check_row_entries.Goals as goal

pub returns : goal.returns
returns c =
    let a = c.args in
    let d = a.lent.now in
    let last = a.b * a.size.w in
    let qp : ℕ → Bool = λ first. some_bad bad_qp first last d.grids.qps.now in
    let number : ℕ → Bool = λ first. some_bad_number (slicing_of d.slicing) (λ bad xs. some_bad bad first last xs) in
    let from = c.qps_from-read_from.ensures in
    c.check.ensures
    ∙ (λ i.
    refusal
    ((7, c.any_bad_flag.ensures i) ∷ (8, (c.any_bad_qp.ensures ∙ ap qp from) i) ∷ (9, c.any_bad_strength.ensures i) ∷ (20, (c.any_bad_number.ensures ∙ ap number from) i)
    ∷ (21, c.has_bad_mode.ensures i) ∷ []))
