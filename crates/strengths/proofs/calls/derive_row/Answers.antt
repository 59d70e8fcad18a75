use Rattle.std.proofs.Common.{◌≡◌, ◌+◌, ◌-◌, sym, arith, rules}
use Rattle.laws.proofs.Refusal.{passes}
use Rattle.motion.specs.Lent.{grids_of}
use Rattle.refusals.specs.Refusals.{number_of, code_of}
use Rattle.refusals.proofs.Codes.{code-positive}
use Rattle.sizes.proofs.Sized.{sized}
use Rattle.strengths.specs.Calls.{derive_row_checks}
use Rattle.strengths.proofs.RowOutcomes.{row-refused, whole_row}
use Rattle.strengths.proofs.calls.derive_row.Goals as goal

pub returns-in_err-check_row : goal.returns-in_err-check_row
returns-in_err-check_row c =
    let a = c.args in
    let s = a.source.now in
    let r = c.in_err-check_row.field-0.0 in
    let same : number_of c.from_residual.result ≡ code_of r = search rules in
    rw same (row-refused s.size s.field a.y a.kinds.now s.t8s.now (grids_of s.grids) a.strengths.now _ c.in_err-check_row.ensures (code-positive r))

pub returns : goal.returns
returns c =
    let a = c.args in
    let s = a.source.now in
    let z = sym c.in_ok-check_row.ensures in
    let h = (sized s.size (passes 1 (derive_row_checks s.size a.y a.kinds.now) tt z)).both.wide in
    whole_row s.size s.field a.y a.kinds.now s.t8s.now (grids_of s.grids) a.strengths.now _ (s.size.w - 1 + 1) _ (omega (arith, h)) z c.derive_stretch.ensures
