use Rattle.std.proofs.Common.{◌≡◌, ◌+◌, arith, rules}
use Rattle.motion.specs.Lent.{grids_of}
use Rattle.refusals.specs.Refusals.{number_of, code_of}
use Rattle.refusals.proofs.Codes.{code-positive}
use Rattle.strengths.specs.Told.{known_of, kinds_of}
use Rattle.strengths.proofs.Along.{lengths-first}
use Rattle.strengths.proofs.stretches.derive_stretch.Goals as goal

pub returns-in_err-check_lengths : goal.returns-in_err-check_lengths
returns-in_err-check_lengths c =
    let a = c.args in
    let s = a.source.now in
    let r = c.in_err-check_lengths.field-0.0 in
    let same : number_of c.from_residual.result ≡ code_of r = search rules in
    rw same
    (lengths-first s.size s.field a.stretch.y (known_of a.told) (kinds_of a.told) s.t8s.now (grids_of s.grids) a.strengths.now a.stretch.first (a.stretch.last + 1) _ (omega (arith, c.args.stretch.in_order)) c.in_err-check_lengths.ensures (code-positive r))
