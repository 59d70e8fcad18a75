use Rattle.std.proofs.Common.{◌≡◌, ◌+◌, length, ◌∙◌, arith, rules}
use Rattle.motion.specs.Lent.{grids_of}
use Rattle.refusals.specs.Refusals.{number_of, code_of}
use Rattle.refusals.proofs.Codes.{code-positive}
use Rattle.strengths.specs.Calls.{answer_at}
use Rattle.strengths.specs.Inner.{stretch_answer}
use Rattle.strengths.specs.Told.{known_of, kinds_of}
use Rattle.strengths.proofs.Along.{lengths-along, number-there, stretch-stop}
use Rattle.strengths.proofs.GridsFit.{grids-fit}
use Rattle.strengths.proofs.stretches.check_stretch.Goals as goal

pub at-known-requires : goal.at-known-requires
at-known-requires c =
    let a = c.args in
    let s = a.source.now in
    let g = grids_of s.grids in
    let x = c.loop-x.x in
    let y = a.stretch.y in
    let z = lengths-along s.size a.stretch.first x y s.t8s.now g a.strengths c.requires.strengths_value (omega (arith, c.requires.within, c.end-end.ensures)) in
    number-there s.size x y s.t8s.now g a.strengths (length (kinds_of a.told)) (grids-fit s.size x y s.t8s.now g a.strengths z) c.requires.told_value

pub returns-in_err-check_at : goal.returns-in_err-check_at
unfolding stretch_answer
returns-in_err-check_at c =
    let a = c.args in
    let s = a.source.now in
    let f = answer_at s.size a.stretch.y (known_of a.told) (kinds_of a.told) s.t8s.now (grids_of s.grids) a.strengths in
    let r = c.in_err-check_at.field-0.0 in
    let same : number_of c.from_residual.result ≡ code_of r = search rules in
    let e : code_of r ≡ f c.loop-x.x = rw c.at-known.ensures at c.in_err-check_at.ensures in
    same ∙ e ∙ stretch-stop a.stretch.first (a.stretch.last + 1) f c.loop-x.x c.loop-x.auto.x (omega (arith, c.loop-x-test.true, c.end-end.ensures)) c.loop-x.invariant (λ z. code-positive r (e ∙ z))
