-- `any_bad_strength`: the closure's test, of the entries from 32 * a to 32 * b. Assumes nothing.
use Rattle.std.proofs.Common.{rules, ltb, ◌*◌, ◌∙◌, arith}
use Rattle.pictures.proofs.SomeBad.{any-some-bad}
use Rattle.pictures.proofs.checks.any_bad_strength.Goals as goal

pub returns : goal.returns
returns c = c.any_bad.ensures (ltb 4) (λ x b h. search rules) ∙ any-some-bad (ltb 4) (32 * c.args.a) (32 * c.args.b) c.args.strengths.now (omega (arith, c.requires)) (omega (arith, c.requires))
