-- `any_bad_qp`: the closure's test, of the entries from a to b. Assumes nothing.
use Rattle.std.proofs.Common.{rules, ◌∙◌}
use Rattle.pictures.specs.Checks.{bad_qp}
use Rattle.pictures.proofs.SomeBad.{any-some-bad}
use Rattle.pictures.proofs.row_checks.any_bad_qp.Goals as goal

pub returns : goal.returns
returns c = c.any_bad.ensures bad_qp (λ x b h. search rules) ∙ any-some-bad bad_qp c.args.a c.args.b c.args.qps.now c.requires.0 c.requires.1
