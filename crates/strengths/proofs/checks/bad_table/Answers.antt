-- `bad_table`: of every entry, as a test of numbers. Assumes nothing.
use Rattle.std.proofs.Common.{◌∙◌, pos, rules}
use Rattle.laws.proofs.Some.{some-of-all}
use Rattle.strengths.specs.Checks.{not_picture, bad_table}
use Rattle.strengths.proofs.checks.bad_table.Goals as goal

pub returns : goal.returns
unfolding bad_table
returns c = c.any_bad.ensures not_picture (λ x b h. search rules) ∙ some-of-all not_picture (pos 0) c.args.pictures.now
