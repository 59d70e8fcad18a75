use Rattle.std.proofs.Common.{refl, ap, ◌∙◌}
use Rattle.std.specs.Option.{is_some}
use Rattle.recordings.specs.Orders.{first_part}
use Rattle.recordings.specs.Tried.{recording}
use Rattle.recordings.proofs.Turns.{one-whole, two-wholes}
use Rattle.recordings.proofs.both.whole_of_both.Goals as goal

pub returns-in_default-clause-is : goal.returns-in_default-clause-is
returns-in_default-clause-is c =
    let a = c.args in
    one-whole (recording a.recorded.now) (c.first_part-part.ensures ∙ ap first_part c.is_some.ensures) _ c.whole.ensures.is (ap is_some c.in_default.is)

pub returns-in-Some-clause-is : goal.returns-in-Some-clause-is
returns-in-Some-clause-is c =
    let a = c.args in
    let r = c.args.recorded.now in
    two-wholes (recording r) (c.first_part-part.ensures ∙ ap first_part c.is_some.ensures) _ c.whole.ensures.is (ap is_some c.in-Some.is) (c.whole-in-Some.ensures.is ∙ rw c.in-Some.is refl)
