use Rattle.std.proofs.Common.{refl, ap, ◌∙◌}
use Rattle.std.specs.Option.{is_some}
use Rattle.recordings.specs.Orders.{first_part}
use Rattle.recordings.specs.Tried.{recording}
use Rattle.recordings.proofs.Turns.{one-turn, two-turns}
use Rattle.recordings.proofs.both.turn_of_both.Goals as goal

pub returns-in_default-clause-is : goal.returns-in_default-clause-is
returns-in_default-clause-is c =
    let a = c.args in
    let two = c.in_default.is in
    one-turn (recording a.recorded.now) (c.first_part-part.ensures ∙ ap first_part c.is_some.ensures) a.way a.k _ _ _ c.turn.ensures.is (ap is_some two)

pub returns-in-Some-clause-is : goal.returns-in-Some-clause-is
returns-in-Some-clause-is c =
    let a = c.args in
    let r = c.args.recorded.now in
    two-turns (recording r) (c.first_part-part.ensures ∙ ap first_part c.is_some.ensures) a.way a.k _ _ _ c.turn.ensures.is (ap is_some c.in-Some.is)
    (c.turn-in-Some.ensures.is ∙ rw c.in-Some.is refl)
