use Rattle.recordings.specs.Tried.{recording}
use Rattle.recordings.proofs.Turns.{by-wholes, by-visits}
use Rattle.recordings.proofs.orders.filter.Goals as goal

pub returns-then-is_whole-clause-is : goal.returns-then-is_whole-clause-is
returns-then-is_whole-clause-is c = by-wholes c.args.way (recording c.args.recorded.now) c.is_whole.ensures _ c.if-is_whole.true c.whole_of_both.ensures.is

pub returns-clause-is : goal.returns-clause-is
returns-clause-is c = by-visits c.args.way (recording c.args.recorded.now) c.is_whole.ensures _ c.if-is_whole.false c.visits_in.ensures.is
