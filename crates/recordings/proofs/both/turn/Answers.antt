use Rattle.recordings.proofs.Turns.{turn}
use Rattle.recordings.proofs.both.turn.Goals as goal

pub returns-clause-is : goal.returns-clause-is
returns-clause-is c =
    let a = c.args in
    turn a.way a.ahead a.part _ a.recorded.now.n a.k c.place-i.ensures c.column-x.ensures c.row-y.ensures c.visit.ensures.outcome
