use Rattle.std.proofs.Common.{◌≡◌}
use Rattle.recordings.specs.Orders.{visits_to}
use Rattle.recordings.specs.Tried.{recording, tried, SameTried}
use Rattle.recordings.proofs.orders.visits_in.Given as goal

abbrev pub invariant-loop-k : goal.invariant-loop-k
invariant-loop-k l = record { same : SameTried l.initial.now l.now; is : tried l.now ≡ visits_to l.k l.way (recording l.recorded) (tried l.initial.now) }
