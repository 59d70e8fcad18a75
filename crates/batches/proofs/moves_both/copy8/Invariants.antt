-- `copy8`: after k turns the first k samples are copied. Assumes nothing.
use mathlib.Core.Path.{◌≡◌}
use Rattle.laws.specs.Loop.{up_to}
use Rattle.batches.specs.Moves.{copies}
use Rattle.batches.proofs.moves_both.copy8.Given as goal

abbrev pub invariant-loop-k : goal.invariant-loop-k
invariant-loop-k l = l.t ≡ up_to l.k (copies l.to l.from l.p) l.initial.t
