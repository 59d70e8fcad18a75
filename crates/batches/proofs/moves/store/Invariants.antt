-- `store`: after r turns the first r rows are stored. Assumes nothing.
use Prim.Native.Nat.{◌+◌, ◌*◌}
use mathlib.Core.Path.{◌≡◌}
use Rattle.laws.specs.Loop.{up_to}
use Rattle.batches.specs.Moves.{copied_row}
use Rattle.batches.proofs.moves.store.Given as goal

abbrev pub invariant-loop-r : goal.invariant-loop-r
invariant-loop-r g l = l.p ≡ up_to l.r (λ j. copied_row g.row.N (l.at + j * l.stride) (j * g.row.N) l.t) l.initial.p
