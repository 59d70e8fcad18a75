-- `load`: after r turns the first r rows are loaded. Assumes nothing.
use Prim.Native.Nat.{◌+◌, ◌*◌}
use mathlib.Core.Path.{◌≡◌}
use lib.ListN.{length}
use Rattle.laws.specs.Loop.{up_to}
use Rattle.batches.specs.Moves.{copied_row, empty_batch}
use Rattle.batches.proofs.moves.load.Given as goal

abbrev pub invariant-loop-r : goal.invariant-loop-r
invariant-loop-r g l = (length l.t ≡ 128) × (l.t ≡ up_to l.r (λ j. copied_row g.row.N (j * g.row.N) (l.at + j * l.stride) l.p) empty_batch)
