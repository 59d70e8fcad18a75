-- `moves_both::load_rows`: after r turns the first r rows of both planes are loaded. Assumes nothing.
use Prim.Native.Nat.{◌+◌, ◌*◌}
use mathlib.Core.Path.{◌≡◌}
use lib.ListN.{length}
use Rattle.laws.specs.Loop.{up_to}
use Rattle.batches.specs.Moves.{copied_row, empty_batch}
use Rattle.batches.proofs.moves_both.load_rows.Given as goal

abbrev pub invariant-loop-r : goal.invariant-loop-r
invariant-loop-r l =
    (length l.t ≡ 128)
    × (l.t ≡ up_to l.r (λ j t. copied_row 8 (j * 16) (l.at + j * l.stride) l.u (copied_row 8 (8 + j * 16) (l.at + j * l.stride) l.v t)) empty_batch)
