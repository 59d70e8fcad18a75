-- `store_both`: after r turns the first r rows of both planes are stored. Assumes nothing.
use Prim.Native.Nat.{◌+◌, ◌*◌}
use mathlib.Core.Path.{◌≡◌}
use Rattle.laws.specs.Loop.{up_to}
use Rattle.batches.specs.Moves.{copied_row, row_moves}
use Rattle.batches.proofs.moves_both.store_both.Given as goal

abbrev pub invariant-loop-r : goal.invariant-loop-r
invariant-loop-r g l =
    (l.u ≡ up_to l.r (λ j. copied_row 8 (l.at + j * l.stride) (j * g.row.BY) l.t) l.initial.u)
    × (l.v ≡ up_to l.r (row_moves 8 l.at l.stride g.row.FROM g.row.BY l.t) l.initial.v)
