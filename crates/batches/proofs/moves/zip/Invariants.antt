-- `zip`: after k turns the first k samples of either half stand in their places. Assumes nothing.
use mathlib.Core.Path.{◌≡◌}
use lib.ListN.{length}
use Rattle.laws.specs.Loop.{up_to}
use Rattle.batches.specs.Moves.{zips, empty_batch}
use Rattle.batches.proofs.moves.zip.Given as goal

abbrev pub invariant-loop-k : goal.invariant-loop-k
invariant-loop-k l = (length l.b ≡ 128) × (l.b ≡ up_to l.k (zips 64 l.a) empty_batch)
