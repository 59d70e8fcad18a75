-- `normal`: after k turns the first k lines are filtered by their caps. Assumes nothing.
use mathlib.Core.Path.{◌≡◌}
use lib.ListN.{length, get_or}
use Rattle.laws.specs.Loop.{up_to}
use Rattle.lines.specs.Depth.{eight}
use Rattle.lines.specs.Planes.{chroma_at}
use Rattle.narrow.specs.Capped.{capped_short}
use Rattle.batches.specs.Lines.{from_row}
use Rattle.batches.proofs.chroma_passes.normal.Given as goal

abbrev pub invariant-loop-k : goal.invariant-loop-k
invariant-loop-k g l =
    (length l.r ≡ 128)
    × (l.r ≡ up_to l.k (λ j. chroma_at (capped_short eight (get_or l.al j 0) (get_or l.be j 0) (get_or l.caps j 0)) (from_row g.row.ROW j) 16) l.initial.r)
