-- `normal`: after k turns the first k lines are filtered by their caps. Assumes nothing.
use mathlib.Core.Path.{◌≡◌}
use lib.ListN.{length, get_or}
use Rattle.laws.specs.Loop.{up_to}
use Rattle.lines.specs.Depth.{eight}
use Rattle.lines.specs.Planes.{luma_at}
use Rattle.narrow.specs.Capped.{capped_line}
use Rattle.batches.proofs.luma_passes.normal.Given as goal

abbrev pub invariant-loop-k : goal.invariant-loop-k
invariant-loop-k l =
    (length l.r ≡ 128) × (l.r ≡ up_to l.k (λ j. luma_at (capped_line eight l.alpha l.beta (get_or l.caps j 0)) j 16) l.initial.r)
