-- `strong`: after k turns the first k lines are filtered by their lanes. Assumes nothing.
use mathlib.Core.Path.{◌≡◌}
use lib.ListN.{length, get_or}
use Rattle.laws.specs.Loop.{up_to}
use Rattle.lines.specs.Luma.{strong_line}
use Rattle.lines.specs.Planes.{luma_at}
use Rattle.batches.proofs.luma_passes.strong.Given as goal

abbrev pub invariant-loop-k : goal.invariant-loop-k
invariant-loop-k l =
    (length l.r ≡ 128) × (l.r ≡ up_to l.k (λ j. luma_at (strong_line (get_or l.al j 0) l.beta) j 16) l.initial.r)
