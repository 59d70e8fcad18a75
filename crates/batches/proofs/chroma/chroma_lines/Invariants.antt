-- `chroma_lines`: after k turns the first k lines are filtered. Assumes nothing.
use Prim.Native.Nat.{◌+◌, ◌*◌, ◌/◌}
use mathlib.Core.Path.{◌≡◌}
use lib.ListN.{get_or}
use Rattle.laws.specs.Loop.{up_to}
use Rattle.lines.specs.Depth.{eight}
use Rattle.lines.specs.Planes.{chroma_at}
use Rattle.batches.specs.Lines.{chroma_with}
use Rattle.batches.proofs.chroma.chroma_lines.Given as goal

abbrev pub invariant-loop-k : goal.invariant-loop-k
invariant-loop-k l = l.plane ≡ up_to l.k (λ j. chroma_at (chroma_with eight l.l (get_or l.bs (j / 2) 0)) (l.lines.at + j * l.lines.along) l.lines.step) l.initial.plane
