-- `filter_row`: after x turns the first x macroblocks are filtered. Assumes nothing.
use Rattle.std.proofs.Common.{◌≡◌}
use Rattle.laws.specs.Loop.{up_to}
use Rattle.edges.specs.Laid.{layout_of, laid_mb}
use Rattle.edges.specs.LentPlanes.{samples, SamePlanes}
use Rattle.pictures.specs.Checks.{held_of}
use Rattle.pictures.specs.LentData.{given}
use Rattle.pictures.proofs.macroblocks.filter_row.Given as goal

abbrev pub invariant-loop-x : goal.invariant-loop-x
invariant-loop-x l =
    SamePlanes l.initial.planes l.planes
    × (samples l.planes ≡ up_to l.x (λ x. laid_mb (held_of (given l.picture.size l.lent)) (layout_of l.picture.part) x l.y) (samples l.initial.planes))
