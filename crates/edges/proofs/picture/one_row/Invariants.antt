-- `one_row`: after x turns the first x macroblocks are filtered. Assumes nothing.
use Rattle.std.proofs.Common.{◌≡◌}
use Rattle.laws.specs.Loop.{up_to}
use Rattle.edges.specs.Laid.{layout_of, laid_mb}
use Rattle.edges.specs.LentPlanes.{samples, SamePlanes}
use Rattle.edges.specs.Alike.{held_as}
use Rattle.edges.specs.Picture.{entries}
use Rattle.edges.proofs.picture.one_row.Given as goal

abbrev pub invariant-loop-x : goal.invariant-loop-x
invariant-loop-x l =
    SamePlanes l.initial.planes l.planes
    × (samples l.planes ≡ up_to l.x (λ x. laid_mb (held_as l.picture.size.w (entries l.grids.strengths.now) l.grids.qps.now l.grids.t8s.now l.settings.offsets l.settings.on) (layout_of l.picture.part) x l.y) (samples l.initial.planes))
