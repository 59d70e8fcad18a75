-- `rows`: after each turn the rows from a up to it are filtered. Assumes nothing.
use Rattle.std.proofs.Common.{◌≡◌}
use Rattle.laws.specs.Loop.{span}
use Rattle.edges.specs.Laid.{layout_of, laid_row}
use Rattle.edges.specs.LentPlanes.{samples, SamePlanes}
use Rattle.edges.specs.Alike.{held_as}
use Rattle.edges.specs.Picture.{entries}
use Rattle.edges.proofs.picture.rows.Given as goal

abbrev pub invariant-loop-y : goal.invariant-loop-y
invariant-loop-y l =
    SamePlanes l.initial.planes l.planes
    × (samples l.planes ≡ span l.a l.y (laid_row (held_as l.picture.size.w (entries l.grids.strengths.now) l.grids.qps.now l.grids.t8s.now l.settings.offsets l.settings.on) (layout_of l.picture.part)) (samples l.initial.planes))
