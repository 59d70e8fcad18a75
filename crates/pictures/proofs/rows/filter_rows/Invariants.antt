-- `filter_rows`: after each turn the rows from a up to it are filtered. Assumes nothing.
use Rattle.std.proofs.Common.{◌≡◌}
use Rattle.laws.specs.Loop.{span}
use Rattle.edges.specs.Laid.{layout_of, laid_row}
use Rattle.edges.specs.LentPlanes.{samples, SamePlanes}
use Rattle.pictures.specs.Checks.{held_of}
use Rattle.pictures.specs.LentData.{given}
use Rattle.pictures.proofs.rows.filter_rows.Given as goal

abbrev pub invariant-loop-y : goal.invariant-loop-y
invariant-loop-y l =
    SamePlanes l.initial.planes l.planes
    × (samples l.planes ≡ span l.a l.y (laid_row (held_of (given l.picture.size l.lent)) (layout_of l.picture.part)) (samples l.initial.planes))
