-- The fields that are lent, as the theory has them, and that they are still those that were lent, as long as
-- before.
use Rattle.std.specs.Prelude.{◌≡◌, length}
use Rattle.edges.specs.LentPlanes.{samples, SamePlanes}
use Rattle.slices.specs.LentSlicing.{slicing_of}
use Rattle.pictures.specs.declared.Lent.{Lent}
use Rattle.interlaced.specs.Both.{OfField, of_field_by, Both, both}
use Rattle.interlaced.specs.declared.Interlaced.{Interlaced}

abbrev pub of_field_lent : Lent → OfField
of_field_lent d = of_field_by (slicing_of d.slicing) d.grids.strengths.now d.grids.qps.now d.grids.t8s.now

abbrev pub interlaced_of : Interlaced → Both
interlaced_of u = both (samples u.frame) u.top.now u.bottom.now

pub record SameBoth (u v : Interlaced) : Type 0 where
  pub frame : SamePlanes u.frame v.frame
  pub top : v.top.ghost_name ≡ u.top.ghost_name
  pub bottom : v.bottom.ghost_name ≡ u.bottom.ghost_name
  pub top_length : length v.top.now ≡ length u.top.now
  pub bottom_length : length v.bottom.now ≡ length u.bottom.now
