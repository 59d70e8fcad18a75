-- `filter_busy`: the code takes the macroblock's own settings. Assumes nothing.
use Rattle.std.proofs.Common.{◌∙◌}
use Rattle.edges.specs.Laid.{layout_of}
use Rattle.edges.specs.LentPlanes.{samples}
use Rattle.edges.specs.Picture.{entries}
use Rattle.slices.specs.LentSlicing.{slicing_of}
use Rattle.slices.proofs.Own.{laid-own}
use Rattle.pictures.proofs.macroblocks.filter_busy.Goals as goal

pub returns-clause-is : goal.returns-clause-is
returns-clause-is c =
    let a = c.args in
    let d = a.lent.now in
    c.filter_edges.ensures.is
    ∙ laid-own (slicing_of d.slicing) a.place.w (entries d.grids.strengths.now) d.grids.qps.now d.grids.t8s.now a.place.x a.place.y _ _ c.settings_at-settings.ensures (layout_of a.part) (samples a.planes.now)
