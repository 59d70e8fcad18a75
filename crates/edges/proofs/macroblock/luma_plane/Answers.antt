-- `luma_plane`: the two directions are those of the definition. Assumes nothing.
use Rattle.lines.specs.Depth.{eight}
use Rattle.edges.specs.Levels.{luma_level}
use Rattle.edges.specs.Macroblock.{luma_on}
use Rattle.edges.proofs.EdgeByEdge.{luma-both}
use Rattle.edges.proofs.macroblock.luma_plane.Goals as goal

pub returns : goal.returns
returns c =
    let a = c.args in
    luma-both a.strengths.now a.at.origin a.at.stride (luma_level eight a.m.left) (luma_level eight a.m.top) (luma_level eight a.m.inner)
    (luma_on a.on.left a.on.inner a.on.t8) (luma_on a.on.top a.on.inner a.on.t8) a.plane.now
    (rw (c.vertical.ensures, c.vertical-2.ensures, c.vertical-3.ensures) at c.luma_way.ensures) (rw (c.horizontal.ensures, c.horizontal-2.ensures, c.horizontal-3.ensures) at c.luma_way-2.ensures)
