-- `chroma_planes`: the two directions are those of the definition, in both planes. Assumes nothing.
use Rattle.lines.specs.Depth.{eight}
use Rattle.edges.specs.Levels.{chroma_level}
use Rattle.edges.specs.Macroblock.{outer_or}
use Rattle.edges.proofs.EdgeByEdge.{chroma-both}
use Rattle.edges.proofs.macroblock.chroma_planes.Goals as goal

pub returns-clause-u_after : goal.returns-clause-u_after
returns-clause-u_after c =
    let a = c.args in
    chroma-both a.strengths.now a.at.origin a.at.stride (chroma_level eight a.m.u.left) (chroma_level eight a.m.u.top) (chroma_level eight a.m.u.inner)
    (outer_or a.on.left a.on.inner) (outer_or a.on.top a.on.inner) a.u.now
    (rw (c.vertical.ensures, c.vertical-2.ensures, c.vertical-3.ensures) at c.chroma_way.ensures.u_after) (rw (c.horizontal.ensures, c.horizontal-2.ensures, c.horizontal-3.ensures) at c.chroma_way-2.ensures.u_after)

pub returns-clause-v_after : goal.returns-clause-v_after
returns-clause-v_after c =
    let a = c.args in
    chroma-both a.strengths.now a.at.origin a.at.stride (chroma_level eight a.m.v.left) (chroma_level eight a.m.v.top) (chroma_level eight a.m.v.inner)
    (outer_or a.on.left a.on.inner) (outer_or a.on.top a.on.inner) a.v.now
    (rw (c.vertical.ensures, c.vertical-2.ensures, c.vertical-3.ensures) at c.chroma_way.ensures.v_after) (rw (c.horizontal.ensures, c.horizontal-2.ensures, c.horizontal-3.ensures) at c.chroma_way-2.ensures.v_after)
