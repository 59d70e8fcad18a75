-- `luma_edge`: the lines that `batches` filters are the edge's, by the rule of its level. Assumes nothing.
use mathlib.Core.Path.{◌∙◌}
use Rattle.lines.specs.Depth.{eight}
use Rattle.edges.specs.Edge.{luma_edge}
use Rattle.edges.specs.Picture.{entries}
use Rattle.edges.proofs.FourSegments.{long-segments}
use Rattle.edges.proofs.RulesByThresholds.{luma-by}
use Rattle.edges.proofs.edge.luma_edge.Goals as goal

pub returns : goal.returns
returns c =
    let a = c.args in
    rw (c.four_strengths.ensures, c.of_edge.ensures.is) at c.luma_lines.ensures
    ∙ long-segments _ _ _ a.lines.at a.lines.along a.lines.step a.plane.now
    ∙ (λ i. luma_edge (luma-by eight a.l i) (entries a.strengths.now) a.lines.at a.lines.along a.lines.step a.plane.now)
