-- `chroma_edges`: the lines that `batches` filters are the edges', by the rules of their levels. Assumes
-- nothing.
use mathlib.Core.Path.{◌≡◌, ◌∙◌}
use Prim.Native.Nat.{ℕ, ◌+◌, ◌*◌}
use Rattle.laws.specs.Places.{Plane}
use Rattle.lines.specs.Depth.{eight}
use Rattle.batches.specs.Lines.{chroma_with}
use Rattle.edges.specs.Edge.{chroma_edge}
use Rattle.edges.specs.Levels.{thresholds_by, both_of, chroma_level}
use Rattle.edges.specs.declared.levels.Level.{Level}
use Rattle.edges.proofs.EdgeByEdge.{after-rest}
use Rattle.edges.proofs.FourSegments.{pair-segments}
use Rattle.edges.proofs.RulesByThresholds.{chroma-by}
use Rattle.edges.proofs.edge.chroma_edges.Goals as goal

-- the rules of two edges, one after the other
by-levels : (f g : ℕ → ℕ) (l m : Level) (at along step : ℕ) (s : Plane)
    → chroma_edge (chroma_with eight (thresholds_by eight m)) g (at + 4 * step) along step (chroma_edge (chroma_with eight (thresholds_by eight l)) f at along step s)
    ≡ chroma_edge (chroma_level eight m) g (at + 4 * step) along step (chroma_edge (chroma_level eight l) f at along step s)
by-levels f g l m at along step s = λ i. chroma_edge (chroma-by eight m i) g (at + 4 * step) along step (chroma_edge (chroma-by eight l i) f at along step s)

-- .. and of the second one's strengths, which are lent as a slice
pub returns : goal.returns
returns c =
    let a = c.args in
    let inside = c.both-inside.ensures.is ∙ (λ i. both_of (after-rest a.strengths.now 8 i) (thresholds_by eight a.by.u.inside) (thresholds_by eight a.by.v.inside)) in
    let e = rw (inside, c.both-border.ensures.is) at c.chroma_pair.ensures.u_after in
    let f = rw (inside, c.both-border.ensures.is) at c.chroma_pair.ensures.v_after in
    record {
      u_after = e ∙ pair-segments _ _ _ _ _ a.lines.at a.lines.along a.lines.step a.u.now ∙ by-levels _ _ a.by.u.border a.by.u.inside a.lines.at a.lines.along a.lines.step a.u.now;
      v_after = f ∙ pair-segments _ _ _ _ _ a.lines.at a.lines.along a.lines.step a.v.now ∙ by-levels _ _ a.by.v.border a.by.v.inside a.lines.at a.lines.along a.lines.step a.v.now;
    }
