-- The edges of a macroblock carried to a larger plane: where each place of a line sits at the line's place in
-- the large plane, filtering there is filtering the small one. Assumes nothing.
use mathlib.Core.Bool.{Bool}
use mathlib.Core.List.{List}
use Prim.Native.Nat.{ℕ, ◌+◌, ◌-◌, ◌*◌, ◌/◌, ◌<◌}
use lib.Dec.{T}
use Rattle.laws.specs.Places.{Plane}
use Rattle.lines.specs.Planes.{on_line, on_short, luma_at, chroma_at}
use Rattle.fields.specs.Carried.{View, Sits, Carried}
use Rattle.fields.proofs.Carrying.{carried-after, carried-up_to, carried-when, line_at-carried}
use Rattle.edges.specs.Edge.{LumaRule, ChromaRule, luma_edge, chroma_edge}
use Rattle.edges.specs.Macroblock.{after, edges, outer_or, luma_way, chroma_way, luma_both, chroma_both}

-- an edge: `lines` of them, `half` samples on each side
abbrev EdgeOn : List ℕ → ℕ → ℕ → ℕ → ℕ → ℕ → ℕ → ℕ → ℕ → Type 0
EdgeOn L lines half at along step at' along' step' =
    (j : ℕ) → j < lines → (k : ℕ) → k < half + half → Sits L (at + j * along + k * step) (at' + j * along' + k * step')

-- the edges of one direction that are on
abbrev pub WayOn : List ℕ → ℕ → ℕ → ℕ → (ℕ → Bool) → ℕ → ℕ → ℕ → ℕ → ℕ → ℕ → Type 0
WayOn L lines half n on origin along step origin' along' step' =
    (e : ℕ) → e < n → T (on e)
    → EdgeOn L lines half (origin + e * (4 * step) - half * step) along step (origin' + e * (4 * step') - half * step') along' step'

module _ (m : ℕ) (L : List ℕ) (w : View m L) where
  luma_edge-carried : (rule : LumaRule) (bs : ℕ → ℕ) (at along step at' along' step' : ℕ) → EdgeOn L 16 4 at along step at' along' step'
      → Carried m L (luma_edge rule bs at along step) (luma_edge rule bs at' along' step')
  unfolding luma_edge luma_at
  luma_edge-carried rule bs at along step at' along' step' h =
      carried-up_to m L 16 _ _ (λ j l. line_at-carried m L w 6 (on_line (rule (bs (j / 4)))) (at + j * along) step (at' + j * along') step' (h j l))

  chroma_edge-carried : (rule : ChromaRule) (bs : ℕ → ℕ) (at along step at' along' step' : ℕ) → EdgeOn L 8 2 at along step at' along' step'
      → Carried m L (chroma_edge rule bs at along step) (chroma_edge rule bs at' along' step')
  unfolding chroma_edge chroma_at
  chroma_edge-carried rule bs at along step at' along' step' h =
      carried-up_to m L 8 _ _ (λ j l. line_at-carried m L w 2 (on_short (rule (bs (j / 2)))) (at + j * along) step (at' + j * along') step' (h j l))

  edges-carried : (n half : ℕ) (on : ℕ → Bool) (edge edge' : ℕ → ℕ → Plane → Plane) (origin step origin' step' : ℕ)
      → ((e : ℕ) → e < n → T (on e) → Carried m L (edge e (origin + e * (4 * step) - half * step)) (edge' e (origin' + e * (4 * step') - half * step')))
      → Carried m L (edges n half on edge origin step) (edges n half on edge' origin' step')
  edges-carried n half on edge edge' origin step origin' step' h = carried-up_to m L n _ _ (λ e l. carried-when m L (on e) _ _ (h e l))

  module _ (origin along step origin' along' step' : ℕ) where
    luma_way-carried : (border inside : LumaRule) (on : ℕ → Bool) (bs : ℕ → ℕ) → WayOn L 16 4 4 on origin along step origin' along' step'
        → Carried m L (luma_way border inside on bs origin along step) (luma_way border inside on bs origin' along' step')
    unfolding luma_way
    luma_way-carried border inside on bs h =
        edges-carried 4 4 on (λ e at. luma_edge (outer_or border inside e) (after (4 * e) bs) at along step)
        (λ e at. luma_edge (outer_or border inside e) (after (4 * e) bs) at along' step') origin step origin' step'
        (λ e l t. luma_edge-carried (outer_or border inside e) (after (4 * e) bs) _ along step _ along' step' (h e l t))

    chroma_way-carried : (border inside : ChromaRule) (on : ℕ → Bool) (bs : ℕ → ℕ) → WayOn L 8 2 2 on origin along step origin' along' step'
        → Carried m L (chroma_way border inside on bs origin along step) (chroma_way border inside on bs origin' along' step')
    unfolding chroma_way
    chroma_way-carried border inside on bs h =
        edges-carried 2 2 on (λ e at. chroma_edge (outer_or border inside e) (after (8 * e) bs) at along step)
        (λ e at. chroma_edge (outer_or border inside e) (after (8 * e) bs) at along' step') origin step origin' step'
        (λ e l t. chroma_edge-carried (outer_or border inside e) (after (8 * e) bs) _ along step _ along' step' (h e l t))

  module _ (origin stride origin' stride' : ℕ) (across down : ℕ → Bool) (bs : ℕ → ℕ) where
    pub luma_both-carried : (l t i : LumaRule) → WayOn L 16 4 4 across origin stride 1 origin' stride' 1 → WayOn L 16 4 4 down origin 1 stride origin' 1 stride'
        → Carried m L (luma_both l t i across down bs origin stride) (luma_both l t i across down bs origin' stride')
    unfolding luma_both
    luma_both-carried l t i h k =
        carried-after m L _ _ _ _ (luma_way-carried origin 1 stride origin' 1 stride' t i down (after 16 bs) k)
        (luma_way-carried origin stride 1 origin' stride' 1 l i across bs h)

    pub chroma_both-carried : (l t i : ChromaRule) → WayOn L 8 2 2 across origin stride 1 origin' stride' 1 → WayOn L 8 2 2 down origin 1 stride origin' 1 stride'
        → Carried m L (chroma_both l t i across down bs origin stride) (chroma_both l t i across down bs origin' stride')
    unfolding chroma_both
    chroma_both-carried l t i h k =
        carried-after m L _ _ _ _ (chroma_way-carried origin 1 stride origin' 1 stride' t i down (after 16 bs) k)
        (chroma_way-carried origin stride 1 origin' stride' 1 l i across bs h)
