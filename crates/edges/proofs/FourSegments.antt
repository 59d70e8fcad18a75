-- An edge by the strengths of its four segments, as `batches` is lent them. Assumes nothing.
use mathlib.Core.Path.{◌≡◌, refl, ap, ◌∙◌}
use mathlib.Core.List.{[], ◌∷◌}
use Prim.Native.Nat.{ℕ, zero, suc, ◌+◌, ◌*◌, ◌/◌, ◌<◌}
use native.Mathlib.Omega.{arith}
use lib.ListN.{get_or}
use Rattle.laws.specs.Places.{Plane}
use Rattle.laws.proofs.Loop.{up_to-same}
use Rattle.lines.specs.Depth.{Depth}
use Rattle.lines.specs.Planes.{luma_at, chroma_at}
use Rattle.batches.specs.Lines.{luma_with, chroma_with, long_lines, short_lines}
use Rattle.batches.specs.declared.lanes.Thresholds.{Thresholds}
use Rattle.edges.specs.Edge.{luma_edge, chroma_edge}
use Rattle.edges.specs.Levels.{four_of}

of_four : (strengths : ℕ → ℕ) (q : ℕ) → q < 4 → get_or (strengths 0 ∷ strengths 1 ∷ strengths 2 ∷ strengths 3 ∷ []) q 0 ≡ strengths q
of_four strengths zero h = refl
of_four strengths (suc zero) h = refl
of_four strengths (suc (suc zero)) h = refl
of_four strengths (suc (suc (suc zero))) h = refl
of_four strengths (suc (suc (suc (suc q)))) h = absurd (none h)
  where
    none : suc (suc (suc (suc q))) < 4 → ⊥
    none h = omega arith

module _ (d : Depth) (strengths : ℕ → ℕ) (l : Thresholds) (at along step : ℕ) (s : Plane) where
  pub long-segments : long_lines d (four_of strengths) l at along step s ≡ luma_edge (luma_with d l) strengths at along step s
  unfolding long_lines luma_edge
  long-segments = up_to-same 16 _ _ s (λ k t h. λ i. luma_at (luma_with d l (of_four strengths (k / 4) (omega arith) i)) (at + k * along) step t)

  pub short-segments : short_lines d (four_of strengths) l at along step s ≡ chroma_edge (chroma_with d l) strengths at along step s
  unfolding short_lines chroma_edge
  short-segments = up_to-same 8 _ _ s (λ k t h. λ i. chroma_at (chroma_with d l (of_four strengths (k / 2) (omega arith) i)) (at + k * along) step t)

-- two chroma edges: the first by `strengths` and the thresholds l, the second by ds and m
pub pair-segments : (d : Depth) (strengths ds : ℕ → ℕ) (l m : Thresholds) (at along step : ℕ) (s : Plane)
    → short_lines d (four_of ds) m (at + 4 * step) along step (short_lines d (four_of strengths) l at along step s)
    ≡ chroma_edge (chroma_with d m) ds (at + 4 * step) along step (chroma_edge (chroma_with d l) strengths at along step s)
pair-segments d strengths ds l m at along step s =
    short-segments d ds m (at + 4 * step) along step _ ∙ ap (chroma_edge (chroma_with d m) ds (at + 4 * step) along step) (short-segments d strengths l at along step s)
