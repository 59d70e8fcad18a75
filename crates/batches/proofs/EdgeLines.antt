-- The lines of an edge, or of two chroma edges in each plane, are what the batch makes of them. Assumes
-- nothing.
use mathlib.Core.Path.{◌≡◌, ap, ◌∙◌}
use mathlib.Core.Bool.{true, cond}
use mathlib.Core.Logic.{◌⊎◌, inl, inr, ⊎_elim}
use Prim.Native.Nat.{ℕ, ◌+◌, ◌*◌, ◌%◌, ◌<◌}
use native.Mathlib.Nat.{zero-add}
use native.Mathlib.Omega.{arith}
use borrow.Author.Tests.{lt-ltb, le-ltb, eqb-true}
use lib.Dec.{eqb}
use lib.ListN.{length}
use Rattle.laws.specs.Loop.{up_to}
use Rattle.laws.specs.Places.{Plane, line_at}
use Rattle.laws.proofs.Bools.{or-true}
use Rattle.laws.proofs.Loop.{up_to-same, up_to-idle}
use Rattle.lines.specs.Depth.{Depth}
use Rattle.lines.specs.Planes.{on_line, on_short, luma_at, chroma_at}
use Rattle.batches.specs.Lines.{segment_strength, luma_with, chroma_with, long_lines, short_lines, Straight, upper, lower, long_at, u_or_v, uv_strength, short_at}
use Rattle.batches.specs.Lanes.{no_strength, still_edge}
use Rattle.batches.specs.Moves.{taken, taken_both, stored}
use Rattle.batches.specs.declared.lanes.Four.{Four}
use Rattle.batches.specs.declared.lanes.Thresholds.{Thresholds}
use Rattle.batches.proofs.Segments.{no-strength-at}
use Rattle.batches.proofs.Shapes.{luma_shape, chroma_shape, stays}
use Rattle.batches.proofs.Loads.{long-is, pair-u, pair-v}

-- ---- where no line can change, none does
why-still : (s : Four) (l : Thresholds) → still_edge s l ≡ true → (n k : ℕ) → (segment_strength n s k ≡ 0) ⊎ (l.alpha ≡ 0)
why-still s l e n k = ⊎_elim (λ z. inl (no-strength-at s z n k)) (λ z. inr (eqb-true l.alpha 0 z)) (or-true (no_strength s) (eqb l.alpha 0) e)

module _ (d : Depth) (s : Four) (l : Thresholds) (at along step : ℕ) (xs : Plane) where
  pub long-still : still_edge s l ≡ true → long_lines d s l at along step xs ≡ xs
  unfolding long_lines luma_at luma_shape
  long-still e = up_to-idle 16 _ xs (λ k u h. stays (luma_shape d) l (at + k * along) step u (segment_strength 4 s k) (why-still s l e 4 k))

  pub short_still : still_edge s l ≡ true → short_lines d s l at along step xs ≡ xs
  unfolding short_lines chroma_at chroma_shape
  short_still e = up_to-idle 8 _ xs (λ k u h. stays (chroma_shape d) l (at + k * along) step u (segment_strength 2 s k) (why-still s l e 2 k))

  -- ---- a luma edge
  pub long-edge : Straight 16 along step → at + 15 * along + 7 * step < length xs → stored 0 16 at along step (up_to 16 (long_at d s l) (taken at along step xs)) xs ≡ long_lines d s l at along step xs
  unfolding long_lines luma_at
  long-edge w h =
      long-is at along step xs (λ k. on_line (luma_with d l (segment_strength 4 s k))) w h
      ∙ up_to-same 16 _ _ xs (λ k u b. ap (λ (n : ℕ). line_at 6 (on_line (luma_with d l (segment_strength 4 s n))) (at + k * along) step u) (zero-add k))

-- ---- two chroma edges: the first eight lines of the batch are U's, the others V's
module _ (d : Depth) (s : Four) (l m : Thresholds) (at along step : ℕ) (xs : Plane) where
  u-lines : up_to 8 (λ k. line_at 2 (on_short (chroma_with d (u_or_v l m (0 + k)) (uv_strength s (0 + k)))) (at + k * along) step) xs ≡ short_lines d s l at along step xs
  unfolding short_lines chroma_at
  u-lines = up_to-same 8 _ _ xs (λ k u h. λ i. line_at 2 (on_short (chroma_with d (cond (lt-ltb (0 + k) 8 (omega arith) i) l m) (segment_strength 2 s (own k h i)))) (at + k * along) step u)
    where
      own : (k : ℕ) → k < 8 → (0 + k) % 8 ≡ k
      own k h = omega arith

  v-lines : up_to 8 (λ k. line_at 2 (on_short (chroma_with d (u_or_v l m (8 + k)) (uv_strength s (8 + k)))) (at + k * along) step) xs ≡ short_lines d s m at along step xs
  unfolding short_lines chroma_at
  v-lines = up_to-same 8 _ _ xs (λ k u h. λ i. line_at 2 (on_short (chroma_with d (cond (le-ltb (8 + k) 8 (omega arith) i) l m) (segment_strength 2 s (own k h i)))) (at + k * along) step u)
    where
      own : (k : ℕ) → k < 8 → (8 + k) % 8 ≡ k
      own k h = omega arith

-- s, l and m are the first edge's strengths and thresholds, r, n and o the second's
module _ (d : Depth) (s r : Four) (l m n o : Thresholds) (at along step : ℕ) (us vs : Plane) (w : Straight 8 along step) where
  abbrev filtered : Plane
  filtered = up_to 16 (short_at d lower r n o) (up_to 16 (short_at d upper s l m) (taken_both at along step us vs))

  pub edges-u : at + 7 * along + 7 * step < length us
      → stored 0 8 at along step filtered us ≡ short_lines d r n (at + 4 * step) along step (short_lines d s l at along step us)
  unfolding chroma_at
  edges-u h =
      pair-u at along step us vs (λ k. on_short (chroma_with d (u_or_v l m k) (uv_strength s k))) (λ k. on_short (chroma_with d (u_or_v n o k) (uv_strength r k))) w h
      ∙ u-lines d r n o (at + 4 * step) along step _
      ∙ ap (short_lines d r n (at + 4 * step) along step) (u-lines d s l m at along step us)

  pub edges-v : at + 7 * along + 7 * step < length vs
      → stored 8 8 at along step filtered vs ≡ short_lines d r o (at + 4 * step) along step (short_lines d s m at along step vs)
  unfolding chroma_at
  edges-v h =
      pair-v at along step us vs (λ k. on_short (chroma_with d (u_or_v l m k) (uv_strength s k))) (λ k. on_short (chroma_with d (u_or_v n o k) (uv_strength r k))) w h
      ∙ v-lines d r n o (at + 4 * step) along step _
      ∙ ap (short_lines d r o (at + 4 * step) along step) (v-lines d s l m at along step vs)

-- s and l are the first edge's, r and m the second's
pub pair-still : (d : Depth) (s r : Four) (l m : Thresholds) (at along step : ℕ) (xs : Plane) → still_edge s l ≡ true → still_edge r m ≡ true
    → short_lines d r m (at + 4 * step) along step (short_lines d s l at along step xs) ≡ xs
pair-still d s r l m at along step xs e f = short_still d r m (at + 4 * step) along step _ f ∙ short_still d s l at along step xs e
