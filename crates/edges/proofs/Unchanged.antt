-- What changes nothing: an edge where no line can change, and all of a macroblock whose strengths are all 0.
-- Assumes nothing.
use mathlib.Core.Path.{◌≡◌, refl, ap, ◌∙◌}
use mathlib.Core.Bool.{Bool, true, ◌&&◌}
use Prim.Native.Nat.{ℕ, zero, suc, ◌+◌, ◌-◌, ◌*◌, ◌/◌, ◌<◌}
use native.Mathlib.Nat.{not-suc-le-zero}
use native.Mathlib.Decide.{ℕ_discrete}
use native.Mathlib.Omega.{arith}
use borrow.Author.Tests.{eqb-true}
use lib.Dec.{eqb}
use lib.IntN.{ℤ}
use Rattle.laws.proofs.Bools.{and-true}
use Rattle.laws.specs.Loop.{up_to}
use Rattle.laws.specs.Places.{Plane}
use Rattle.laws.proofs.Cond.{cond_both}
use Rattle.laws.proofs.Loop.{up_to-idle}
use Rattle.lines.specs.Luma.{kept}
use Rattle.lines.specs.declared.luma.Line.{Line}
use Rattle.lines.specs.Chroma.{same}
use Rattle.lines.specs.declared.chroma.Short.{Short}
use Rattle.lines.proofs.AnyLine.{luma_at-kept, chroma_at-kept}
use Rattle.lines.proofs.Strengths.{luma-none, chroma-none}
use Rattle.lines.specs.Depth.{Depth}
use Rattle.edges.specs.Edge.{LumaRule, ChromaRule, luma_rule, chroma_rule, luma_edge, chroma_edge}
use Rattle.edges.specs.Macroblock.{Settings, after, outer_or, luma_way, chroma_way, luma_both, chroma_both, luma_mb, chroma_mb}
use Rattle.edges.specs.Inner.{all_zero}
use Rattle.edges.specs.Laid.{far_of, window_of, luma_in, chroma_in, laid_mb}
use Rattle.edges.specs.declared.plan.Layout.{Layout}
use Rattle.edges.specs.Picture.{Planes, Held, settings_at, origin_of, luma_of, chroma_of, macroblock_at}

-- ---- an edge
module _ (strengths : ℕ → ℕ) (at along step : ℕ) (s : Plane) where
  -- a rule that keeps each line of the strengths that the edge has
  pub luma_edge-kept : (rule : LumaRule) → ((g : ℕ) → g < 4 → (l : Line) → rule (strengths g) l ≡ kept l) → luma_edge rule strengths at along step s ≡ s
  unfolding luma_edge
  luma_edge-kept rule h = up_to-idle 16 _ s (λ k t l. luma_at-kept (at + k * along) step t (rule (strengths (k / 4))) (h (k / 4) (omega arith)))

  pub chroma_edge-kept : (rule : ChromaRule) → ((g : ℕ) → g < 4 → (l : Short) → rule (strengths g) l ≡ same l) → chroma_edge rule strengths at along step s ≡ s
  unfolding chroma_edge
  chroma_edge-kept rule h = up_to-idle 8 _ s (λ k t l. chroma_at-kept (at + k * along) step t (rule (strengths (k / 2))) (h (k / 2) (omega arith)))

-- ---- a strength of 0
abbrev LumaIdle : LumaRule → Type 0
LumaIdle rule = (l : Line) → rule 0 l ≡ kept l

abbrev ChromaIdle : ChromaRule → Type 0
ChromaIdle rule = (l : Short) → rule 0 l ≡ same l

module _ (d : Depth) (a b qp : ℤ) where
  luma-zero : LumaIdle (luma_rule d a b qp)
  unfolding luma_rule
  luma-zero l = luma-none d 0 _ _ _ refl l

  chroma-zero : ChromaIdle (chroma_rule d a b qp)
  unfolding chroma_rule
  chroma-zero l = chroma-none d 0 _ _ _ refl l

-- ---- the first n strengths are 0
abbrev pub Zeros : ℕ → (ℕ → ℕ) → Type 0
Zeros n strengths = (k : ℕ) → k < n → strengths k ≡ 0

module _ (strengths : ℕ → ℕ) (z : Zeros 16 strengths) (origin along step : ℕ) (s : Plane) where
  luma_way-zero : (border inside : LumaRule) (on : ℕ → Bool) → LumaIdle border → LumaIdle inside
      → luma_way border inside on strengths origin along step s ≡ s
  unfolding luma_way
  luma_way-zero border inside on h k =
      up_to-idle 4 _ s (λ e t l. cond_both (λ (p : Plane). p ≡ t) (on e)
      (luma_edge-kept (after (4 * e) strengths) (origin + e * (4 * step) - 4 * step) along step t (outer_or border inside e)
      (λ g m v. ap (λ (n : ℕ). outer_or border inside e n v) (z (4 * e + g) (omega arith)) ∙ cond_both LumaIdle (eqb e 0) h k v)) refl)

  chroma_way-zero : (border inside : ChromaRule) (on : ℕ → Bool) → ChromaIdle border → ChromaIdle inside
      → chroma_way border inside on strengths origin along step s ≡ s
  unfolding chroma_way
  chroma_way-zero border inside on h k =
      up_to-idle 2 _ s (λ e t l. cond_both (λ (p : Plane). p ≡ t) (on e)
      (chroma_edge-kept (after (8 * e) strengths) (origin + e * (4 * step) - 2 * step) along step t (outer_or border inside e)
      (λ g m v. ap (λ (n : ℕ). outer_or border inside e n v) (z (8 * e + g) (omega arith)) ∙ cond_both ChromaIdle (eqb e 0) h k v)) refl)

-- ---- a macroblock
module _ (d : Depth) (q : Settings) (z : Zeros 32 q.strengths) (origin stride : ℕ) (s : Plane) where
  low : Zeros 16 q.strengths
  low k h = z k (omega arith)

  high : Zeros 16 (after 16 q.strengths)
  high k h = z (16 + k) (omega arith)

  pub luma_mb-zero : luma_mb d q origin stride s ≡ s
  unfolding luma_both
  luma_mb-zero =
      ap (luma_way _ _ _ (after 16 q.strengths) origin 1 stride) (luma_way-zero q.strengths low origin stride 1 s _ _ _ (luma-zero d _ _ _) (luma-zero d _ _ _))
      ∙ luma_way-zero (after 16 q.strengths) high origin 1 stride s _ _ _ (luma-zero d _ _ _) (luma-zero d _ _ _)

  pub chroma_mb-zero : (offset : ℤ) → chroma_mb d q offset origin stride s ≡ s
  unfolding chroma_both
  chroma_mb-zero offset =
      ap (chroma_way _ _ _ (after 16 q.strengths) origin 1 stride) (chroma_way-zero q.strengths low origin stride 1 s _ _ _ (chroma-zero d _ _ _) (chroma-zero d _ _ _))
      ∙ chroma_way-zero (after 16 q.strengths) high origin 1 stride s _ _ _ (chroma-zero d _ _ _) (chroma-zero d _ _ _)

module _ (g : Held) (x y : ℕ) (z : Zeros 32 (after (32 * (y * g.w + x)) g.strengths)) where
  pub luma-still : (s : Plane) → luma_of g x y s ≡ s
  unfolding luma_of
  luma-still s = luma_mb-zero g.depth (settings_at g x y) z (origin_of 16 g.w x y) (16 * g.w) s

  pub chroma-still : (offset : ℤ) (s : Plane) → chroma_of g offset x y s ≡ s
  unfolding chroma_of
  chroma-still offset s = chroma_mb-zero g.depth (settings_at g x y) z (origin_of 8 g.w x y) (8 * g.w) s offset

  pub macroblock-still : (p : Planes) → macroblock_at g x y p ≡ p
  unfolding macroblock_at
  macroblock-still p = λ i. record { luma = luma-still p.luma i; u = chroma-still g.u p.u i; v = chroma-still g.v p.v i }

  -- .. wherever the picture lies
  pub laid-still : (l : Layout) (p : Planes) → laid_mb g l x y p ≡ p
  unfolding laid_mb luma_in chroma_in
  laid-still l p = λ i. record {
    luma = luma_mb-zero g.depth (settings_at g x y) z (window_of l 16 g.w x y).origin (far_of l (16 * g.w)) p.luma i;
    u = chroma_mb-zero g.depth (settings_at g x y) z (window_of l 8 g.w x y).origin (far_of l (8 * g.w)) p.u g.u i;
    v = chroma_mb-zero g.depth (settings_at g x y) z (window_of l 8 g.w x y).origin (far_of l (8 * g.w)) p.v g.v i;
  }

-- ---- the test of it
zeros-up-to : (strengths : ℕ → ℕ) (n : ℕ) → up_to n (λ (k : ℕ) (b : Bool). b && eqb (strengths k) 0) true ≡ true → Zeros n strengths
unfolding up_to
zeros-up-to strengths zero e k h = absurd (not-suc-le-zero h)
zeros-up-to strengths (suc n) e k h = go (ℕ_discrete k n) (λ l. zeros-up-to strengths n (and-true (up_to n (λ (j : ℕ) (b : Bool). b && eqb (strengths j) 0) true) (eqb (strengths n) 0) e).0 k l)
  where
    go : Dec (k ≡ n) → (k < n → strengths k ≡ 0) → strengths k ≡ 0
    go (yes i) r = ap strengths i ∙ eqb-true (strengths n) 0 (and-true (up_to n (λ (j : ℕ) (b : Bool). b && eqb (strengths j) 0) true) (eqb (strengths n) 0) e).1
    go (no i) r = r (omega arith)

pub all-zero : (strengths : ℕ → ℕ) → all_zero strengths ≡ true → Zeros 32 strengths
unfolding all_zero
all-zero strengths e = zeros-up-to strengths 32 e
