-- What the code finds by three flags and by odd rows is whether a block is coded, and it lies in the grid of
-- counts. Assumes nothing.
use mathlib.Core.Path.{◌≡◌, refl, sym, ap, ◌∙◌}
use mathlib.Core.Bool.{Bool, true, false, cond, not}
use Prim.Native.Nat.{ℕ, ◌+◌, ◌*◌, ◌%◌, ◌<◌}
use native.Mathlib.Omega.{arith}
use borrow.Author.Tests.{not-true}
use Rattle.laws.specs.Some.{some}
use Rattle.laws.proofs.Cond.{cond_both}
use Rattle.laws.proofs.Some.{some_same, some-idle}
use Rattle.motion.specs.Grids.{Grids, counted}
use Rattle.strengths.specs.Blocks.{own_block, macroblock_of, in_eight}
use Rattle.strengths.specs.Eights.{transforms_of, across_flag, p_odd, q_odd, coded_by, InCounts}
use Rattle.strengths.specs.Kinds.{every_own}
use Rattle.strengths.specs.Strength.{q_block, p_block, border, coded}
use Rattle.strengths.proofs.Across.{across}
use Rattle.strengths.proofs.OwnBlocks.{Own, at, q-own, own-macroblock, eight-own, eight-from, eight-below, eight-last, own-last}

-- ---- a block of macroblock (x, y), by that one's flag
module _ {w x y r c i : ℕ} (inside : x < w) (o : Own w x y r c i) where
  own-coded : (g : Grids) (t8s : ℕ → Bool) {t : Bool} {odd : ℕ} → t ≡ t8s (y * w + x) → odd ≡ r % 2
      → coded_by g.nnz (4 * w) t odd i ≡ coded g w t8s i
  unfolding coded_by coded
  own-coded g t8s {t} e f =
      ap (λ (n : ℕ). coded_by g.nnz (4 * w) t n i) f
      ∙ (λ j. cond
      ((e ∙ ap t8s (sym (own-macroblock inside o))) j)
      (some 2 (λ a. some 2 (λ b. counted g.nnz (eight-from inside o a b j))))
      (counted g.nnz i))

  own-counts : {n odd : ℕ} (t : Bool) → own_block w x y 3 3 < n → odd ≡ r % 2 → InCounts n (4 * w) t odd i
  own-counts {n} {odd} t h f =
      rw f
      (record {
        block = omega (arith, own-last inside o);
        first = λ e. omega (arith, eight-below inside o);
        last = λ e. omega (arith, eight-last inside o);
      })

  -- where no own block has a count none is coded, 8x8 or not
  pub own_bare : (g : Grids) (t8s : ℕ → Bool) → every_own w x y (λ n. not (counted g.nnz n)) ≡ true → coded g w t8s i ≡ false
  unfolding coded
  own_bare g t8s e =
      cond_both (λ (b : Bool). b ≡ false) (t8s (macroblock_of w i))
      (some_same 2 _ (λ a. false) (λ a h. some_same 2 _ (λ b. false) (λ b k. bare (in_eight w i a b) (eight-own inside o a b h k)) ∙ some-idle 2 _ (λ b. refl))
      ∙ some-idle 2 _ (λ a. refl))
      (bare i o)
    where
      bare : (n : ℕ) {a b : ℕ} → Own w x y a b n → counted g.nnz n ≡ false
      bare n p = not-true _ (at w x y n (λ m. not (counted g.nnz m)) e p)

-- ---- both blocks of an edge
module _ (w : ℕ) (t8s : ℕ → Bool) (x y k : ℕ) (inside : x < w) where
  pub q-coded : (g : Grids) → coded_by g.nnz (4 * w) (t8s (y * w + x)) (q_odd k) (q_block w x y k) ≡ coded g w t8s (q_block w x y k)
  q-coded g = own-coded inside (q-own w x y k) g t8s refl refl

  pub p-coded : (g : Grids) → border x y k ≡ false
      → coded_by g.nnz (4 * w) (across_flag (transforms_of t8s w x y) k) (p_odd k) (p_block w x y k) ≡ coded g w t8s (p_block w x y k)
  p-coded g b = let a = across w t8s x y k inside b in own-coded a.inside a.own g t8s a.flag a.odd

  pub p-counts : {n : ℕ} (t : Bool) → border x y k ≡ false → own_block w x y 3 3 < n → InCounts n (4 * w) t (p_odd k) (p_block w x y k)
  p-counts t b h = let a = across w t8s x y k inside b in own-counts a.inside a.own t (omega (arith, a.last)) a.odd
