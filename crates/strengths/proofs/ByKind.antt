-- A kind that is true of the grids gives the strengths of clause 8.7.2.1: inside the macroblock nothing more
-- need be compared. Assumes nothing.
use mathlib.Core.Path.{◌≡◌, refl, sym, ap, subst, ◌∙◌}
use mathlib.Core.Bool.{Bool, true, false, cond, not, ◌&&◌, ◌||◌}
use Prim.Native.Nat.{ℕ, ◌+◌, ◌*◌, ◌<◌}
use borrow.Author.Tests.{eqb-false, not-true}
use lib.Dec.{T, eqb}
use Rattle.laws.proofs.Bools.{and-true, or-false}
use Rattle.motion.specs.Grids.{Grids, counted, blk_at}
use Rattle.motion.specs.Motion.{same_motion}
use Rattle.motion.proofs.Laws.{same-join, strength-same}
use Rattle.motion.specs.declared.blocks.Blk.{Blk}
use Rattle.strengths.specs.Blocks.{origin}
use Rattle.strengths.specs.Checks.{disagree}
use Rattle.strengths.specs.Eights.{transforms_of, across_flag, p_odd, q_odd, coded_by}
use Rattle.strengths.specs.Strength.{vertical, edge, q_block, p_block, border, skipped, outer_intra, coded, between, strength_at}
use Rattle.strengths.specs.Kinds.{every_own, uniform, flat, is_kind}
use Rattle.strengths.specs.ByKind.{first_inter, inside, across_by, strength_by}
use Rattle.strengths.specs.declared.kinds.Mode.{Mode}
use Rattle.strengths.specs.declared.kinds.MbKind.{MbKind}
use Rattle.strengths.specs.declared.kinds.MbKind.TheVariants.{Intra, Skip, InterUniform, Inter}
use Rattle.strengths.proofs.CodedBlocks.{p-coded, q-coded, own_bare}
use Rattle.strengths.proofs.InterAgrees.{own-inter, inter-is, intra-is}
use Rattle.strengths.proofs.OwnBlocks.{Own, q-own, p-own, at}

true→T : {b : Bool} → b ≡ true → T b
true→T e = subst T (sym e) tt

-- two inter blocks of the same motion
same-inside : (v n : ℕ) (c : Bool) (p q : Blk) → p.inter ≡ true → q.inter ≡ true → T (same_motion p q) → between v n c p q ≡ cond c 2 0
unfolding between
same-inside v n c p q h k t = simp (h, k, strength-same v c p q t)

module _ (g : Grids) (w x y : ℕ) (agree : disagree g.inter w x y ≡ false) where
  inter-of : (i : ℕ) {r c : ℕ} → Own w x y r c i → (blk_at g i).inter ≡ first_inter g.inter w x y
  inter-of i {r} {c} o = ap (λ (n : ℕ). (blk_at g n).inter) o.is ∙ own-inter g w x y agree r c o.row o.col

  uniform-inside : uniform g w x y ≡ true → (v n : ℕ) (c : Bool) (i j : ℕ) {a b a' b' : ℕ} → Own w x y a b i → Own w x y a' b' j
      → between v n c (blk_at g i) (blk_at g j) ≡ cond c 2 0
  unfolding uniform
  uniform-inside u v n c i j o p =
      let f : ℕ → Bool = λ k. (blk_at g k).inter && same_motion (blk_at g k) (blk_at g (origin w x y)) in
      let a = and-true _ _ (at w x y i f u o) in
      let b = and-true _ _ (at w x y j f u p) in
      same-inside v n c (blk_at g i) (blk_at g j) a.0 b.0 (same-join (blk_at g i) (blk_at g j) (blk_at g (origin w x y)) (true→T a.1) (true→T b.1))

  module _ (inside-w : x < w) (t8s : ℕ → Bool) where
    -- p or q is coded
    abbrev either : ℕ → ℕ → Bool
    either i j = coded g w t8s i || coded g w t8s j

    -- .. as the code finds it at byte k
    abbrev found : ℕ → Bool
    found k = coded_by g.nnz (4 * w) (across_flag (transforms_of t8s w x y) k) (p_odd k) (p_block w x y k) || coded_by g.nnz (4 * w) (t8s (y * w + x)) (q_odd k) (q_block w x y k)

    inside_is : (kind : MbKind) → is_kind g w x y kind ≡ true → (v i j : ℕ) {a b a' b' : ℕ} → Own w x y a b i → Own w x y a' b' j
        → inside kind v (either i j) (blk_at g i) (blk_at g j) ≡ between v 3 (either i j) (blk_at g i) (blk_at g j)
    unfolding between flat
    inside_is Intra e v i j o p = let f = not-true _ (sym (intra-is g w x y agree) ∙ e) in simp (inter-of i o ∙ f)
    inside_is Inter e v i j o p = let f = sym (inter-is g w x y agree) ∙ e in simp (inter-of i o ∙ f, inter-of j p ∙ f)
    inside_is InterUniform e v i j o p = sym (uniform-inside e v 3 (either i j) i j o p)
    inside_is Skip e v i j o p =
        let u = and-true (uniform g w x y) (every_own w x y (λ k. not (counted g.nnz k))) e in
        let a = own_bare inside-w o g t8s u.1 in
        let b = own_bare inside-w p g t8s u.1 in
        sym (uniform-inside u.0 v 3 (either i j) i j o p ∙ (λ k. cond (a k || b k) 2 0))

    -- a true kind gives the strengths of the standard, in any mode
    pub kind-is : (kind : MbKind) → is_kind g w x y kind ≡ true → (mode : Mode) (k : ℕ)
        → strength_by kind mode g w (transforms_of t8s w x y) x y k ≡ strength_at mode g w t8s x y k
    unfolding strength_by strength_at
    kind-is kind e mode k = cases (border x y k || skipped (t8s (y * w + x)) k) refl
      where
        go : (b : Bool) → eqb (edge k) 0 ≡ b
            → across_by kind mode b (vertical k) (either (p_block w x y k) (q_block w x y k)) (blk_at g (p_block w x y k)) (blk_at g (q_block w x y k))
            ≡ between mode.limit (cond b (outer_intra mode (vertical k)) 3) (either (p_block w x y k) (q_block w x y k)) (blk_at g (p_block w x y k)) (blk_at g (q_block w x y k))
        go true f = refl
        go false f = inside_is kind e mode.limit (p_block w x y k) (q_block w x y k) (p-own w x y k (eqb-false (edge k) 0 f)) (q-own w x y k)

        cases : (b : Bool) → (border x y k || skipped (t8s (y * w + x)) k) ≡ b
            → cond b 0 (across_by kind mode (eqb (edge k) 0) (vertical k) (found k) (blk_at g (p_block w x y k)) (blk_at g (q_block w x y k)))
            ≡ cond b 0 (between mode.limit (cond (eqb (edge k) 0) (outer_intra mode (vertical k)) 3) (either (p_block w x y k) (q_block w x y k)) (blk_at g (p_block w x y k)) (blk_at g (q_block w x y k)))
        cases true f = refl
        cases false f =
            let b = (or-false (border x y k) (skipped (t8s (y * w + x)) k) f).0 in
            (λ j. across_by kind mode (eqb (edge k) 0) (vertical k) (p-coded w t8s x y k inside-w g b j || q-coded w t8s x y k inside-w g j) (blk_at g (p_block w x y k)) (blk_at g (q_block w x y k)))
            ∙ go (eqb (edge k) 0) refl
