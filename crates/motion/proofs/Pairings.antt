-- Used references, as many on each side: the pairings decide, since one that serves has equal sets. Assumes
-- nothing.
use Rattle.std.proofs.Common.{◌≡◌, ℕ, Bool, true, false, not, ◌&&◌, ◌||◌, T, List, [], ◌∷◌, reverse, length, ℤ, sym, refl, ◌∙◌, subst, ⊎_elim, eq-eqb}
use mathlib.Core.Bool.{and-true, or_self, or-true}
use mir.Facts.{and_yes, or_yes}
use Rattle.motion.specs.Motion.{far, mate, in_order, paired, references, mismatched}
use Rattle.laws.specs.Equal.{eq_z}
use Rattle.motion.specs.Sets.{same_set}
use Rattle.motion.specs.declared.blocks.Motion.{Motion}
use Rattle.laws.proofs.Equal.{eq_z-self, eq_z→eq}

-- ---- mates have one reference
pub one-reference : (v : ℕ) (a b : Motion) → T (mate v a b) → a.reference ≡ b.reference
one-reference v a b t = eq_z→eq a.reference b.reference (and_yes (eq_z a.reference b.reference) (not (far v a b)) t).0

-- ---- a pairing that serves has one set of references
mates-in-order : (v : ℕ) (p q : List Motion) → T (in_order v p q) → references p ≡ references q
mates-in-order v [] [] t = refl
mates-in-order v [] (b ∷ q) t = absurd t
mates-in-order v (a ∷ p) [] t = absurd t
mates-in-order v (a ∷ p) (b ∷ q) t =
    let h = and_yes (mate v a b) (in_order v p q) t in
    λ i. one-reference v a b h.0 i ∷ mates-in-order v p q h.1 i

set-one : (r : ℤ) → T (same_set (r ∷ []) (r ∷ []))
set-one r = simp (eq_z-self r) tt

set-two : (r s : ℤ) → T (same_set (r ∷ s ∷ []) (r ∷ s ∷ []))
set-two r s = simp (eq_z-self r, eq_z-self s, or-true) tt

set-swap : (r s : ℤ) → T (same_set (s ∷ r ∷ []) (r ∷ s ∷ []))
set-swap r s = simp (eq_z-self r, eq_z-self s, or-true) tt

-- q's references make one set with their own, in order or crossed
abbrev Whole : List Motion → Type 0
Whole q = T (same_set (references q) (references q)) × T (same_set (references (reverse q)) (references q))

paired-set : (v : ℕ) (p q : List Motion) → Whole q → T (paired v p q) → T (same_set (references p) (references q))
paired-set v p q w t = ⊎_elim (λ h. by_order q h w.0) (λ h. by_order (reverse q) h w.1) (or_yes (in_order v p q) (in_order v p (reverse q)) t)
  where
    by_order : (r : List Motion) → T (in_order v p r) → T (same_set (references r) (references q)) → T (same_set (references p) (references q))
    by_order r h u = subst (λ (k : List ℤ). T (same_set k (references q))) (sym (mates-in-order v p r h)) u

-- ---- so with equal numbers the pairings decide: a test that passes only where another does makes that one
-- needless
tells : (s t : Bool) → (T t → T s) → not t ≡ (not s || not t)
tells true t f = refl
tells false true f = absurd (f tt)
tells false false f = refl

by-pairing : (v : ℕ) (p q : List Motion) → length p ≡ length q → Whole q → not (paired v p q) ≡ mismatched v p q
unfolding mismatched
by-pairing v p q e w = simp (eq-eqb (length p) (length q) e) (tells (same_set (references p) (references q)) (paired v p q) (paired-set v p q w))

-- ---- one each, and two: no pairing serves
not-both : (x y : Bool) → not (x && y) ≡ (not x || not y)
not-both true y = refl
not-both false y = refl

neither : (w x y z : Bool) → ((not w || not x) && (not y || not z)) ≡ not (w && x || y && z)
neither true true y z = refl
neither true false y z = sym (not-both y z)
neither false x y z = sym (not-both y z)

pub by_one : (v : ℕ) (a c : Motion) → not (mate v a c) ≡ mismatched v (a ∷ []) (c ∷ [])
by_one v a c = simp (and-true, or_self) at (by-pairing v (a ∷ []) (c ∷ []) refl (set-one c.reference, set-one c.reference))

pub by_two : (v : ℕ) (a b c d : Motion)
    → ((not (mate v a c) || not (mate v b d)) && (not (mate v a d) || not (mate v b c))) ≡ mismatched v (a ∷ b ∷ []) (c ∷ d ∷ [])
by_two v a b c d =
    neither (mate v a c) (mate v b d) (mate v a d) (mate v b c)
    ∙ simp and-true at (by-pairing v (a ∷ b ∷ []) (c ∷ d ∷ []) refl (set-two c.reference d.reference, set-swap c.reference d.reference))
