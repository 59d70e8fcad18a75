-- Laws of the comparison and of the grids, for the crates above. Assumes nothing.
use Rattle.std.proofs.Common.{◌≡◌, ℕ, ◌≤◌, Bool, true, false, cond, not, ◌&&◌, ◌||◌, T, ◌++◌, ℤ, int_eq, refl, sym, ap, ◌∙◌, subst, lit≤}
use mathlib.Core.Bool.{and-false, and_assoc, or_comm}
use mir.Facts.{and_yes}
use Rattle.std.proofs.lemmas.Bool.Decides.{Decides-int_eq}
use Rattle.laws.proofs.Cond.{cond_both}
use Rattle.motion.specs.Motion.{motion0, motion1, is_used, if_used, used, mate, mismatched, differ, inter_strength, equal_motion, same_motion}
use Rattle.laws.specs.Equal.{eq_z}
use Rattle.motion.specs.declared.blocks.Blk.{Blk}
use Rattle.motion.specs.declared.blocks.Motion.{Motion}
use Rattle.motion.proofs.Differ.{unlike, by-list, by-lists}
use Rattle.laws.proofs.Equal.{same_test, eq_z-self, eq_z→eq, eq→eq_z, eq_z-comm}
use Rattle.motion.proofs.Far.{outside-self, outside-comm}

-- ---- a block and itself
mate-self : (v : ℕ) (a : Motion) → mate v a a ≡ true
mate-self v a = simp (eq_z-self a.reference, outside-self 3 a.x, outside-self v a.y)

unlike-self : (v : ℕ) (a : Motion) → unlike v a a ≡ false
unlike-self v a = sym (by-list v a a) ∙ simp (mate-self v a, and-false)

pub differ_self : (v : ℕ) (p : Blk) → differ v p p ≡ false
differ_self v p = sym (by-lists v p p) ∙ simp (unlike-self v (motion0 p), unlike-self v (motion1 p))

-- ---- the same motion. What `==` answers at whole numbers, and at what a list holds
yes : (b : Bool) → T b → b ≡ true
yes true t = refl
yes false t = absurd t

int-eq : (x y : ℤ) → int_eq x y ≡ eq_z x y
int-eq x y =
    same_test (int_eq x y) (eq_z x y)
    (λ t. eq→eq_z ((Decides-int_eq x y).0 (yes (int_eq x y) t)))
    (λ t. subst T (sym ((Decides-int_eq x y).1 (eq_z→eq x y t))) tt)

pub derived_equal : (a b : Motion) → (int_eq a.reference b.reference && (int_eq a.x b.x && int_eq a.y b.y)) ≡ equal_motion a b
derived_equal a b =
    (λ i. int-eq a.reference b.reference i && (int-eq a.x b.x i && int-eq a.y b.y i))
    ∙ sym (and_assoc (eq_z a.reference b.reference) (eq_z a.x b.x) (eq_z a.y b.y))

equal→eq : (a b : Motion) → T (equal_motion a b) → a ≡ b
equal→eq a b t =
    let h = and_yes (eq_z a.reference b.reference && eq_z a.x b.x) (eq_z a.y b.y) t in
    let k = and_yes (eq_z a.reference b.reference) (eq_z a.x b.x) h.0 in
    λ i. record {
      reference = eq_z→eq a.reference b.reference k.0 i;
      x = eq_z→eq a.x b.x k.1 i;
      y = eq_z→eq a.y b.y h.1 i;
    }

pub same-used : (p q : Blk) → T (same_motion p q) → used p ≡ used q
unfolding same_motion used
same-used p q t =
    let h = and_yes (equal_motion (motion0 p) (motion0 q)) (equal_motion (motion1 p) (motion1 q)) t in
    λ i. if_used (equal→eq (motion0 p) (motion0 q) h.0 i) ++ if_used (equal→eq (motion1 p) (motion1 q) h.1 i)

pub differ_same : (v : ℕ) (p q : Blk) → T (same_motion p q) → differ v p q ≡ false
unfolding differ
differ_same v p q t = ap (mismatched v (used p)) (sym (same-used p q t)) ∙ differ_self v p

-- two blocks of the same motion as a third
equal-self : (a : Motion) → equal_motion a a ≡ true
equal-self a = simp (eq_z-self a.reference, eq_z-self a.x, eq_z-self a.y)

pub same-join : (p q f : Blk) → T (same_motion p f) → T (same_motion q f) → T (same_motion p q)
unfolding same_motion
same-join p q f s t =
    let h = and_yes (equal_motion (motion0 p) (motion0 f)) (equal_motion (motion1 p) (motion1 f)) s in
    let k = and_yes (equal_motion (motion0 q) (motion0 f)) (equal_motion (motion1 q) (motion1 f)) t in
    let a = equal→eq (motion0 p) (motion0 f) h.0 ∙ sym (equal→eq (motion0 q) (motion0 f) k.0) in
    let b = equal→eq (motion1 p) (motion1 f) h.1 ∙ sym (equal→eq (motion1 q) (motion1 f) k.1) in
    subst (λ (m : Motion). T (equal_motion (motion0 p) m && equal_motion (motion1 p) (motion1 q))) a
    (subst (λ (m : Motion). T (equal_motion (motion0 p) (motion0 p) && equal_motion (motion1 p) m)) b (rw (equal-self (motion0 p), equal-self (motion1 p)) tt))

-- ---- two blocks the other way round
mate-comm : (v : ℕ) (a b : Motion) → mate v a b ≡ mate v b a
mate-comm v a b = λ i. eq_z-comm a.reference b.reference i && not (outside-comm 3 a.x b.x i || outside-comm v a.y b.y i)

unlike-comm : (v : ℕ) (a b : Motion) → unlike v a b ≡ unlike v b a
unlike-comm v a b =
    sym (by-list v a b) ∙ (λ i. or_comm (is_used a) (is_used b) i && not (mate-comm v a b i)) ∙ by-list v b a

pub differ_comm : (v : ℕ) (p q : Blk) → differ v p q ≡ differ v q p
differ_comm v p q =
    sym (by-lists v p q)
    ∙ (λ i. (turned (motion0 p) (motion0 q) i || turned (motion1 p) (motion1 q) i) && (turned (motion0 p) (motion1 q) i || turned (motion1 p) (motion0 q) i))
    ∙ ap (λ (t : Bool). (unlike v (motion0 q) (motion0 p) || unlike v (motion1 q) (motion1 p)) && t) (or_comm (unlike v (motion1 q) (motion0 p)) (unlike v (motion0 q) (motion1 p)))
    ∙ by-lists v q p
  where
    turned : (a b : Motion) → unlike v a b ≡ unlike v b a
    turned = unlike-comm v

-- ---- the strength
pub strength-le : (v : ℕ) (coded : Bool) (p q : Blk) → inter_strength v coded p q ≤ 2
unfolding inter_strength
strength-le v coded p q =
    cond_both (λ (n : ℕ). n ≤ 2) coded (lit≤ tt)
    (cond_both (λ (n : ℕ). n ≤ 2) (differ v p q) (lit≤ tt) (lit≤ tt))

-- no 1 within a uniform macroblock
pub strength-same : (v : ℕ) (coded : Bool) (p q : Blk) → T (same_motion p q) → inter_strength v coded p q ≡ cond coded 2 0
unfolding inter_strength
strength-same v coded p q t = simp (differ_same v p q t)
