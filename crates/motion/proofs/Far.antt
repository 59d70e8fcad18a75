-- The far test: what the wrapped numbers say of the difference of the components, once over the most that is
-- near. Assumes nothing.
use Rattle.std.proofs.Common.{◌≡◌, ℕ, zero, suc, ◌^◌, ◌<◌, ◌≤◌, false, not, T, ltb, ℤ, pos, negsuc, ◌+ℤ◌, ◌-ℤ◌, neg_ℤ, nat_abs, sym, refl, ap, ◌∙◌, zero-le, arith, ltb→lt, nltb→le, le-ltb, lt-ltb}
use mathlib.Core.Bool.{or-false}
use lib.Dec.{leb-suc-suc}
use lib.IntN.{+ℤ_comm, +ℤ_assoc, +ℤ_idl, +ℤ_invr, neg_ℤ-+ℤ, neg_ℤ-neg_ℤ}
use lib.Signed.{mag, non_neg}
use Rattle.laws.specs.Clip.{dist}
use Rattle.laws.proofs.Abs.{abs_neg}
use Rattle.laws.proofs.Cond.{cond_cases}
use Rattle.motion.specs.Far.{outside}

-- ---- outside m is further than m from 0
pub outside_abs : (m : ℕ) (d : ℤ) → outside m d ≡ ltb m (nat_abs d)
unfolding outside
outside_abs zero (pos k) = simp (le-ltb k 0 zero-le)
outside_abs (suc m) (pos k) = refl
outside_abs zero (negsuc j) = sym (lt-ltb 0 (suc j) (omega arith))
outside_abs (suc m) (negsuc j) = or-false (ltb m j) ∙ sym (leb-suc-suc (suc m) j)

pub outside-self : (m : ℕ) (a : ℤ) → outside m (a -ℤ a) ≡ false
outside-self m a = outside_abs m (a -ℤ a) ∙ ap (λ (d : ℤ). ltb m (nat_abs d)) (+ℤ_invr a) ∙ le-ltb m 0 zero-le

pub outside-comm : (m : ℕ) (a b : ℤ) → outside m (a -ℤ b) ≡ outside m (b -ℤ a)
outside-comm m a b =
    outside_abs m (a -ℤ b) ∙ ap (ltb m) (sym (abs_neg (a -ℤ b)) ∙ ap nat_abs turned) ∙ sym (outside_abs m (b -ℤ a))
  where
    turned : neg_ℤ (a -ℤ b) ≡ b -ℤ a
    turned = neg_ℤ-+ℤ a (neg_ℤ b) ∙ ap (λ (z : ℤ). neg_ℤ a +ℤ z) (neg_ℤ-neg_ℤ b) ∙ +ℤ_comm (neg_ℤ a) b

-- within m of 0 is within every more
pub within_more : {m n : ℕ} → m ≤ n → (d : ℤ) → T (not (outside m d)) → T (not (outside n d))
within_more {m} {n} h d t =
    let k = nltb→le m (nat_abs d) (rw (outside_abs m d) at t) in
    rw (outside_abs n d, le-ltb n (nat_abs d) (omega arith)) tt

-- ---- the components raised by 32,768: none is negative, and their difference is the same
pub raised-nonneg : (z : ℤ) → mag z < 2 ^ 15 → T (non_neg (z +ℤ pos 32768))
raised-nonneg (pos n) h = tt
raised-nonneg (negsuc n) h = rw (le-ltb 32768 (suc n) (omega arith)) tt

shift : (a b k : ℤ) → (a +ℤ k) -ℤ (b +ℤ k) ≡ a -ℤ b
shift a b k =
    rw (neg_ℤ-+ℤ b k, +ℤ_comm (neg_ℤ b) (neg_ℤ k), +ℤ_assoc a k (neg_ℤ k +ℤ neg_ℤ b))
    (rw (← +ℤ_assoc k (neg_ℤ k) (neg_ℤ b), +ℤ_invr k, +ℤ_idl))

abs-dist : (x y : ℕ) → nat_abs (pos x -ℤ pos y) ≡ dist x y
abs-dist x zero = omega arith
abs-dist x (suc y) =
    cond_cases (λ (z : ℤ). nat_abs z ≡ dist x (suc y)) (ltb x (suc y))
    (λ t. omega (arith, ltb→lt x (suc y) t))
    (λ t. omega (arith, nltb→le x (suc y) t))

-- components are far apart where the raised ones, x and y, are
pub far-law : {x y : ℕ} (m : ℕ) (a b : ℤ) → pos x ≡ a +ℤ pos 32768 → pos y ≡ b +ℤ pos 32768
    → ltb m (dist x y) ≡ outside m (a -ℤ b)
far-law {x} {y} m a b px py =
    ap (ltb m) (sym (abs-dist x y) ∙ ap nat_abs ((λ i. px i -ℤ py i) ∙ shift a b (pos 32768))) ∙ sym (outside_abs m (a -ℤ b))
