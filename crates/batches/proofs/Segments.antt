-- What each line is lent, by its segment, and what holds of the strengths of all. Assumes nothing.
use mathlib.Core.Path.{◌≡◌, refl, sym, ap, subst}
use mathlib.Core.Logic.{⊎_elim}
use mathlib.Core.Bool.{Bool, true, false, not}
use mathlib.Core.List.{List, [], ◌∷◌}
use Prim.Native.Nat.{ℕ, zero, suc, ◌/◌, ◌≤◌, ◌<◌}
use native.Mathlib.Nat.{not-suc-le-zero}
use native.Mathlib.Omega.{arith}
use borrow.Author.Tests.{eqb-true, le-ltb}
use lib.Bits.{bit_or, or_add_and, and_le_l, and_le_r}
use lib.Dec.{T, ltb, nltb→le}
use lib.ListN.{get_or}
use Rattle.laws.specs.Local.{All}
use Rattle.laws.proofs.Bools.{or-false}
use Rattle.batches.specs.Lines.{segment_strength, u_or_v, uv_strength}
use Rattle.batches.specs.Lanes.{at_slot, four_each, two_each, eight_each, is_weak, is_strong, any, word_of, no_strength}
use Rattle.batches.specs.declared.lanes.Four.{Four}
use Rattle.batches.specs.declared.lanes.Thresholds.{Thresholds}
use Rattle.batches.proofs.MovedPlaces.{last-or-before}

-- ---- lanes: computed for each of sixteen lines, from the last to the first
abbrev Each : (ℕ → Type 0) → ℕ → Type 0
Each P zero = Unit {0}
Each P (suc n) = P n × Each P n

each : (P : ℕ → Type 0) (n : ℕ) → Each P n → (k : ℕ) → k < n → P k
each P zero a k h = absurd (not-suc-le-zero h)
each P (suc n) a k h = ⊎_elim (λ e. subst P (sym e) a.0) (λ l. each P n a.1 k l) (last-or-before k n h)

pub four_each-at : (l : List ℕ) (s : Four) (k : ℕ) → k < 16 → get_or (four_each l s) k 0 ≡ at_slot l (segment_strength 4 s k)
four_each-at l s =
    each (λ k. get_or (four_each l s) k 0 ≡ at_slot l (segment_strength 4 s k)) 16
    (refl, (refl, (refl, (refl, (refl, (refl, (refl, (refl, (refl, (refl, (refl, (refl, (refl, (refl, (refl, (refl, tt))))))))))))))))

-- R is a row by thresholds
pub two_each-at : (R : Thresholds → List ℕ) (l m : Thresholds) (s : Four) (k : ℕ) → k < 16 → get_or (two_each (R l) (R m) s) k 0 ≡ at_slot (R (u_or_v l m k)) (uv_strength s k)
two_each-at R l m s =
    each (λ k. get_or (two_each (R l) (R m) s) k 0 ≡ at_slot (R (u_or_v l m k)) (uv_strength s k)) 16
    (refl, (refl, (refl, (refl, (refl, (refl, (refl, (refl, (refl, (refl, (refl, (refl, (refl, (refl, (refl, (refl, tt))))))))))))))))

-- f is a value by thresholds
pub eight_each-at : (f : Thresholds → ℕ) (l m : Thresholds) (k : ℕ) → k < 16 → get_or (eight_each (f l) (f m)) k 0 ≡ f (u_or_v l m k)
eight_each-at f l m =
    each (λ k. get_or (eight_each (f l) (f m)) k 0 ≡ f (u_or_v l m k)) 16
    (refl, (refl, (refl, (refl, (refl, (refl, (refl, (refl, (refl, (refl, (refl, (refl, (refl, (refl, (refl, (refl, tt))))))))))))))))

-- ---- what holds of 0 and of each of a list holds wherever it is read
anywhere : (P : ℕ → Type 0) (xs : List ℕ) (q : ℕ) → P 0 → All P xs → P (get_or xs q 0)
anywhere P [] q z a = z
anywhere P (x ∷ xs) zero z a = a.0
anywhere P (x ∷ xs) (suc q) z a = anywhere P xs q z a.1

-- a test that no segment passes
pub no_one : (on : ℕ → Bool) (s : Four) → on 0 ≡ false → any on s ≡ false → (n k : ℕ) → on (segment_strength n s k) ≡ false
no_one on s z e n k =
    let x = or-false _ (on s.d) e in
    let y = or-false _ (on s.c) x.0 in
    let w = or-false (on s.a) (on s.b) y.0 in
    anywhere (λ b. on b ≡ false) (s.a ∷ s.b ∷ s.c ∷ s.d ∷ []) (k / n) z (w.0, (w.1, (y.1, (x.1, tt))))

-- strengths that are all 0
pub no-strength-at : (s : Four) → no_strength s ≡ true → (n k : ℕ) → segment_strength n s k ≡ 0
no-strength-at s e n k =
    let z = eqb-true (word_of s) 0 e in
    anywhere (λ b. b ≡ 0) (s.a ∷ s.b ∷ s.c ∷ s.d ∷ []) (k / n) refl (omega arith, (omega arith, (omega arith, (omega arith, tt))))

-- ---- the tests of all four at once
-- strengths that are all 4 have none for the pass of 1 to 3
pub all-four : (s : Four) → s.a < 256 → s.b < 256 → s.c < 256 → s.d < 256 → word_of s ≡ 67372036 → any is_weak s ≡ false
all-four s ha hb hc hd e =
    let w : (x : ℕ) → x ≡ 4 → is_weak x ≡ false = λ x q. ap is_weak q in
    simp (w s.a (omega arith), w s.b (omega arith), w s.c (omega arith), w s.d (omega arith))

-- each strength is at most their bits together
or_above : (x y : ℕ) → (x ≤ bit_or x y) × (y ≤ bit_or x y)
or_above x y = let e = or_add_and x y in let l = and_le_l x y in let r = and_le_r x y in (omega arith, omega arith)

-- strengths whose bits are those of 3 have none for the pass of 4
pub none-strong : (s : Four) → ltb 3 (bit_or (bit_or (bit_or s.a s.b) s.c) s.d) ≡ false → any is_strong s ≡ false
none-strong s e =
    let ab = or_above s.a s.b in
    let abc = or_above (bit_or s.a s.b) s.c in
    let all = or_above (bit_or (bit_or s.a s.b) s.c) s.d in
    let most : bit_or (bit_or (bit_or s.a s.b) s.c) s.d ≤ 3 = nltb→le 3 _ (is-not e) in
    let w : (x : ℕ) → x ≤ 3 → is_strong x ≡ false = λ x h. le-ltb 3 x h in
    simp (w s.a (omega arith), w s.b (omega arith), w s.c (omega arith), w s.d (omega arith))
  where
    is-not : {b : Bool} → b ≡ false → T (not b)
    is-not q = subst (λ (b : Bool). T (not b)) (sym q) tt
