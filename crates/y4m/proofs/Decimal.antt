-- Laws of numbers written in decimal. Assumes nothing.
use Prim.Native.Nat.{ℕ, zero, suc, ◌+◌, ◌*◌, ◌-◌, ◌/◌, ◌%◌, ◌<◌, ◌≤◌}
use mathlib.Core.Path.{◌≡◌, refl, sym, ap, ◌∙◌}
use mathlib.Core.Bool.{Bool, true}
use mathlib.Core.List.{List, [], ◌∷◌, ◌++◌}
use mathlib.Core.Logic.{⊎_elim}
use borrow.Author.Tests.{lt-ltb, le-ltb, le-leb}
use native.Mathlib.Omega.{arith}
use Rattle.laws.proofs.Bools.{and-true}
use Rattle.laws.proofs.Ints.{le-or-lt}
use lib.ListN.{length, take, drop, length-append, length-drop}
use lib.Seq.{take_all}
use Rattle.y4m.specs.Text.{digits_in, decimal, is_digit, all, value_from, value_of}
use Rattle.y4m.specs.Places.{digit_count, digit_of, four_digits}

-- ---- one digit, or one more
small : (k n : ℕ) → n < 10 → digits_in k n ≡ (48 + n) ∷ []
unfolding digits_in
small zero n h = refl
small (suc k) n h = rw (lt-ltb n 10 h)

large : (k n : ℕ) → 10 ≤ n → digits_in (suc k) n ≡ digits_in k (n / 10) ++ ((48 + n % 10) ∷ [])
unfolding digits_in
large k n h = rw (le-ltb n 10 h)

-- how many steps are allowed does not matter, once they are enough
enough : (k m n : ℕ) → n ≤ k → n ≤ m → digits_in k n ≡ digits_in m n
enough zero m n h l = small zero n (omega arith) ∙ sym (small m n (omega arith))
enough (suc k) zero n h l = small (suc k) n (omega arith) ∙ sym (small zero n (omega arith))
enough (suc k) (suc m) n h l =
    ⊎_elim
    (λ s.
    large k n s
    ∙ ap (λ (ds : List ℕ). ds ++ ((48 + n % 10) ∷ [])) (enough k m (n / 10) (omega arith) (omega arith))
    ∙ sym (large m n s))
    (λ s. small (suc k) n s ∙ sym (small (suc m) n s))
    (le-or-lt 10 n)

pub decimal-one : (n : ℕ) → n < 10 → decimal n ≡ (48 + n) ∷ []
decimal-one n h = small n n h

pub decimal-more : (n : ℕ) → 10 ≤ n → decimal n ≡ decimal (n / 10) ++ ((48 + n % 10) ∷ [])
decimal-more n h =
    enough n (suc n) n (omega arith) (omega arith)
    ∙ large n n h
    ∙ ap (λ (ds : List ℕ). ds ++ ((48 + n % 10) ∷ [])) (enough n (n / 10) (n / 10) (omega arith) (omega arith))

-- ---- the value, and that they are digits, by the number of digits
value-append : (m : ℕ) (ds : List ℕ) (d : ℕ) → value_from m (ds ++ (d ∷ [])) ≡ 10 * value_from m ds + (d - 48)
value-append m [] d = refl
value-append m (x ∷ ds) d = value-append (10 * m + (x - 48)) ds d

all_append : (p : ℕ → Bool) (xs ys : List ℕ) → all p xs ≡ true → all p ys ≡ true → all p (xs ++ ys) ≡ true
all_append p [] ys e f = f
all_append p (x ∷ xs) ys e f =
    let t = and-true (p x) (all p xs) e in
    rw t.0 (all_append p xs ys t.1 f)

digit_ok : (n : ℕ) → n < 10 → all is_digit ((48 + n) ∷ []) ≡ true
digit_ok n h = rw (le-leb 48 (48 + n) (omega arith), le-leb (48 + n) 57 (omega arith))

-- what is said of a number in decimal
pub record Decimal (n : ℕ) (ds : List ℕ) : Type 0 where
  pub digits : all is_digit ds ≡ true
  pub value : value_of ds ≡ n
  pub some : 0 < length ds

one-digit : (k n : ℕ) → n < 10 → Decimal n (digits_in k n)
one-digit k n h =
    let e = small k n h in
    let d : 10 * 0 + (48 + n - 48) ≡ n = omega arith in
    record { digits = ap (all is_digit) e ∙ digit_ok n h; value = ap value_of e ∙ d; some = rw e (omega arith) }

more-digits : (k n : ℕ) → 10 ≤ n → Decimal (n / 10) (digits_in k (n / 10)) → Decimal n (digits_in (suc k) n)
more-digits k n h t =
    let e = large k n h in
    let l = length-append (digits_in k (n / 10)) ((48 + n % 10) ∷ []) in
    let v = t.value in
    let d : 10 * (n / 10) + (48 + n % 10 - 48) ≡ n = omega arith in
    record {
      digits = ap (all is_digit) e ∙ all_append is_digit (digits_in k (n / 10)) ((48 + n % 10) ∷ []) t.digits (digit_ok (n % 10) (omega arith));
      value = ap value_of e ∙ value-append 0 (digits_in k (n / 10)) (48 + n % 10) ∙ ap (λ (m : ℕ). 10 * m + (48 + n % 10 - 48)) v ∙ d;
      some = rw e (omega arith);
    }

decimal-in : (k n : ℕ) → n ≤ k → Decimal n (digits_in k n)
decimal-in zero n h = one-digit zero n (omega arith)
decimal-in (suc k) n h =
    ⊎_elim
    (λ s. more-digits k n s (decimal-in k (n / 10) (omega arith)))
    (λ s. one-digit (suc k) n s)
    (le-or-lt 10 n)

pub decimal-is : (n : ℕ) → Decimal n (decimal n)
decimal-is n = decimal-in n n (omega arith)

-- ---- a side in pixels: the last of four digits, as many as it has
pub decimal-two : (n : ℕ) → 10 ≤ n → n < 100 → decimal n ≡ digit_of (n / 10) ∷ digit_of n ∷ []
decimal-two n h l =
    let d : 48 + n / 10 ≡ digit_of (n / 10) = omega arith in
    decimal-more n h ∙ ap (λ (ds : List ℕ). ds ++ (digit_of n ∷ [])) (decimal-one (n / 10) (omega arith) ∙ ap (λ (x : ℕ). x ∷ []) d)

pub decimal-three : (n : ℕ) → 100 ≤ n → n < 1000 → decimal n ≡ digit_of (n / 10 / 10) ∷ digit_of (n / 10) ∷ digit_of n ∷ []
decimal-three n h l =
    decimal-more n (omega arith) ∙ ap (λ (ds : List ℕ). ds ++ (digit_of n ∷ [])) (decimal-two (n / 10) (omega arith) (omega arith))

pub decimal-four : (n : ℕ) → 1000 ≤ n → n < 10000 → decimal n ≡ four_digits n
decimal-four n h l =
    decimal-more n (omega arith) ∙ ap (λ (ds : List ℕ). ds ++ (digit_of n ∷ [])) (decimal-three (n / 10) (omega arith) (omega arith))

pub decimal-part : (n : ℕ) → 10 ≤ n → n < 10000 → (drop (4 - digit_count n) (four_digits n) ≡ decimal n) × (digit_count n ≡ length (decimal n))
decimal-part n h l = ⊎_elim (λ k. ⊎_elim (four k) (three k) (le-or-lt 1000 n)) two (le-or-lt 100 n)
  where
    two : n < 100 → (drop (4 - digit_count n) (four_digits n) ≡ decimal n) × (digit_count n ≡ length (decimal n))
    two k = let e = decimal-two n h k in let t = lt-ltb n 100 k in (rw t (sym e), rw t (ap length (sym e)))

    three : 100 ≤ n → n < 1000 → (drop (4 - digit_count n) (four_digits n) ≡ decimal n) × (digit_count n ≡ length (decimal n))
    three j k =
        let e = decimal-three n j k in
        let s = le-ltb n 100 j in
        let t = lt-ltb n 1000 k in
        (rw (s, t) (sym e), rw (s, t) (ap length (sym e)))

    four : 100 ≤ n → 1000 ≤ n → (drop (4 - digit_count n) (four_digits n) ≡ decimal n) × (digit_count n ≡ length (decimal n))
    four j k =
        let e = decimal-four n k l in
        let s = le-ltb n 100 j in
        let t = le-ltb n 1000 k in
        (rw (s, t) (sym e), rw (s, t) (ap length (sym e)))

-- as the code has it: a part of four digits
pub part-is : (n : ℕ) {d : ℕ} {l : List ℕ} → 10 ≤ n → n < 10000 → d ≡ digit_count n → 4 ≡ length l → l ≡ four_digits n
    → take (4 - (4 - d)) (drop (4 - d) l) ≡ decimal n
part-is n {d} {l} h k e f g =
    let m = length-drop (4 - d) l in
    take_all (4 - (4 - d)) (drop (4 - d) l) (omega arith) ∙ (λ i. drop (4 - e i) (g i)) ∙ (decimal-part n h k).0
