-- Laws behind the checks of a header line: counts of tags up to 2, sides that are cut off. Assumes nothing.
use Prim.Native.Nat.{ℕ, ◌/◌, ◌%◌, ◌≤◌}
use mathlib.Core.Path.{◌≡◌, refl, sym, ap, ◌∙◌}
use mathlib.Core.Bool.{Bool, true, false, not, ◌||◌}
use mathlib.Core.Logic.{⊎_elim}
use borrow.Author.Tests.{eqb-true, lt-ltb}
use native.Mathlib.Nat.{div-add-mod'}
use native.Mathlib.Omega.{arith}
use lib.Dec.{eqb, ltb}
use Rattle.laws.proofs.Bools.{or-always, true-false}
use Rattle.laws.proofs.Ints.{le-or-lt}
use Rattle.y4m.specs.Places.{bad_two, capped}
use Rattle.y4m.proofs.Values.{capped_small, capped-large}

-- ---- sides: a number that is cut off is refused, as it would be
-- a multiple of 16 above 4096 has more than 256 macroblocks
wide : (n : ℕ) → 4097 ≤ n → eqb (n % 16) 0 ≡ true → ltb 256 (n / 16) ≡ true
wide n h e =
    let z = eqb-true (n % 16) 0 e in
    let d = div-add-mod' n 16 in
    lt-ltb 256 (n / 16) (omega arith)

wide-bad : (n m : ℕ) → 4097 ≤ n → bad_two n m ≡ true
wide-bad n m h = go (eqb (n % 16) 0) refl
  where
    go : (b : Bool) → eqb (n % 16) 0 ≡ b → bad_two n m ≡ true
    go true e = rw (wide n h e, or-always (eqb (n / 16) 0)) (or-always (not (eqb (n % 16) 0) || not (eqb (m % 16) 0)))
    go false e = rw e

high-bad : (n m : ℕ) → 4097 ≤ m → bad_two n m ≡ true
high-bad n m h = go (eqb (m % 16) 0) refl
  where
    go : (b : Bool) → eqb (m % 16) 0 ≡ b → bad_two n m ≡ true
    go true e =
        rw (wide m h e, or-always (eqb (n / 16) 0 || ltb 256 (n / 16) || eqb (m / 16) 0)) (or-always (not (eqb (n % 16) 0) || not (eqb (m % 16) 0)))
    go false e = rw (e, or-always (not (eqb (n % 16) 0)))

pub sides-capped : (n m : ℕ) → bad_two (capped n) (capped m) ≡ bad_two n m
sides-capped n m =
    ⊎_elim
    (λ h. ap (λ (k : ℕ). bad_two k (capped m)) (capped-large n h) ∙ wide-bad 4097 (capped m) (omega arith) ∙ sym (wide-bad n m h))
    (λ h.
    ⊎_elim
    (λ k. ap (bad_two (capped n)) (capped-large m k) ∙ high-bad (capped n) 4097 (omega arith) ∙ sym (high-bad n m k))
    (λ k. rw (capped_small n h, capped_small m k))
    (le-or-lt 4097 m))
    (le-or-lt 4097 n)

-- sides that are not refused were not cut off
pub sides-true : (n m : ℕ) → bad_two n m ≡ false → (capped n ≡ n) × (capped m ≡ m)
sides-true n m e = (
  ⊎_elim (λ h. absurd (true-false (sym (wide-bad n m h) ∙ e))) (capped_small n) (le-or-lt 4097 n),
  ⊎_elim (λ h. absurd (true-false (sym (high-bad n m h) ∙ e))) (capped_small m) (le-or-lt 4097 m),
)
