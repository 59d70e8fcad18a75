-- Laws of numbers in decimal, with what is too large cut off. Assumes nothing.
use Prim.Native.Nat.{ℕ, suc, ◌+◌, ◌*◌, ◌-◌, ◌<◌, ◌≤◌}
use mathlib.Core.Path.{◌≡◌, refl, sym, ap, ◌∙◌}
use mathlib.Core.Bool.{false}
use mathlib.Core.List.{List, [], ◌∷◌}
use mathlib.Core.Logic.{⊎_elim}
use borrow.Author.Tests.{lt-ltb, le-ltb, eqb-false}
use native.Mathlib.Omega.{arith}
use native.Mathlib.Numerals.{add-one}
use lib.Dec.{eqb}
use lib.ListN.{length, get_or, drop}
use lib.Seq.{drop-cons}
use Rattle.laws.proofs.Ints.{le-or-lt}
use Rattle.y4m.specs.Text.{value_from, all, is_digit, is_decimal}
use Rattle.y4m.specs.Places.{capped}

-- digits behind a number never make it less
pub value_grows : (n : ℕ) (l : List ℕ) → n ≤ value_from n l
value_grows n [] = omega arith
value_grows n (d ∷ ds) = let h = value_grows (10 * n + (d - 48)) ds in omega arith

pub capped_small : (n : ℕ) → n < 4097 → capped n ≡ n
capped_small n h = rw (lt-ltb n 4097 h)

pub capped-large : (n : ℕ) → 4097 ≤ n → capped n ≡ 4097
capped-large n h = rw (le-ltb n 4097 h)

capped-within : (n : ℕ) → n ≤ 4097 → capped n ≡ n
capped-within n k = ⊎_elim (λ h. capped-large n h ∙ omega arith) (λ h. capped_small n h) (le-or-lt 4097 n)

-- a number may be cut off before its last digits are read
pub capped-from : (n : ℕ) (l : List ℕ) → capped (value_from (capped n) l) ≡ capped (value_from n l)
capped-from n l =
    ⊎_elim
    (λ h.
    ap (λ (m : ℕ). capped (value_from m l)) (capped-large n h)
    ∙ capped-large (value_from 4097 l) (value_grows 4097 l)
    ∙ sym (capped-large (value_from n l) (let k = value_grows n l in omega arith)))
    (λ h. ap (λ (m : ℕ). capped (value_from m l)) (capped_small n h))
    (le-or-lt 4097 n)

-- ---- one digit more
pub value-turn : (n : ℕ) (l : List ℕ) (i : ℕ) → i < length l
    → capped (value_from n (drop i l)) ≡ capped (value_from (capped (10 * n + (get_or l i 0 - 48))) (drop (i + 1) l))
value-turn n l i k =
    ap (λ (r : List ℕ). capped (value_from n r)) (drop-cons l i 0 k)
    ∙ sym (capped-from (10 * n + (get_or l i 0 - 48)) (drop (suc i) l))
    ∙ rw add-one

-- ---- digits alone, and one at least
pub decimal-test : (l : List ℕ) → eqb (length l) 0 ≡ false → all is_digit l ≡ is_decimal l
decimal-test [] e = absurd (eqb-false 0 0 e refl)
decimal-test (x ∷ xs) e = refl
