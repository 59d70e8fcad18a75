-- Numbers by their bytes: those of the chunks of two. Assumes nothing.
use Prim.Native.Nat.{ℕ, zero, suc, ◌+◌, ◌*◌}
use mathlib.Core.Path.{◌≡◌, refl, ap, ◌∙◌}
use mathlib.Core.List.{List, ◌∷◌}
use native.Mathlib.Omega.{arith}
use Rattle.std.proofs.Common.{get_or-take, get_or-drop, get_or, map, take, drop}
use Rattle.std.specs.Simd.{first_chunks}
use Rattle.recordings.specs.Numbers.{number_at, numbers_from, numbers_read}

same-number : {a b c d : ℕ} → a ≡ c → b ≡ d → a + 256 * b ≡ c + 256 * d
same-number p q = λ j. p j + 256 * q j

-- the first chunk's number
front : (xs : List ℕ) → number_at (take 2 xs) 0 ≡ number_at xs 0
front xs = same-number (get_or-take 2 xs 0 0 (omega arith)) (get_or-take 2 xs 1 0 (omega arith))

-- past the first chunk the next number is the first
past : (xs : List ℕ) (k : ℕ) → number_at (drop 2 xs) k ≡ number_at xs (k + 1)
past xs k =
    let at : (i j : ℕ) → 2 + i ≡ j → get_or (drop 2 xs) i 0 ≡ get_or xs j 0 = λ i j e. get_or-drop 2 xs i 0 ∙ ap (λ (m : ℕ). get_or xs m 0) e in
    same-number (at (2 * k) (2 * (k + 1)) (omega arith)) (at (2 * k + 1) (2 * (k + 1) + 1) (omega arith))

numbers-past : (xs : List ℕ) (k n : ℕ) → numbers_from (drop 2 xs) k n ≡ numbers_from xs (k + 1) n
unfolding numbers_from
numbers-past xs k zero = refl
numbers-past xs k (suc n) = λ j. past xs k j ∷ numbers-past xs (k + 1) n j

pairs-from : (n : ℕ) (xs : List ℕ) → map (λ (b : List ℕ). number_at b 0) (first_chunks 2 n xs) ≡ numbers_from xs 0 n
unfolding numbers_from
pairs-from zero xs = refl
pairs-from (suc n) xs = λ j. front xs j ∷ (pairs-from n (drop 2 xs) ∙ numbers-past xs 0 n) j

pub pairs : (n : ℕ) (xs : List ℕ) → map (λ (b : List ℕ). number_at b 0) (first_chunks 2 n xs) ≡ numbers_read n xs
unfolding numbers_read
pairs n xs = pairs-from n xs
