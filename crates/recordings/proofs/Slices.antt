-- A table of slices by its bytes: the records of the chunks of three. Assumes nothing.
use Prim.Native.Nat.{ℕ, zero, suc, ◌+◌, ◌*◌}
use mathlib.Core.Path.{◌≡◌, refl, ap, ◌∙◌}
use mathlib.Core.List.{List, ◌∷◌}
use native.Mathlib.Omega.{arith}
use Rattle.std.proofs.Common.{get_or-take, get_or-drop, get_or, map, take, drop}
use Rattle.std.specs.Simd.{first_chunks}
use Rattle.slices.specs.declared.SliceRecord.{SliceRecord}
use Rattle.recordings.specs.Slices.{signed_of, record_at, records_from, table_read}

same-record : {a b c d e f : ℕ} → a ≡ d → b ≡ e → c ≡ f
    → ◌≡◌ {A = SliceRecord} (record { mode = a; a = signed_of b; b = signed_of c }) (record { mode = d; a = signed_of e; b = signed_of f })
same-record p q r = λ j. record { mode = p j; a = signed_of (q j); b = signed_of (r j) }

-- the first chunk's record
front : (xs : List ℕ) → record_at (take 3 xs) 0 ≡ record_at xs 0
front xs = same-record (get_or-take 3 xs 0 0 (omega arith)) (get_or-take 3 xs 1 0 (omega arith)) (get_or-take 3 xs 2 0 (omega arith))

-- past the first chunk the next record is the first
past : (xs : List ℕ) (k : ℕ) → record_at (drop 3 xs) k ≡ record_at xs (k + 1)
past xs k =
    let at : (i j : ℕ) → 3 + i ≡ j → get_or (drop 3 xs) i 0 ≡ get_or xs j 0 = λ i j e. get_or-drop 3 xs i 0 ∙ ap (λ (m : ℕ). get_or xs m 0) e in
    same-record (at (3 * k) (3 * (k + 1)) (omega arith)) (at (3 * k + 1) (3 * (k + 1) + 1) (omega arith)) (at (3 * k + 2) (3 * (k + 1) + 2) (omega arith))

records-past : (xs : List ℕ) (k n : ℕ) → records_from (drop 3 xs) k n ≡ records_from xs (k + 1) n
unfolding records_from
records-past xs k zero = refl
records-past xs k (suc n) = λ j. past xs k j ∷ records-past xs (k + 1) n j

chunks-from : (n : ℕ) (xs : List ℕ) → map (λ (b : List ℕ). record_at b 0) (first_chunks 3 n xs) ≡ records_from xs 0 n
unfolding records_from
chunks-from zero xs = refl
chunks-from (suc n) xs = λ j. front xs j ∷ (chunks-from n (drop 3 xs) ∙ records-past xs 0 n) j

pub chunks : (n : ℕ) (xs : List ℕ) → map (λ (b : List ℕ). record_at b 0) (first_chunks 3 n xs) ≡ table_read n xs
unfolding table_read
chunks n xs = chunks-from n xs
