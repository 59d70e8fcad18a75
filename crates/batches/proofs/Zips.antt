-- Zips turn a batch: place i of a zipped batch was place `turn i`, and seven zips bring each sample back.
-- Assumes nothing.
use mathlib.Core.Path.{◌≡◌, refl, ap, ◌∙◌}
use Prim.Native.Nat.{ℕ, ◌+◌, ◌*◌, ◌/◌, ◌%◌, ◌<◌}
use native.Mathlib.Omega.{arith}
use borrow.Author.Tests.{eqb-true}
use lib.Dec.{eqb}
use lib.ListN.{length, get_or, set, replicate}
use Rattle.laws.specs.Loop.{up_to}
use Rattle.laws.specs.Places.{Plane}
use Rattle.laws.specs.Some.{every}
use Rattle.laws.proofs.Loop.{up_to-same, up_to-flat}
use Rattle.laws.proofs.Some.{every-at}
use Rattle.batches.specs.Moves.{empty_batch, zips, zipped_halves, zipped}
use Rattle.batches.proofs.MovedPlaces.{moved, moved_length, moved_at, Spread}

abbrev turn_halves : ℕ → ℕ → ℕ
turn_halves half i = i / 2 + half * (i % 2)

abbrev turn : ℕ → ℕ
turn = turn_halves 64

-- 16 rows of 8: place i, in column i % 8 and row i / 8, is to be in row i % 8 and column i / 8 of 8 rows of
-- 16
abbrev pub place_in_cols : ℕ → ℕ
place_in_cols i = 16 * (i % 8) + i / 8

-- .. and the other way
abbrev pub place_in_rows : ℕ → ℕ
place_in_rows i = 8 * (i % 16) + i / 16

-- at each of the 128 places, computed
turn_three : (i : ℕ) → i < 128 → turn (turn (turn i)) ≡ place_in_cols i
unfolding every
turn_three i h = eqb-true _ _ (every-at 128 i (λ j. eqb (turn (turn (turn j))) (place_in_cols j)) refl h)

turn-four : (i : ℕ) → i < 128 → turn (turn (turn (turn i))) ≡ place_in_rows i
unfolding every
turn-four i h = eqb-true _ _ (every-at 128 i (λ j. eqb (turn (turn (turn (turn j)))) (place_in_rows j)) refl h)

turn_below : (i : ℕ) → i < 128 → turn i < 128
turn_below i h = omega arith

-- ---- a zip moves each of 2 * half places
module _ (half : ℕ) (a : Plane) where
  abbrev sample : ℕ → Plane → Plane
  sample i d = set d i (get_or a (turn_halves half i) 0)

  -- place 2 * k is of the first half, the next of the second
  even-turn : (k : ℕ) → k ≡ turn_halves half (k * 2 + 0)
  even-turn k = let e : (k * 2 + 0) % 2 ≡ 0 = omega arith in rw e (omega arith)

  odd-turn : (k : ℕ) → half + k ≡ turn_halves half (k * 2 + 1)
  odd-turn k = let e : (k * 2 + 1) % 2 ≡ 1 = omega arith in rw e (omega arith)

  halves-moved : zipped_halves half a ≡ moved (half * 2) (λ i. i) (turn_halves half) a (replicate (2 * half) 0)
  unfolding zipped_halves moved up_to
  halves-moved =
      up_to-same half (zips half a) (λ k. up_to 2 (λ j. sample (k * 2 + j))) _
      (λ k u h.
      let e0 : 2 * k ≡ k * 2 + 0 = omega arith in
      let e1 : 2 * k + 1 ≡ k * 2 + 1 = omega arith in
      λ j. set (set u (e0 j) (get_or a (even-turn k j) 0)) (e1 j) (get_or a (odd-turn k j) 0))
      ∙ up_to-flat half 2 sample _

-- ---- batches
all-spread : Spread 128 (λ i. i) 128
all-spread = record { apart = λ i j h k d. d; room = λ i h. h }

pub zip_length : (a : Plane) → length (zipped a) ≡ 128
zip_length a = rw (halves-moved 64 a) (moved_length (λ i. i) turn a empty_batch 128)

zip-at : (a : Plane) (i : ℕ) → i < 128 → get_or (zipped a) i 0 ≡ get_or a (turn i) 0
zip-at a i h = rw (halves-moved 64 a) (moved_at (λ i. i) turn a empty_batch 128 all-spread i h)

pub zip-three : (a : Plane) (i : ℕ) → i < 128 → get_or (zipped (zipped (zipped a))) i 0 ≡ get_or a (place_in_cols i) 0
zip-three a i h =
    let h1 = turn_below i h in
    let h2 = turn_below (turn i) h1 in
    zip-at (zipped (zipped a)) i h ∙ zip-at (zipped a) (turn i) h1 ∙ zip-at a (turn (turn i)) h2 ∙ ap (λ (n : ℕ). get_or a n 0) (turn_three i h)

pub zip-four : (a : Plane) (i : ℕ) → i < 128 → get_or (zipped (zipped (zipped (zipped a)))) i 0 ≡ get_or a (place_in_rows i) 0
zip-four a i h =
    let h1 = turn_below i h in
    let h2 = turn_below (turn i) h1 in
    let h3 = turn_below (turn (turn i)) h2 in
    zip-at (zipped (zipped (zipped a))) i h
    ∙ zip-at (zipped (zipped a)) (turn i) h1
    ∙ zip-at (zipped a) (turn (turn i)) h2
    ∙ zip-at a (turn (turn (turn i))) h3
    ∙ ap (λ (n : ℕ). get_or a n 0) (turn-four i h)
