-- Worked examples: the definitions computed on the smallest pictures. Assumes nothing.
use mathlib.Core.Path.{◌≡◌, refl}
use mathlib.Core.Bool.{false}
use mathlib.Core.List.{List, [], ◌∷◌, ◌++◌, map, replicate}
use Prim.Native.Nat.{ℕ}
use lib.IntN.{ℤ, pos, negsuc}
use Rattle.laws.specs.Some.{some}
use Rattle.motion.specs.Far.{outside}
use Rattle.motion.specs.Grids.{Grids, grids, block_read}
use Rattle.motion.specs.Motion.{used, mismatched, differ, inter_strength}
use Rattle.motion.specs.Pictures.{named_by}
use Rattle.sizes.specs.declared.Size.{Size}
use Rattle.sizes.specs.Entries.{flag_at}
use Rattle.strengths.specs.Blocks.{some_read}
use Rattle.strengths.specs.Checks.{bad_table, disagree}
use Rattle.strengths.specs.Calls.{answer_of}
use Rattle.strengths.specs.Strength.{frame, field, coded, between, strength_at}
use Rattle.strengths.specs.declared.kinds.Mode.{Mode}

-- ---- one macroblock, all intra, no list 1
abbrev pub one_mb : Size
one_mb = record { w = 1; h = 1 }

abbrev pub intra : Grids
intra = grids (replicate 16 0) (replicate 16 0) (replicate 16 (negsuc 0)) (replicate 32 (pos 0)) [] [] [] []

pub answered : answer_of one_mb 0 0 [] intra false 32 ≡ 0
unfolding answer_of some_read some disagree bad_table
answered = refl

-- its left and top edges, at the picture's border, have 0; those inside 3. Bytes 0 and 4: vertical edges 0
-- and 1
pub border-zero : strength_at frame intra 1 (flag_at []) 0 0 0 ≡ 0
unfolding strength_at coded flag_at
border-zero = refl

pub inside-three : strength_at frame intra 1 (flag_at []) 0 0 4 ≡ 3
unfolding strength_at coded flag_at between block_read
inside-three = refl

-- bytes 16, 20, 24, 28: horizontal edges 0 to 3, with and without the 8x8 transform
horizontal : (map (strength_at frame intra 1 (flag_at []) 0 0) (16 ∷ 20 ∷ 24 ∷ 28 ∷ []) ≡ 0 ∷ 3 ∷ 3 ∷ 3 ∷ [])
    × (map (strength_at frame intra 1 (flag_at (1 ∷ [])) 0 0) (16 ∷ 20 ∷ 24 ∷ 28 ∷ []) ≡ 0 ∷ 0 ∷ 3 ∷ 0 ∷ [])
unfolding strength_at coded flag_at between block_read
horizontal = (refl, refl)

-- ---- two side by side, of which the right one is asked: four rows of 4 blocks each
abbrev pub four_rows : {A : Type 0} → List A → List A
four_rows r = r ++ r ++ r ++ r

-- the left one intra: 4 on the edge between them, and inside the right one, of one motion, 0
abbrev beside_intra : Grids
beside_intra = grids (four_rows (replicate 4 0 ++ replicate 4 1)) (replicate 32 0) (replicate 32 (pos 0)) (replicate 64 (pos 0)) [] [] [] []

beside-intra : map (strength_at frame beside_intra 2 (flag_at []) 1 0) (0 ∷ 3 ∷ 4 ∷ 20 ∷ []) ≡ 4 ∷ 4 ∷ 0 ∷ 0 ∷ []
unfolding strength_at coded flag_at between block_read inter_strength named_by differ mismatched used outside
beside-intra = refl

-- both inter, the left one's vectors 4 to the right of the right one's, and coefficients in the left one's
-- top row: 2 on the first segment of the edge between them, 1 on the others, 0 inside
abbrev pub beside_moved : Grids
beside_moved =
    grids (replicate 32 1) (replicate 4 1 ++ replicate 28 0) (replicate 32 (pos 0))
    (four_rows (pos 4 ∷ pos 0 ∷ pos 4 ∷ pos 0 ∷ pos 4 ∷ pos 0 ∷ pos 4 ∷ pos 0 ∷ replicate 8 (pos 0))) [] [] [] []

beside-moved : map (strength_at frame beside_moved 2 (flag_at []) 1 0) (0 ∷ 1 ∷ 3 ∷ 4 ∷ 20 ∷ []) ≡ 2 ∷ 1 ∷ 1 ∷ 0 ∷ 0 ∷ []
unfolding strength_at coded flag_at between block_read inter_strength named_by differ mismatched used outside
beside-moved = refl

-- ---- fields and frames. One inter macroblock whose first block alone moves, by (a, b): bytes 4 and 20 stand
-- between it and the blocks to its right and below it
abbrev pub first_moved : ℤ → ℤ → Grids
first_moved a b = grids (replicate 16 1) (replicate 16 0) (replicate 16 (pos 0)) (a ∷ b ∷ replicate 30 (pos 0)) [] [] [] []

abbrev pub moved_by : Mode → ℤ → ℤ → ℕ → ℕ
moved_by mode a b k = strength_at mode (first_moved a b) 1 (flag_at []) 0 0 k

-- vertically a field is near from -1 to 1, where a frame is from -3 to 3
moved_down : (map (λ b. moved_by field (pos 0) b 4) (negsuc 1 ∷ negsuc 0 ∷ pos 1 ∷ pos 2 ∷ []) ≡ 1 ∷ 0 ∷ 0 ∷ 1 ∷ [])
    × (map (λ b. moved_by field (pos 0) b 20) (negsuc 1 ∷ negsuc 0 ∷ pos 1 ∷ pos 2 ∷ []) ≡ 1 ∷ 0 ∷ 0 ∷ 1 ∷ [])
    × (map (λ b. moved_by frame (pos 0) b 4) (negsuc 1 ∷ negsuc 0 ∷ pos 1 ∷ pos 2 ∷ []) ≡ 0 ∷ 0 ∷ 0 ∷ 0 ∷ [])
    × (map (λ b. moved_by frame (pos 0) b 20) (negsuc 3 ∷ negsuc 2 ∷ pos 3 ∷ pos 4 ∷ []) ≡ 1 ∷ 0 ∷ 0 ∷ 1 ∷ [])
unfolding strength_at coded flag_at between block_read inter_strength named_by differ mismatched used outside
moved_down = (refl, refl, refl, refl)

-- horizontally both are near from -3 to 3
moved-right : (map (λ a. moved_by field a (pos 0) 4) (negsuc 3 ∷ negsuc 2 ∷ pos 3 ∷ pos 4 ∷ []) ≡ 1 ∷ 0 ∷ 0 ∷ 1 ∷ [])
    × (map (λ a. moved_by frame a (pos 0) 4) (negsuc 3 ∷ negsuc 2 ∷ pos 3 ∷ pos 4 ∷ []) ≡ 1 ∷ 0 ∷ 0 ∷ 1 ∷ [])
unfolding strength_at coded flag_at between block_read inter_strength named_by differ mismatched used outside
moved-right = (refl, refl)

-- two intra macroblocks, one above the other or side by side
abbrev pub high : Size
high = record { w = 1; h = 2 }

abbrev pub wide_two : Size
wide_two = record { w = 2; h = 1 }

abbrev pub two_intra : Grids
two_intra = grids (replicate 32 0) (replicate 32 0) (replicate 32 (negsuc 0)) (replicate 64 (pos 0)) [] [] [] []

-- calls on these, and on a first block that moves down by 2, are served (proofs/Refused has them)
pub field-served : (answer_of one_mb 0 0 [] (first_moved (pos 0) (pos 2)) false 32 ≡ 0) × (answer_of high 0 1 [] two_intra false 64 ≡ 0) × (answer_of wide_two 1 0 [] two_intra false 64 ≡ 0)
unfolding answer_of some_read some disagree bad_table
field-served = (refl, refl, refl)

-- the lower one has 3 on its upper edge in a field, 4 in a frame; inside 3 both ways
below-intra : (map (strength_at field two_intra 1 (flag_at []) 0 1) (0 ∷ 4 ∷ 16 ∷ 19 ∷ 20 ∷ []) ≡ 0 ∷ 3 ∷ 3 ∷ 3 ∷ 3 ∷ [])
    × (map (strength_at frame two_intra 1 (flag_at []) 0 1) (0 ∷ 4 ∷ 16 ∷ 19 ∷ 20 ∷ []) ≡ 0 ∷ 3 ∷ 4 ∷ 4 ∷ 3 ∷ [])
unfolding strength_at coded flag_at between block_read
below-intra = (refl, refl)

-- the right one has 4 on its left edge in both
right-of-intra : (map (strength_at field two_intra 2 (flag_at []) 1 0) (0 ∷ 3 ∷ 4 ∷ 16 ∷ []) ≡ 4 ∷ 4 ∷ 3 ∷ 0 ∷ [])
    × (map (strength_at frame two_intra 2 (flag_at []) 1 0) (0 ∷ 3 ∷ 4 ∷ 16 ∷ []) ≡ 4 ∷ 4 ∷ 3 ∷ 0 ∷ [])
unfolding strength_at coded flag_at between block_read
right-of-intra = (refl, refl)
