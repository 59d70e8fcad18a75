-- Worked examples of 8x8 transforms: the definitions computed on the smallest pictures. Assumes nothing.
use mathlib.Core.Path.{◌≡◌, refl}
use mathlib.Core.Bool.{false}
use mathlib.Core.List.{List, [], ◌∷◌, ◌++◌, map, replicate}
use Prim.Native.Nat.{ℕ}
use lib.IntN.{pos}
use Rattle.laws.specs.Some.{some}
use Rattle.motion.specs.Far.{outside}
use Rattle.motion.specs.Grids.{Grids, grids, block_read}
use Rattle.motion.specs.Motion.{used, mismatched, differ, inter_strength}
use Rattle.motion.specs.Pictures.{named_by}
use Rattle.sizes.specs.Entries.{flag_at}
use Rattle.strengths.specs.Blocks.{some_read, macroblock_of, in_eight}
use Rattle.strengths.specs.Checks.{bad_table, disagree}
use Rattle.strengths.specs.Calls.{answer_of}
use Rattle.strengths.specs.Strength.{frame, coded, between, strength_at}
use Rattle.strengths.proofs.Examples.{one_mb, intra, high, wide_two, two_intra}

-- block 13 of a picture 2 macroblocks wide: its macroblock, and the blocks of its 8x8 block
block-13 : (macroblock_of 2 13 ≡ 1) × (in_eight 2 13 0 0 ∷ in_eight 2 13 0 1 ∷ in_eight 2 13 1 0 ∷ in_eight 2 13 1 1 ∷ [] ≡ 4 ∷ 5 ∷ 12 ∷ 13 ∷ [])
block-13 = (refl, refl)

-- a lone inter macroblock of one motion whose first block has a count: vertical edges 1 and 2, then
-- horizontal ones. It counts for the upper left 8x8 block, so the first half of both edges 2 has 2. Without
-- the flag both edges 1 have it beside that block
abbrev first_count : Grids
first_count = grids (replicate 16 1) (1 ∷ replicate 15 0) (replicate 16 (pos 0)) (replicate 32 (pos 0)) [] [] [] []

first-count : (map (strength_at frame first_count 1 (flag_at (1 ∷ [])) 0 0) (4 ∷ 8 ∷ 9 ∷ 10 ∷ 11 ∷ 20 ∷ 24 ∷ 25 ∷ 26 ∷ []) ≡ 0 ∷ 2 ∷ 2 ∷ 0 ∷ 0 ∷ 0 ∷ 2 ∷ 2 ∷ 0 ∷ [])
    × (map (strength_at frame first_count 1 (flag_at []) 0 0) (4 ∷ 8 ∷ 9 ∷ 10 ∷ 11 ∷ 20 ∷ 24 ∷ 25 ∷ 26 ∷ []) ≡ 2 ∷ 0 ∷ 0 ∷ 0 ∷ 0 ∷ 2 ∷ 0 ∷ 0 ∷ 0 ∷ [])
unfolding strength_at coded flag_at some between block_read inter_strength named_by differ mismatched used outside
first-count = (refl, refl)

-- two side by side: the left one has a count in row 0, column 2. The left edge of the right one, where the
-- left one is 8x8; where the right one is; where none is
abbrev two_counted : List ℕ → Grids
two_counted counts = grids (replicate 32 1) counts (replicate 32 (pos 0)) (replicate 64 (pos 0)) [] [] [] []

abbrev pub left_count : Grids
left_count = two_counted (0 ∷ 0 ∷ 1 ∷ replicate 29 0)

left-count : (map (strength_at frame left_count 2 (flag_at (1 ∷ 0 ∷ [])) 1 0) (0 ∷ 1 ∷ 2 ∷ 3 ∷ []) ≡ 2 ∷ 2 ∷ 0 ∷ 0 ∷ [])
    × (map (strength_at frame left_count 2 (flag_at (0 ∷ 1 ∷ [])) 1 0) (0 ∷ 1 ∷ 2 ∷ 3 ∷ []) ≡ 0 ∷ 0 ∷ 0 ∷ 0 ∷ [])
    × (map (strength_at frame left_count 2 (flag_at []) 1 0) (0 ∷ 1 ∷ 2 ∷ 3 ∷ []) ≡ 0 ∷ 0 ∷ 0 ∷ 0 ∷ [])
unfolding strength_at coded flag_at some between block_read inter_strength named_by differ mismatched used outside
left-count = (refl, refl, refl)

-- one above the other: the upper one has a count in row 2, column 1. The upper edge of the lower one, where
-- the upper one is 8x8; where it is not
abbrev upper_count : Grids
upper_count = two_counted (replicate 9 0 ++ 1 ∷ replicate 22 0)

upper-count : (map (strength_at frame upper_count 1 (flag_at (1 ∷ 0 ∷ [])) 0 1) (16 ∷ 17 ∷ 18 ∷ 19 ∷ []) ≡ 2 ∷ 2 ∷ 0 ∷ 0 ∷ [])
    × (map (strength_at frame upper_count 1 (flag_at []) 0 1) (16 ∷ 17 ∷ 18 ∷ 19 ∷ []) ≡ 0 ∷ 0 ∷ 0 ∷ 0 ∷ [])
unfolding strength_at coded flag_at some between block_read inter_strength named_by differ mismatched used outside
upper-count = (refl, refl)

-- check 4: two flags for one macroblock. Check 7: the own flag is 2; the left one; the upper one. That of the
-- right neighbour, or of the lower one, is not read
pub bad-flags : (answer_of one_mb 0 0 (0 ∷ 0 ∷ []) intra false 32 ≡ 4)
    × (answer_of one_mb 0 0 (2 ∷ []) intra false 32 ≡ 7)
    × (answer_of wide_two 1 0 (2 ∷ 0 ∷ []) two_intra false 64 ≡ 7)
    × (answer_of high 0 1 (2 ∷ 0 ∷ []) two_intra false 64 ≡ 7)
    × (answer_of wide_two 0 0 (0 ∷ 2 ∷ []) two_intra false 64 ≡ 0)
    × (answer_of high 0 0 (0 ∷ 2 ∷ []) two_intra false 64 ≡ 0)
unfolding answer_of some_read some disagree bad_table
bad-flags = (refl, refl, refl, refl, refl, refl)
