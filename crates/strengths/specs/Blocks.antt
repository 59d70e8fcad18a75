-- The 4x4 blocks that the strengths of macroblock (x, y) read, as indices into grids with rows of 4 * w
-- blocks: docs/RULES.md, "Sizes and layouts" and "What each call reads". They are its own 16, four to the
-- left where x > 0, four above where y > 0: the blocks beside an edge in ITU-T H.264, clause 8.7.2.1. Counts
-- are also read of the other blocks of an 8x8 block (`in_eight`). In a picture 2 macroblocks wide block 13 is
-- in row 1 and column 5: in macroblock 1, and in the 8x8 block of blocks 4, 5, 12, 13
-- (proofs/EightsExamples).
use Rattle.std.specs.Prelude.{ℕ, ◌+◌, ◌-◌, ◌*◌, ◌/◌, ◌%◌, Bool, ◌&&◌, ◌||◌, ltb}
use Rattle.laws.specs.Some.{some}

-- the first of its own: row 4 * y, column 4 * x
abbrev pub origin : ℕ → ℕ → ℕ → ℕ
origin w x y = 16 * (y * w) + 4 * x

-- the one in its row r and column c
abbrev pub own_block : ℕ → ℕ → ℕ → ℕ → ℕ → ℕ
own_block w x y r c = origin w x y + r * (4 * w) + c

-- a row of places, `step` apart, whose first is `back` before `at`
abbrev pub beside_block : ℕ → ℕ → ℕ → ℕ → ℕ
beside_block at back step k = at - back + k * step

-- the k-th to the left and the k-th above, where there are any
abbrev pub left_block : ℕ → ℕ → ℕ → ℕ → ℕ
left_block w x y k = beside_block (origin w x y) 1 (4 * w) k

abbrev pub above_block : ℕ → ℕ → ℕ → ℕ → ℕ
above_block w x y k = beside_block (origin w x y) (4 * w) 1 k

-- a block that is read passes the test f
unfoldable pub some_read : ℕ → ℕ → ℕ → (ℕ → Bool) → Bool
some_read w x y f =
    some 4 (λ r. some 4 (λ c. f (own_block w x y r c)))
    || (ltb 0 x && some 4 (λ k. f (left_block w x y k)))
    || (ltb 0 y && some 4 (λ k. f (above_block w x y k)))

-- ---- the row and the column of block i among the picture's, the index of the macroblock that holds it, and
-- the block in row r and column c of the 8x8 block that holds it: 8x8 blocks begin in even rows and columns
abbrev pub block_row : ℕ → ℕ → ℕ
block_row w i = i / (4 * w)

abbrev pub block_column : ℕ → ℕ → ℕ
block_column w i = i % (4 * w)

abbrev pub macroblock_of : ℕ → ℕ → ℕ
macroblock_of w i = block_row w i / 4 * w + block_column w i / 4

abbrev pub in_eight : ℕ → ℕ → ℕ → ℕ → ℕ
in_eight w i r c = (block_row w i / 2 * 2 + r) * (4 * w) + (block_column w i / 2 * 2 + c)
