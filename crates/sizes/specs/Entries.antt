-- Grids of one entry a macroblock, in raster order, and the 8x8 flags among them (transform_size_8x8_flag):
-- docs/RULES.md, "Sizes and layouts", "Answers" and "What each call reads". Flags 0, 1 say that macroblock 1
-- alone is 8x8.
use Rattle.std.specs.Prelude.{ℕ, ◌+◌, ◌-◌, ◌*◌, Bool, false, cond, not, ◌&&◌, ◌||◌, List, eqb, ltb, length, get_or}

-- ---- the flags: an empty grid is all 0
unfoldable pub flag_at : List ℕ → ℕ → Bool
flag_at t8s i = cond (eqb (length t8s) 0) false (not (eqb (get_or t8s i 0) 0))

-- 4: their grid has the wrong length for n macroblocks
abbrev pub bad_flag_count : ℕ → ℕ → Bool
bad_flag_count n t8s = not (eqb t8s 0 || eqb t8s n)

-- 7: a value that is no flag
abbrev pub bad_flag : ℕ → Bool
bad_flag f = ltb 1 f

-- ---- where there is a neighbour, d places before i, its entry is bad
abbrev pub bad_before : (ℕ → Bool) → Bool → List ℕ → ℕ → ℕ → Bool
bad_before bad there xs i d = there && bad (get_or xs (i - d) 0)

-- the entry of macroblock (x, y), of its left or of its upper neighbour is bad
abbrev pub bad_near : (ℕ → Bool) → List ℕ → ℕ → ℕ → ℕ → Bool
bad_near bad xs w x y = bad (get_or xs (y * w + x) 0) || bad_before bad (ltb 0 x) xs (y * w + x) 1 || bad_before bad (ltb 0 y) xs (y * w + x) w
