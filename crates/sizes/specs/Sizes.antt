-- Checks 1, 2, 19 and 3, each as whether it applies: docs/RULES.md, "Sizes and layouts", "Fields" and
-- "Answers".
use Rattle.std.specs.Prelude.{ℕ, ◌*◌, Bool, false, not, ◌||◌, eqb, ltb, leb}
use Rattle.sizes.specs.declared.Part.{Part}
use Rattle.sizes.specs.declared.Part.TheVariants.{Frame, Field}
use Rattle.sizes.specs.declared.Size.{Size}

-- 1: W, H or their product is outside its range
abbrev pub bad_size : Size → Bool
bad_size size = eqb size.w 0 || ltb 256 size.w || eqb size.h 0 || ltb 256 size.h || ltb 36864 (size.w * size.h)

-- 2: the macroblock is outside the picture
abbrev pub outside_of : Size → ℕ → ℕ → Bool
outside_of size x y = leb size.w x || leb size.h y

-- 19: a field's parity is not 0 or 1
abbrev pub bad_parity : Part → Bool
bad_parity Frame = false
bad_parity (Field p) = ltb 1 p

-- a picture of n macroblocks lies in planes of so many: the frame of a field has two fields
abbrev pub frame_of_part : Part → ℕ → ℕ
frame_of_part Frame n = n
frame_of_part (Field p) n = 2 * n

-- 3: a plane has the wrong length for n macroblocks
abbrev pub bad_planes : ℕ → ℕ → ℕ → ℕ → Bool
bad_planes n luma u v = not (eqb luma (256 * n)) || not (eqb u (64 * n)) || not (eqb v (64 * n))
