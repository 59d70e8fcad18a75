-- Apart: no promise rests on it. P9, P10 and P11 of docs/RULES.md, "Worked cases": strengths between two
-- inter blocks with no coefficients, at the vertical 3 of frames.
use Rattle.std.specs.Prelude.{ℕ, true, false, List, [], ◌∷◌, map, ℤ, pos, negsuc}
use Rattle.laws.specs.Cases.{Case}
use Rattle.motion.specs.Grids.{block_of}
use Rattle.motion.specs.Motion.{inter_strength}
use Rattle.motion.specs.declared.blocks.Blk.{Blk}
use Rattle.motion.specs.declared.blocks.Motion.{Motion}

-- the reference r with the vector (x, 0)
abbrev pub moving : ℕ → ℤ → Motion
moving r x = record { reference = pos r; x = x; y = pos 0 }

abbrev pub no_motion : Motion
no_motion = record { reference = negsuc 0; x = pos 0; y = pos 0 }

abbrev pub inter_block : Motion → Motion → Blk
inter_block m n = block_of true m n

-- P10's two blocks use the same two pictures, each by the other's list
abbrev pub straight : Blk
straight = inter_block (moving 5 (pos 0)) (moving 7 (pos 8))

abbrev pub crossed : Blk
crossed = inter_block (moving 7 (pos 8)) (moving 5 (pos 0))

-- P11's use one picture twice, with the vectors (x, 0) and (y, 0)
abbrev pub twice : ℤ → ℤ → Blk
twice x y = inter_block (moving 5 x) (moving 5 y)

-- P9's strength at the difference d
abbrev pub strength_apart : ℤ → ℕ
strength_apart d = inter_strength 3 false (inter_block (moving 2 d) no_motion) (inter_block (moving 2 (pos 0)) no_motion)

abbrev pub motion_cases : List Case
motion_cases =
    record { number = 9; given = map strength_apart (negsuc 3 ∷ negsuc 2 ∷ pos 3 ∷ pos 4 ∷ []); paper = 1 ∷ 0 ∷ 0 ∷ 1 ∷ [] }
    ∷ record { number = 10; given = inter_strength 3 false straight crossed ∷ []; paper = 0 ∷ [] }
    ∷ record { number = 11; given = inter_strength 3 false (twice (pos 0) (pos 8)) (twice (pos 8) (pos 4)) ∷ []; paper = 1 ∷ [] }
    ∷ []
