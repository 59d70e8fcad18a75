-- Worked examples of the definitions. Assumes nothing.
use mathlib.Core.Path.{◌≡◌, refl}
use mathlib.Core.Bool.{true, false}
use mathlib.Core.List.{[], ◌∷◌}
use Prim.Native.Nat.{ℕ}
use Rattle.laws.specs.Clip.{clip3, clip1}
use Rattle.laws.specs.Loop.{up_to}
use Rattle.laws.specs.Places.{Plane}
use Rattle.lines.specs.Depth.{eight}
use Rattle.lines.specs.Filter.{delta_of}
use Rattle.lines.specs.Chroma.{chroma_normal, normal_short, chroma_line}
use Rattle.lines.specs.Planes.{chroma_at}
use Rattle.lines.specs.Inner.{cap_row}
use Rattle.lines.specs.Tables.{tc0s}
use Rattle.batches.specs.Lines.{segment_strength, short_lines, u_or_v, uv_strength}
use Rattle.batches.specs.Lanes.{spread_of, four_each, two_each, word_of, still_edge}
use Rattle.batches.specs.Moves.{copied_row, moved_rows, zipped_halves}
use Rattle.batches.specs.declared.lanes.Four.{Four}
use Rattle.batches.specs.declared.lanes.Thresholds.{Thresholds}

abbrev pub mixed_four : Four
mixed_four = record { a = 0; b = 2; c = 4; d = 9 }

abbrev pub nowhere : Four
nowhere = record { a = 0; b = 0; c = 0; d = 0 }

-- luma line 5 is of the second segment, chroma line 5 of the third, and line 13 of a chroma batch is V's line
-- 5
fifth : (segment_strength 4 mixed_four 5 ≡ 2) × (segment_strength 2 mixed_four 5 ≡ 4) × (uv_strength mixed_four 13 ≡ 4)
fifth = (refl, refl, refl)

whose : (u v : ℕ) → (u_or_v u v 7 ≡ u) × (u_or_v u v 8 ≡ v)
whose u v = (refl, refl)

-- the thresholds of QP 30, where tC0 is 1, 1 and 2
abbrev pub thirty : Thresholds
thirty = record { alpha = 25; beta = 8; index = 30 }

abbrev pub alpha_off : Thresholds
alpha_off = record { alpha = 0; beta = 8; index = 30 }

-- caps for the lines of strengths 1 to 3 alone: of the second segment. In chroma of U's and then of V's, by
-- an index for each: at 51 tC0 is 17 at strength 2
weak-lanes : (four_each (cap_row eight 30) mixed_four ≡ spread_of 0 0 2 2 0 0 0 0) × (two_each (cap_row eight 30) (cap_row eight 51) mixed_four ≡ spread_of 0 2 0 0 0 18 0 0)
unfolding tc0s
weak-lanes = (refl, refl)

-- four strengths as one number: all 4, and all 0
words : (word_of (record { a = 4; b = 4; c = 4; d = 4 }) ≡ 67372036) × (word_of nowhere ≡ 0)
words = (refl, refl)

-- lines may change where a strength is not 0 and alpha is not
when-still : (still_edge mixed_four thirty ≡ false) × (still_edge nowhere thirty ≡ true) × (still_edge mixed_four alpha_off ≡ true)
when-still = (refl, refl, refl)

-- two rows of two samples, two apart, to places three apart
two-rows : moved_rows 2 2 1 3 0 2 (5 ∷ 6 ∷ 7 ∷ 8 ∷ []) (1 ∷ 1 ∷ 1 ∷ 1 ∷ 1 ∷ 1 ∷ 1 ∷ []) ≡ 1 ∷ 5 ∷ 6 ∷ 1 ∷ 7 ∷ 8 ∷ 1 ∷ []
unfolding moved_rows copied_row up_to
two-rows = refl

-- 4 rows of 2, turned into 2 rows of 4 and back
abbrev four_rows : Plane
four_rows = 1 ∷ 2 ∷ 3 ∷ 4 ∷ 5 ∷ 6 ∷ 7 ∷ 8 ∷ []

abbrev zipped_twice : Plane
zipped_twice = zipped_halves 4 (zipped_halves 4 four_rows)

turned : (zipped_twice ≡ 1 ∷ 3 ∷ 5 ∷ 7 ∷ 2 ∷ 4 ∷ 6 ∷ 8 ∷ []) × (zipped_halves 4 zipped_twice ≡ four_rows)
unfolding zipped_halves up_to
turned = (refl, refl)

-- ---- two chroma edges of one row, 60 60 | 70 70 and 70 70 | 80 80, of strengths 1 and 2 at QP 30 (P8 of the
-- worked cases)
abbrev pub steps : Plane
steps = 60 ∷ 60 ∷ 70 ∷ 70 ∷ 70 ∷ 70 ∷ 80 ∷ 80 ∷ []

abbrev pub one_first : Four
one_first = record { a = 1; b = 0; c = 0; d = 0 }

abbrev pub two_first : Four
two_first = record { a = 2; b = 0; c = 0; d = 0 }

both-edges : short_lines eight two_first thirty 4 8 1 (short_lines eight one_first thirty 0 8 1 steps) ≡ 60 ∷ 62 ∷ 68 ∷ 70 ∷ 70 ∷ 72 ∷ 78 ∷ 80 ∷ []
unfolding short_lines up_to chroma_at chroma_line normal_short chroma_normal delta_of clip3 clip1 tc0s
both-edges = refl
