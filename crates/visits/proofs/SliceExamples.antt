-- Worked examples: two macroblocks side by side (2 by 1, luma 100 and 103, strength 1 on the edge between
-- them), by the slices that they are of. Luma sample (15, 0), left of that edge, is 100, and 101 where the
-- edge is filtered. Assumes nothing.
use mathlib.Core.Path.{◌≡◌, refl}
use mathlib.Core.List.{List, [], ◌∷◌, ◌++◌}
use Prim.Native.Nat.{ℕ}
use lib.IntN.{ℤ, pos, negsuc}
use lib.ListN.{get_or}
use Rattle.laws.specs.Clip.{clip3, clip1}
use Rattle.laws.specs.Loop.{up_to, span}
use Rattle.laws.specs.Some.{some}
use Rattle.lines.specs.Filter.{delta_of}
use Rattle.lines.specs.Tables.{alphas, betas, tc0s}
use Rattle.lines.specs.Thresholds.{average, index_of}
use Rattle.lines.specs.Luma.{nudge_of, inner_of, luma_normal, normal_line, luma_line}
use Rattle.lines.specs.Planes.{luma_at}
use Rattle.edges.specs.Edge.{luma_rule, luma_edge}
use Rattle.edges.specs.Macroblock.{luma_way, luma_both}
use Rattle.edges.specs.Picture.{luma_of, macroblock_at, row_of, rows_of}
use Rattle.sizes.specs.Entries.{flag_at}
use Rattle.sizes.specs.declared.Part.TheVariants.{Frame}
use Rattle.slices.specs.Table.{some_bad_pair, some_bad_mode}
use Rattle.slices.specs.declared.SliceRecord.{SliceRecord}
use Rattle.pictures.specs.Checks.{Lent, lent_slices, held_of, some_bad}
use Rattle.pictures.specs.Rows.{row_answer}
use Rattle.visits.specs.Fault.{band, outer_strengths}
use Rattle.visits.specs.Smallest.{pair_planes}

-- a slice of a mode, and one of mode 0 with an offset A
abbrev pub of_mode : ℕ → SliceRecord
of_mode m = record { mode = m; a = pos 0; b = pos 0 }

abbrev pub with_a : ℤ → SliceRecord
with_a a = record { mode = 0; a = a; b = pos 0 }

-- the pair with a table, the two numbers and one QP for both
abbrev pub pair_by : ℕ → List SliceRecord → List ℕ → Lent
pair_by qp t ns = lent_slices (record { w = 2; h = 1 }) (record { u = pos 0; v = pos 0 }) t ns (outer_strengths 0 0 ++ outer_strengths 1 0) (qp ∷ qp ∷ []) []

abbrev pub edge_sample : Lent → ℕ
edge_sample d = get_or (rows_of (held_of d) 0 1 pair_planes).luma 15 0

-- ---- modes: the edge belongs to the right macroblock
pub by-modes : (edge_sample (pair_by 40 (of_mode 0 ∷ []) (0 ∷ 0 ∷ [])) ≡ 101)
    × (edge_sample (pair_by 40 (of_mode 1 ∷ of_mode 0 ∷ []) (0 ∷ 1 ∷ [])) ≡ 101)
    × (edge_sample (pair_by 40 (of_mode 0 ∷ of_mode 1 ∷ []) (0 ∷ 1 ∷ [])) ≡ 100)
    × (edge_sample (pair_by 40 (of_mode 2 ∷ of_mode 0 ∷ []) (0 ∷ 1 ∷ [])) ≡ 101)
    × (edge_sample (pair_by 40 (of_mode 0 ∷ of_mode 2 ∷ []) (0 ∷ 1 ∷ [])) ≡ 100)
unfolding rows_of row_of span band macroblock_at luma_of flag_at up_to luma_rule luma_edge luma_way luma_both luma_at luma_line normal_line luma_normal nudge_of inner_of delta_of clip3 clip1 average index_of alphas betas tc0s
by-modes = (refl, refl, refl, refl, refl)

-- ---- mode 2 goes by numbers: equal records of two numbers are two slices, and one number is one
pub by-slice-number : (edge_sample (pair_by 40 (of_mode 2 ∷ of_mode 2 ∷ []) (0 ∷ 1 ∷ [])) ≡ 100) × (edge_sample (pair_by 40 (of_mode 2 ∷ of_mode 2 ∷ []) (1 ∷ 1 ∷ [])) ≡ 101)
unfolding rows_of row_of span band macroblock_at luma_of flag_at up_to luma_rule luma_edge luma_way luma_both luma_at luma_line normal_line luma_normal nudge_of inner_of delta_of clip3 clip1 average index_of alphas betas tc0s
by-slice-number = (refl, refl)

-- ---- offsets are those of the slice that holds q0, the right one: at QP 20 with offset A -12 alpha is 0
pub by-offsets : (edge_sample (pair_by 20 (with_a (negsuc 11) ∷ with_a (pos 0) ∷ []) (0 ∷ 1 ∷ [])) ≡ 101) × (edge_sample (pair_by 20 (with_a (pos 0) ∷ with_a (negsuc 11) ∷ []) (0 ∷ 1 ∷ [])) ≡ 100)
unfolding rows_of row_of span band macroblock_at luma_of flag_at up_to luma_rule luma_edge luma_way luma_both luma_at luma_line normal_line luma_normal nudge_of inner_of delta_of clip3 clip1 average index_of alphas betas tc0s
by-offsets = (refl, refl)

-- ---- checks of rows 0 to 1: served; a grid of one number; an unused record with A 13; one with mode 3; a
-- number past the table, with an unknown mode beside it or without; no record at all; a QP of 52 before it
pub pair-answers : (row_answer Frame (pair_by 40 (of_mode 0 ∷ []) (0 ∷ 0 ∷ [])) 0 1 pair_planes ≡ 0)
    × (row_answer Frame (pair_by 40 (of_mode 0 ∷ []) (0 ∷ [])) 0 1 pair_planes ≡ 4)
    × (row_answer Frame (pair_by 40 (of_mode 0 ∷ with_a (pos 13) ∷ []) (0 ∷ 0 ∷ [])) 0 1 pair_planes ≡ 6)
    × (row_answer Frame (pair_by 40 (of_mode 0 ∷ of_mode 3 ∷ []) (0 ∷ 0 ∷ [])) 0 1 pair_planes ≡ 21)
    × (row_answer Frame (pair_by 40 (of_mode 0 ∷ []) (0 ∷ 1 ∷ [])) 0 1 pair_planes ≡ 20)
    × (row_answer Frame (pair_by 40 (of_mode 3 ∷ []) (0 ∷ 1 ∷ [])) 0 1 pair_planes ≡ 20)
    × (row_answer Frame (pair_by 40 [] (0 ∷ 0 ∷ [])) 0 1 pair_planes ≡ 20)
    × (row_answer Frame (pair_by 52 [] (0 ∷ 0 ∷ [])) 0 1 pair_planes ≡ 8)
unfolding row_answer some_bad some some_bad_pair some_bad_mode band
pair-answers = (refl, refl, refl, refl, refl, refl, refl, refl)

-- .. and of the empty range of rows 1 to 1: 6 and 21 are asked, and no number, no QP
pub pair-empty : (row_answer Frame (pair_by 52 [] (7 ∷ 7 ∷ [])) 1 1 pair_planes ≡ 0)
    × (row_answer Frame (pair_by 52 (of_mode 3 ∷ []) (7 ∷ 7 ∷ [])) 1 1 pair_planes ≡ 21)
    × (row_answer Frame (pair_by 52 (with_a (pos 13) ∷ of_mode 3 ∷ []) (7 ∷ 7 ∷ [])) 1 1 pair_planes ≡ 6)
unfolding row_answer some_bad some some_bad_pair some_bad_mode band
pair-empty = (refl, refl, refl)
