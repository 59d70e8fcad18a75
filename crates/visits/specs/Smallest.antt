-- Apart: no promise rests on it. Pictures of one macroblock and of two on which a visit changes a sample: QP
-- 40, strength 1 on one edge.
use Rattle.std.specs.Prelude.{List, [], ◌∷◌, ◌++◌, replicate, ℕ}
use Rattle.edges.specs.Cases.{no_offsets}
use Rattle.edges.specs.Picture.{Planes, planes}
use Rattle.pictures.specs.Checks.{Lent, lent}
use Rattle.visits.specs.Fault.{band, outer_strengths}

-- 1 by 1: the edge is its second vertical one, 100 to the left of it and 103 to the right
abbrev pub one_strengths : List ℕ
one_strengths = replicate 4 0 ++ replicate 4 1 ++ replicate 24 0

abbrev pub one_lent : Lent
one_lent = lent (record { w = 1; h = 1 }) no_offsets one_strengths (40 ∷ []) []

abbrev pub one_planes : Planes
one_planes = planes (band 16 4 100 12 103) (replicate 64 128) (replicate 64 128)

-- 2 by 1: the upper row of Fault.antt
abbrev pub pair_lent : Lent
pair_lent = lent (record { w = 2; h = 1 }) no_offsets (outer_strengths 0 0 ++ outer_strengths 1 0) (40 ∷ 40 ∷ []) []

abbrev pub pair_planes : Planes
pair_planes = planes (band 16 16 100 16 103) (replicate 128 128) (replicate 128 128)

-- 1 by 2: its left column
abbrev pub column_lent : Lent
column_lent =
    lent (record { w = 1; h = 2 }) no_offsets (outer_strengths 0 0 ++ outer_strengths 0 1) (40 ∷ 40 ∷ []) []

abbrev pub column_planes : Planes
column_planes = planes (band 16 16 100 0 0 ++ band 16 16 105 0 0) (replicate 128 128) (replicate 128 128)
