-- Apart: no promise to a caller rests on it, but what this program says of itself. The ways in which a
-- recording is filtered anew: the call for a whole picture, and visits in three orders.
use Rattle.std.specs.Prelude.{ℕ, ◌+◌, ◌-◌, ◌*◌, ◌/◌, ◌%◌, Bool, true, false, cond, eqb, ltb}
use Rattle.visits.specs.Visit.{At}
use Rattle.recordings.specs.Places.{column_at, row_at}
use Rattle.recordings.specs.declared.ways.Way.{Way}
use Rattle.recordings.specs.declared.ways.Way.TheVariants.{Whole, Raster, Reverse, Leaps}

abbrev pub is_whole : Way → Bool
is_whole Whole = true
is_whole Raster = false
is_whole Reverse = false
is_whole Leaps = false

-- counted up, down from the last of 14400 turns, in leaps of 131, a prime above every n: each n turns have
-- every macroblock once
abbrev pub count_of : Way → ℕ → ℕ
count_of Whole t = t
count_of Raster t = t
count_of Reverse t = 14399 - t
count_of Leaps t = 131 * t

-- the macroblock, of n, that is visited in turn t. `ahead`: half a picture further on in the same order, so
-- that two fields are never in step where they have two macroblocks or more
abbrev pub visited_in : Way → ℕ → Bool → ℕ → ℕ
visited_in way t ahead n = cond (eqb n 0) 0 ((count_of way t + cond ahead (n / 2) 0) % n)

abbrev pub request_of : Way → Bool → ℕ → ℕ → ℕ → At
request_of way ahead n w t = (column_at (visited_in way t ahead n) w, row_at (visited_in way t ahead n) w)

-- 120 passes over n macroblocks; none where there are more than 120
abbrev pub turns_of : ℕ → ℕ
turns_of n = cond (ltb 120 n) 0 (120 * n)
