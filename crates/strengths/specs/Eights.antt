-- Apart: no promise to a caller of the public calls rests on it. How the code goes about coefficients: by the
-- flags of three macroblocks, and by whether a block stands in an odd row, so that it does not divide. The
-- laws `p-coded` and `q-coded` say that this is `coded`.
use Rattle.std.specs.Prelude.{ℕ, ◌+◌, ◌-◌, ◌*◌, ◌%◌, ◌≤◌, ◌<◌, ◌≡◌, Bool, true, cond, ◌&&◌, List, eqb, ltb}
use Rattle.laws.specs.Some.{some}
use Rattle.motion.specs.Grids.{counted}
use Rattle.strengths.specs.Strength.{vertical, edge, segment, q_row}
use Rattle.strengths.specs.declared.eights.Transforms.{Transforms}

-- the flags of macroblock (x, y) and of its left and upper neighbours
abbrev pub transforms_of : (ℕ → Bool) → ℕ → ℕ → ℕ → Transforms
transforms_of t8s w x y = record {
  own = t8s (y * w + x);
  left = ltb 0 x && t8s (y * w + x - 1);
  above = ltb 0 y && t8s (y * w + x - w);
}

-- that of the macroblock of p
abbrev pub across_flag : Transforms → ℕ → Bool
across_flag t k = cond (eqb (edge k) 0) (cond (vertical k) t.left t.above) t.own

-- 1 where the row of p, of q is odd: one up from an even row is an odd one
abbrev pub p_odd : ℕ → ℕ
p_odd k = cond (vertical k) (segment k) (edge k + 1) % 2

abbrev pub q_odd : ℕ → ℕ
q_odd k = q_row k % 2

-- the first of the 8x8 block that holds block i
abbrev pub eight_from : ℕ → ℕ → ℕ → ℕ
eight_from stride odd i = i - i % 2 - odd * stride

-- a count in one of two rows of two
abbrev pub two_by_two : List ℕ → ℕ → ℕ → Bool
two_by_two nnz stride at = some 2 (λ r. some 2 (λ c. counted nnz (at + r * stride + c)))

unfoldable pub coded_by : List ℕ → ℕ → Bool → ℕ → ℕ → Bool
coded_by nnz stride t8 odd i = cond t8 (two_by_two nnz stride (eight_from stride odd i)) (counted nnz i)

-- what is read lies in counts of n blocks
pub record InCounts (n stride : ℕ) (t8 : Bool) (odd i : ℕ) : Type 0 where
  pub block : i < n
  pub first : t8 ≡ true → i % 2 + odd * stride ≤ i
  pub last : t8 ≡ true → eight_from stride odd i + stride + 1 < n
