-- Apart: no promise to a caller rests on it, but what this program says of itself. Where macroblock i stands
-- in a picture w wide. A header may say that w is 0: then both are 0.
use Rattle.std.specs.Prelude.{ℕ, ◌/◌, ◌%◌, cond, eqb}

abbrev pub column_at : ℕ → ℕ → ℕ
column_at i w = cond (eqb w 0) 0 (i % w)

abbrev pub row_at : ℕ → ℕ → ℕ
row_at i w = cond (eqb w 0) 0 (i / w)
