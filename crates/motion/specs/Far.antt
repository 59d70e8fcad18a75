-- When a difference is far: docs/RULES.md, "Strengths"; ITU-T H.264, clause 8.7.2.1. Outside 3 are -4 and 4,
-- and not -3 and 3.
use Rattle.std.specs.Prelude.{ℕ, Bool, ◌||◌, ℤ, pos, neg_ℤ, int_lt}

-- below -m or above m
unfoldable pub outside : ℕ → ℤ → Bool
outside m d = int_lt d (neg_ℤ (pos m)) || int_lt (pos m) d
