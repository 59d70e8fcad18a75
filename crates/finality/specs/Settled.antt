-- What it means that a macroblock may be shown: docs/RULES.md, "Final macroblocks".
use Rattle.std.specs.Prelude.{ℕ, ◌+◌, ◌*◌, ◌<◌, ◌≡◌, get_or}
use Rattle.laws.specs.Places.{Plane}
use Rattle.edges.specs.Picture.{Planes, origin_of}

-- two planes of N by N samples a macroblock, in a picture W wide, hold the same samples of macroblock (x, y)
abbrev pub SameIn : ℕ → ℕ → ℕ → ℕ → Plane → Plane → Type 0
SameIn N W x y s t = (c r : ℕ) → c < N → r < N → let k = origin_of N W x y + r * (N * W) + c in get_or s k 0 ≡ get_or t k 0

-- .. and three planes
pub record SameMacroblock (W x y : ℕ) (p q : Planes) : Type 0 where
  pub luma : SameIn 16 W x y p.luma q.luma
  pub u : SameIn 8 W x y p.u q.u
  pub v : SameIn 8 W x y p.v q.v

-- of macroblock (x, y), shown `now`: "none of its luma or chroma samples changes again", whatever leads to
-- `later`, "and each equals the whole filtered picture's"
pub record Settled (W x y : ℕ) (whole now later : Planes) : Type 0 where
  pub stays : SameMacroblock W x y now later
  pub as-whole : SameMacroblock W x y now whole
