-- The numbers that the C interface takes, as the calls take them.
use Rattle.std.specs.Prelude.{ℕ, ◌-◌, Bool, cond, not, ◌||◌, eqb, ltb, ℤ}
use Rattle.edges.specs.declared.Offsets.{Offsets}
use Rattle.sizes.specs.declared.Part.{Part}
use Rattle.sizes.specs.declared.Part.TheVariants.{Frame, Field}
use Rattle.sizes.specs.declared.Size.{Size}
use Rattle.slices.specs.declared.ChromaOffsets.{ChromaOffsets}
use Rattle.motion.specs.Grids.{Grids}
use Rattle.strengths.specs.Calls.{untrue_kind}
use Rattle.strengths.specs.Kinds.{kind_number}
use Rattle.strengths.specs.declared.kinds.Flagged.{Flagged}
use Rattle.strengths.specs.declared.kinds.MbKind.{MbKind}
use Rattle.strengths.specs.declared.kinds.Request.{Request}

-- a picture's sides
abbrev pub size_of : ℕ → ℕ → Size
size_of w h = record { w = w; h = h }

-- the part of a frame's planes: 0 is the frame, 1 its top field, of parity 0, 2 its bottom field, of parity
-- 1. A number above 2 is a field of another parity, which check 19 refuses
abbrev pub part_number : ℕ → Part
part_number k = cond (eqb k 0) Frame (Field (k - 1))

-- the four offsets
abbrev pub offsets : ℤ → ℤ → ℤ → ℤ → Offsets
offsets a b u v = record { a = a; b = b; chroma_u = u; chroma_v = v }

-- .. and where slices are lent two
abbrev pub chroma_numbers : ℤ → ℤ → ChromaOffsets
chroma_numbers u v = record { u = u; v = v }

-- a flag is set by any number but 0
abbrev pub is_set : ℕ → Bool
is_set n = not (eqb n 0)

-- one macroblock with its two flags
abbrev pub flagged : ℕ → ℕ → ℕ → ℕ → Flagged
flagged x y flat uniform = record { x = x; y = y; flat = is_set flat; uniform = is_set uniform }

-- .. with its kind
abbrev pub request : ℕ → ℕ → MbKind → Request
request x y kind = record { x = x; y = y; kind = kind }

-- 12: a number above 3 is a kind that is true of no grids
abbrev pub untrue_number : Size → ℕ → ℕ → ℕ → Grids → Bool
untrue_number size x y k g = ltb 3 k || untrue_kind size (request x y (kind_number k)) g
