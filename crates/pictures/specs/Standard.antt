-- A whole picture straight from its 4x4 grids: ITU-T H.264, clauses 8.7 and 8.7.2.1 in one. It is a frame, or
-- where `field` is true a field as a picture of its own. The strengths are those of the standard, and no call
-- stores them. Slices enter by their settings; one table for each list serves them all.
use Rattle.std.specs.Prelude.{ℕ, ◌+◌, ◌*◌, ◌/◌, ◌%◌, ◌<◌, ◌≡◌, Bool, true, false, cond, List, ltb, length, get_or}
use Rattle.motion.specs.Grids.{Grids}
use Rattle.edges.specs.Picture.{Planes, Held, frame_of}
use Rattle.sizes.specs.Entries.{flag_at}
use Rattle.slices.specs.Slicing.{Slicing, held_in}
use Rattle.sizes.specs.declared.Part.{Part}
use Rattle.sizes.specs.declared.Part.TheVariants.{Frame, Field}
use Rattle.sizes.specs.declared.Size.{Size}
use Rattle.strengths.specs.Strength.{mode_of, strength_at}

-- byte k of the macroblock of index i; outside the picture there is none
abbrev pub of_index : Bool → Grids → Size → List ℕ → ℕ → ℕ → ℕ
of_index field g size t8s i k = strength_at (mode_of field) g size.w (flag_at t8s) (i % size.w) (i / size.w) k

unfoldable pub strengths_of : Bool → Grids → Size → List ℕ → ℕ → ℕ
strengths_of field g size t8s k = cond (ltb k (32 * (size.w * size.h))) (of_index field g size t8s (k / 32) (k % 32)) 0

abbrev pub standard : Bool → Grids → Size → List ℕ → List ℕ → Slicing → Held
standard field g size qps t8s sl = held_in sl size.w (strengths_of field g size t8s) qps t8s

unfoldable pub picture_of : Bool → Grids → Size → List ℕ → List ℕ → Slicing → Planes → Planes
picture_of field g size qps t8s sl = frame_of (standard field g size qps t8s sl) size.h

-- a grid that holds what the flagless call writes for every macroblock
pub record Derived (field : Bool) (g : Grids) (size : Size) (t8s s : List ℕ) : Type 0 where
  pub full : length s ≡ 32 * (size.w * size.h)
  pub each : (i k : ℕ) → i < size.w * size.h → k < 32 → get_or s (32 * i + k) 0 ≡ of_index field g size t8s i k

-- the strengths of a part of the planes are those of a frame, or of a field
abbrev pub is_field : Part → Bool
is_field Frame = false
is_field (Field p) = true
