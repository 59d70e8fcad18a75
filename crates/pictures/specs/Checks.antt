-- What every filtering call checks, in the order of its checks: docs/RULES.md, "Answers". A call is lent the
-- three planes of a frame, and strengths, QPs, 8x8 flags of the picture that it filters: the frame, or a
-- field of it. n is the number of macroblocks.
use Rattle.std.specs.Prelude.{ℕ, ◌+◌, ◌-◌, ◌*◌, Bool, not, ◌&&◌, ◌||◌, List, [], ◌∷◌, ◌++◌, eqb, ltb, length, get_or}
use Rattle.laws.specs.Some.{some}
use Rattle.edges.specs.Picture.{Held, entries}
use Rattle.edges.specs.declared.Offsets.{Offsets}
use Rattle.slices.specs.Slicing.{Slicing, single, sliced, held_in, bad_number_count, bad_slice_offset, some_bad_number, bad_slice_mode}
use Rattle.slices.specs.declared.ChromaOffsets.{ChromaOffsets}
use Rattle.slices.specs.declared.SliceRecord.{SliceRecord}
use Rattle.sizes.specs.declared.Part.{Part}
use Rattle.sizes.specs.declared.Size.{Size}
use Rattle.sizes.specs.Entries.{bad_flag_count, bad_flag}
use Rattle.sizes.specs.Sizes.{bad_size, bad_parity, frame_of_part, bad_planes}

-- what is lent beside the planes, and only read
pub record Lent : Type 0 where
  pub size : Size
  pub slicing : Slicing
  pub strengths : List ℕ
  pub qps : List ℕ
  pub t8s : List ℕ

abbrev pub lent_by : Size → Slicing → List ℕ → List ℕ → List ℕ → Lent
lent_by size sl s q t = record { size = size; slicing = sl; strengths = s; qps = q; t8s = t }

-- .. with one pair of offsets for the picture
abbrev pub lent : Size → Offsets → List ℕ → List ℕ → List ℕ → Lent
lent size o = lent_by size (single o)

-- .. with slices: a table, and the number of each macroblock's slice
abbrev pub lent_slices : Size → ChromaOffsets → List SliceRecord → List ℕ → List ℕ → List ℕ → List ℕ → Lent
lent_slices size c t ns = lent_by size (sliced c t ns)

-- .. as the filter takes it
abbrev pub held_of : Lent → Held
held_of d = held_in d.slicing d.size.w (entries d.strengths) d.qps d.t8s

-- 4: a per-macroblock grid has the wrong length; that of the flags may be empty
abbrev pub bad_lent : ℕ → ℕ → ℕ → ℕ → Bool
bad_lent n strengths qps t8s = not (eqb strengths (32 * n)) || not (eqb qps n) || bad_flag_count n t8s

-- 8, 9: values that are no QP, no strength; 7 is `bad_flag`. QPs are lent as bytes, and at eight bits the
-- lowest is 0: none is too low
abbrev pub bad_qp : ℕ → Bool
bad_qp q = ltb 51 q

abbrev pub bad_strength : ℕ → Bool
bad_strength s = ltb 4 s

-- an entry from a to b - 1 is bad
unfoldable pub some_bad : (ℕ → Bool) → ℕ → ℕ → List ℕ → Bool
some_bad bad a b xs = some (b - a) (λ i. bad (get_or xs (a + i) 0))

-- .. of macroblocks a to b - 1: an empty grid of flags holds no bad one
abbrev pub some_bad_flag : ℕ → ℕ → List ℕ → Bool
some_bad_flag a b t8s = not (eqb (length t8s) 0) && some_bad bad_flag a b t8s

abbrev pub some_bad_strength : ℕ → ℕ → List ℕ → Bool
some_bad_strength a b strengths = some_bad bad_strength (32 * a) (32 * b) strengths

-- ---- the checks in their order, in four groups: each is made once those before it have passed. `outside`:
-- what the call asks for lies outside the picture. The planes are those of the frame that the picture is part
-- of, so 19 comes before 3
abbrev pub picture_checks : Part → Size → Bool → ℕ → ℕ → ℕ → List (ℕ × Bool)
picture_checks part size outside luma u v =
    (1, bad_size size) ∷ (2, outside) ∷ (19, bad_parity part) ∷ (3, bad_planes (frame_of_part part (size.w * size.h)) luma u v) ∷ []

-- `other`: another grid that the call is lent has the wrong length; `six`: an offset is out of range
abbrev pub grid_checks : ℕ → ℕ → ℕ → ℕ → Bool → Bool → List (ℕ × Bool)
grid_checks n strengths qps t8s other six = (4, bad_lent n strengths qps t8s || other) ∷ (6, six) ∷ []

-- what a call reads, each as whether a value is bad: flags and marks, strengths; `near` of a grid with one
-- entry a macroblock, where the call reads QPs, and where slices are lent their numbers too
pub record Reads : Type 0 where
  pub flags : Bool
  pub near : (ℕ → Bool) → List ℕ → Bool
  pub strengths : Bool

abbrev pub entry_checks : List ℕ → Reads → List (ℕ × Bool)
entry_checks qps r = (7, r.flags) ∷ (8, r.near bad_qp qps) ∷ (9, r.strengths) ∷ []

-- of slices
abbrev pub slice_checks : Slicing → Reads → List (ℕ × Bool)
slice_checks sl r = (20, some_bad_number sl r.near) ∷ (21, bad_slice_mode sl) ∷ []

-- all of them; luma, u, v are the lengths of the planes
abbrev pub filter_checks : Part → Lent → ℕ → ℕ → ℕ → Bool → Bool → Reads → List (ℕ × Bool)
filter_checks part d luma u v outside other r =
    picture_checks part d.size outside luma u v
    ++ grid_checks n (length d.strengths) (length d.qps) (length d.t8s) (bad_number_count d.slicing n || other) (bad_slice_offset d.slicing)
    ++ entry_checks d.qps r
    ++ slice_checks d.slicing r
  where
    n : ℕ
    n = d.size.w * d.size.h
