-- What the slices of a picture say of each macroblock: its offsets, and which of its edges are filtered:
-- docs/RULES.md, "Slices"; ITU-T H.264, clause 8.7 (filterLeftMbEdgeFlag, filterTopMbEdgeFlag and
-- filterInternalEdgesFlag by disable_deblocking_filter_idc) and 8.7.2.2 (the offsets are those of the slice
-- that holds q0). i is a macroblock's index in raster order. Worked examples: sliced/proofs/Examples.
use Rattle.std.specs.Prelude.{ℕ, ◌-◌, Bool, true, false, not, ◌&&◌, ◌||◌, List, eqb, leb, ℤ, pos, length}
use Rattle.lines.specs.Depth.{eight}
use Rattle.sizes.specs.Entries.{flag_at}
use Rattle.edges.specs.Picture.{Held, entries}
use Rattle.edges.specs.declared.Offsets.{Offsets}
use Rattle.slices.specs.Table.{record_of, bad_offsets, bad_chroma, some_bad_pair, some_bad_mode}
use Rattle.slices.specs.declared.ChromaOffsets.{ChromaOffsets}
use Rattle.slices.specs.declared.SliceRecord.{SliceRecord}

-- a call is told of one pair of offsets for the picture, or it is lent a table of slices and the number of
-- each macroblock's slice
pub data Slicing : Type 0 where
  single : Offsets → Slicing
  sliced : ChromaOffsets → List SliceRecord → List ℕ → Slicing

-- the record of macroblock i's slice
abbrev pub slice_at : List SliceRecord → List ℕ → ℕ → SliceRecord
slice_at t ns i = record_of t (entries ns i)

-- ---- offsets
abbrev pub offset_a : Slicing → ℕ → ℤ
offset_a (single o) i = o.a
offset_a (sliced c t ns) i = (slice_at t ns i).a

abbrev pub offset_b : Slicing → ℕ → ℤ
offset_b (single o) i = o.b
offset_b (sliced c t ns) i = (slice_at t ns i).b

abbrev pub chroma_offsets : Slicing → ChromaOffsets
chroma_offsets (single o) = record { u = o.chroma_u; v = o.chroma_v }
chroma_offsets (sliced c t ns) = c

-- ---- edges: mode 1 leaves all of the macroblock unfiltered, and of the macroblocks beside it nothing
abbrev pub filters : SliceRecord → Bool
filters r = not (eqb r.mode 1)

-- mode 2 leaves the left or the top edge where the macroblock behind it is of another slice, that is of
-- another number
abbrev pub filters_edge : SliceRecord → ℕ → ℕ → Bool
filters_edge r own other = filters r && not (eqb r.mode 2 && not (eqb other own))

abbrev pub filters_inside : Slicing → ℕ → Bool
filters_inside (single o) i = true
filters_inside (sliced c t ns) i = filters (slice_at t ns i)

-- the edge to the macroblock d places before i
abbrev pub filters_toward : ℕ → Slicing → ℕ → Bool
filters_toward d (single o) i = true
filters_toward d (sliced c t ns) i = filters_edge (slice_at t ns i) (entries ns i) (entries ns (i - d))

-- ---- what is held while the picture is filtered, by strengths given as a sequence
abbrev pub held_in : Slicing → ℕ → (ℕ → ℕ) → List ℕ → List ℕ → Held
held_in sl w strengths qps t8s = record {
  depth = eight;
  w = w;
  strengths = strengths;
  qp = λ i. pos (entries qps i);
  t8 = flag_at t8s;
  a = λ i. offset_a sl i;
  b = λ i. offset_b sl i;
  u = (chroma_offsets sl).u;
  v = (chroma_offsets sl).v;
  left = λ i. filters_toward 1 sl i;
  top = λ i. filters_toward w sl i;
  inner = λ i. filters_inside sl i;
}

-- ---- checks, each as whether it applies: 4, of a picture of n macroblocks
abbrev pub bad_number_count : Slicing → ℕ → Bool
bad_number_count (single o) n = false
bad_number_count (sliced c t ns) n = not (eqb (length ns) n)

-- 6
abbrev pub bad_slice_offset : Slicing → Bool
bad_slice_offset (single o) = bad_offsets o
bad_slice_offset (sliced c t ns) = bad_chroma c || some_bad_pair t

-- 20: a number that is read is outside the table. `near` says of a grid whether an entry that the call reads
-- is bad, where it reads QPs
abbrev pub bad_number : List SliceRecord → ℕ → Bool
bad_number t k = leb (length t) k

abbrev pub some_bad_number : Slicing → ((ℕ → Bool) → List ℕ → Bool) → Bool
some_bad_number (single o) near = false
some_bad_number (sliced c t ns) near = near (bad_number t) ns

-- 21
abbrev pub bad_slice_mode : Slicing → Bool
bad_slice_mode (single o) = false
bad_slice_mode (sliced c t ns) = some_bad_mode t
