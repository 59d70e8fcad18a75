-- The table of slices that a caller lends: docs/RULES.md, "Slices". A record is a slice's filter mode
-- (disable_deblocking_filter_idc) and its FilterOffsetA and FilterOffsetB: ITU-T H.264, clause 7.4.3.
use Rattle.std.specs.Prelude.{ℕ, Bool, ◌||◌, List, ltb, ℤ, pos, negsuc, length, get_or}
use Rattle.std.specs.Int.Signed.{lt_z}
use Rattle.laws.specs.Some.{some}
use Rattle.edges.specs.declared.Offsets.{Offsets}
use Rattle.slices.specs.declared.ChromaOffsets.{ChromaOffsets}
use Rattle.slices.specs.declared.SliceRecord.{SliceRecord}

-- what stands for a record past the table. Check 20 refuses whoever would filter by it
abbrev pub no_record : SliceRecord
no_record = record { mode = 0; a = pos 0; b = pos 0 }

-- the record of the slice of number k
abbrev pub record_of : List SliceRecord → ℕ → SliceRecord
record_of t k = get_or t k no_record

-- 6: an offset is out of range
abbrev pub bad_offset : ℤ → Bool
bad_offset o = lt_z o (negsuc 11) || lt_z (pos 12) o

abbrev pub bad_offsets : Offsets → Bool
bad_offsets o = bad_offset o.a || bad_offset o.b || bad_offset o.chroma_u || bad_offset o.chroma_v

abbrev pub bad_chroma : ChromaOffsets → Bool
bad_chroma c = bad_offset c.u || bad_offset c.v

-- .. of any record, used or not
abbrev pub bad_pair : SliceRecord → Bool
bad_pair r = bad_offset r.a || bad_offset r.b

unfoldable pub some_bad_pair : List SliceRecord → Bool
some_bad_pair t = some (length t) (λ k. bad_pair (record_of t k))

-- 21: a mode that is not 0, 1 or 2, of any record, used or not
abbrev pub bad_mode : SliceRecord → Bool
bad_mode r = ltb 2 r.mode

unfoldable pub some_bad_mode : List SliceRecord → Bool
some_bad_mode t = some (length t) (λ k. bad_mode (record_of t k))
