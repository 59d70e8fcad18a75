-- Apart: no promise to a caller rests on it, but what this program says of itself. The table of slices that
-- three bytes a record stand for: its mode, A and B.
use Rattle.std.specs.Prelude.{ℕ, zero, suc, ◌+◌, ◌*◌, List, [], ◌∷◌, ℤ, get_or}
use Rattle.std.specs.Int.{w8}
use Rattle.std.proofs.Common.{to_z}
use Rattle.slices.specs.declared.SliceRecord.{SliceRecord}

-- the number from -128 to 127 that a byte's eight bits stand for: 255 is -1
abbrev pub signed_of : ℕ → ℤ
signed_of b = to_z w8 b

-- record k
abbrev pub record_at : List ℕ → ℕ → SliceRecord
record_at rs k = record { mode = get_or rs (3 * k) 0; a = signed_of (get_or rs (3 * k + 1) 0); b = signed_of (get_or rs (3 * k + 2) 0) }

-- n of them, from k on
unfoldable pub records_from : List ℕ → ℕ → ℕ → List SliceRecord
records_from rs k zero = []
records_from rs k (suc n) = record_at rs k ∷ records_from rs (k + 1) n

unfoldable pub table_read : ℕ → List ℕ → List SliceRecord
table_read n rs = records_from rs 0 n
