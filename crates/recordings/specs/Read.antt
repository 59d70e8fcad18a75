-- Apart: no promise to a caller rests on it, but what this program says of itself. What is held of a
-- recording is what its bytes stand for: `had` and `left` are the bytes that a reader has before and after,
-- where they are known (std's `Consumes`), as those of a file are not.
use Rattle.std.specs.Prelude.{ℕ, ◌*◌, ◌/◌, ◌≡◌, Bool, true, false, cond, List, [], Option, length, ℤ, pos, map, get_or}
use Rattle.std.specs.Io.KnownBytes.{Consumes}
use Rattle.slices.specs.declared.SliceRecord.{SliceRecord}
use Rattle.slices.specs.Slicing.{Slicing, single, sliced}
use Rattle.recordings.specs.Held.{slicing_held}
use Rattle.recordings.specs.Numbers.{number_at, numbers_read, signed_number}
use Rattle.recordings.specs.Slices.{signed_of, table_read}
use Rattle.recordings.specs.declared.grids.References.{References}
use Rattle.recordings.specs.declared.load.Head.{Head}
use Rattle.recordings.specs.declared.load.Held.{Held}

-- numbers, of two bytes each
abbrev pub NumbersRead : Option (List ℕ) → Option (List ℕ) → List ℕ → Type 0
NumbersRead had left ns = (raw : List ℕ) × (length raw ≡ 2 * length ns) × (ns ≡ numbers_read (length raw / 2) raw) × Consumes had left raw

-- how many entries follow
abbrev pub EntryCountRead : Option (List ℕ) → Option (List ℕ) → ℕ → Type 0
EntryCountRead had left n = (raw : List ℕ) × (length raw ≡ 2) × (n ≡ number_at raw 0) × Consumes had left raw

-- a table of slices: a count, and a record of three bytes for each
pub record TableRead (had left : Option (List ℕ)) (t : List SliceRecord) : Type 0 where
  pub count : ℕ
  pub counted : Option (List ℕ)
  pub raw : List ℕ
  pub counts : EntryCountRead had counted count
  pub long : length raw ≡ 3 * count
  pub reads : Consumes counted left raw
  pub is : t ≡ table_read (length raw / 3) raw

-- the table of a reference list: a count, and a picture's number for each index
pub record PicturesRead (had left : Option (List ℕ)) (ps : List ℤ) : Type 0 where
  pub count : ℕ
  pub counted : Option (List ℕ)
  pub numbers : List ℕ
  pub counts : EntryCountRead had counted count
  pub long : length numbers ≡ count
  pub reads : NumbersRead counted left numbers
  pub is : ps ≡ map pos numbers

-- .. where a recording has them; else nothing is read
abbrev pub TableIf : Bool → Option (List ℕ) → Option (List ℕ) → List SliceRecord → Type 0
TableIf true had left t = TableRead had left t
TableIf false had left t = (t ≡ []) × (left ≡ had)

abbrev pub PicturesIf : Bool → Option (List ℕ) → Option (List ℕ) → List ℤ → Type 0
PicturesIf true had left ps = PicturesRead had left ps
PicturesIf false had left ps = (ps ≡ []) × (left ≡ had)

-- one list's references, a byte each, and vectors, of two bytes for each component
pub record ReferencesRead (had left : Option (List ℕ)) (r : References) : Type 0 where
  pub raw : List ℕ
  pub between : Option (List ℕ)
  pub numbers : List ℕ
  pub reads_references : Consumes had between raw
  pub reads_vectors : NumbersRead between left numbers
  pub references : r.references.items ≡ map signed_of raw
  pub vectors : r.vectors.items ≡ map signed_number numbers

-- the slices of a picture: a table with a number for each macroblock, or A and B
abbrev pub slicing_told : Head → List ℕ → List SliceRecord → List ℕ → Slicing
slicing_told head ab t ns =
    cond
    head.slices
    (sliced head.chroma t ns)
    (single (record { a = signed_of (get_or ab 0 0); b = signed_of (get_or ab 1 0); chroma_u = head.chroma.u; chroma_v = head.chroma.v }))

-- the parts of a picture up to its grids, in the file's order
pub record PictureRead (head : Head) (had : Option (List ℕ)) (l : Held) : Type 0 where
  pub ab : List ℕ
  pub table : List SliceRecord
  pub pictures0 : List ℤ
  pub pictures1 : List ℤ
  pub numbers : List ℕ
  pub after_ab : Option (List ℕ)
  pub after_table : Option (List ℕ)
  pub after_list0 : Option (List ℕ)
  pub after_list1 : Option (List ℕ)
  pub after_qps : Option (List ℕ)
  pub after_t8s : Option (List ℕ)
  pub after_numbers : Option (List ℕ)
  pub reads_ab : Consumes had after_ab ab
  pub reads_table : TableIf head.slices after_ab after_table table
  pub reads_list0 : PicturesIf head.tables after_table after_list0 pictures0
  pub reads_list1 : PicturesIf head.tables after_list0 after_list1 pictures1
  pub reads_qps : Consumes after_list1 after_qps l.qps.items
  pub reads_t8s : Consumes after_qps after_t8s l.t8s.items
  pub reads_numbers : NumbersRead after_t8s after_numbers numbers
  pub slicing : slicing_held l.slices ≡ slicing_told head ab table numbers
