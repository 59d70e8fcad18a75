-- Apart: no promise to a caller of the public calls rests on it. What the code takes from a record, and from
-- all that it is told of slices.
use Rattle.std.specs.Prelude.{ℕ, ◌+◌, ◌-◌, ◌*◌, ◌≤◌, ◌≡◌, ◌&&◌, List, ltb, length}
use Rattle.edges.specs.Picture.{entries}
use Rattle.edges.specs.declared.EdgesOn.{EdgesOn}
use Rattle.edges.specs.declared.Offsets.{Offsets}
use Rattle.slices.specs.Slicing.{Slicing, single, sliced, offset_a, offset_b, chroma_offsets, filters, filters_edge, filters_inside, filters_toward, bad_slice_offset, bad_slice_mode}
use Rattle.slices.specs.declared.ChromaOffsets.{ChromaOffsets}
use Rattle.slices.specs.declared.SliceRecord.{SliceRecord}
use Rattle.slices.specs.declared.Survey.{Survey}

-- the first n macroblocks have numbers, where numbers are lent
abbrev pub NumbersHold : ℕ → Slicing → Type 0
NumbersHold n (single o) = Unit {0}
NumbersHold n (sliced c t ns) = n ≤ length ns

-- what slices come to: 6 and 21 of them
abbrev pub survey_of_slices : Slicing → Survey
survey_of_slices sl = record { bad_offset = bad_slice_offset sl; bad_mode = bad_slice_mode sl }

-- ---- a macroblock's own settings, by value
abbrev pub offsets_with : SliceRecord → ChromaOffsets → Offsets
offsets_with r c = record { a = r.a; b = r.b; chroma_u = c.u; chroma_v = c.v }

abbrev pub edges_by : SliceRecord → List ℕ → ℕ → ℕ → ℕ → EdgesOn
edges_by r ns w x y = record {
  left = ltb 0 x && filters_edge r (entries ns (y * w + x)) (entries ns (y * w + x - 1));
  top = ltb 0 y && filters_edge r (entries ns (y * w + x)) (entries ns (y * w + x - w));
  inner = filters r;
}

-- the settings of macroblock (x, y) are those: of an edge that there is not nothing is said
pub record OwnSettings (sl : Slicing) (w x y : ℕ) (o : Offsets) (on : EdgesOn) : Type 0 where
  pub a : o.a ≡ offset_a sl (y * w + x)
  pub b : o.b ≡ offset_b sl (y * w + x)
  pub u : o.chroma_u ≡ (chroma_offsets sl).u
  pub v : o.chroma_v ≡ (chroma_offsets sl).v
  pub left : (on.left && ltb 0 x) ≡ (filters_toward 1 sl (y * w + x) && ltb 0 x)
  pub top : (on.top && ltb 0 y) ≡ (filters_toward w sl (y * w + x) && ltb 0 y)
  pub inner : on.inner ≡ filters_inside sl (y * w + x)
