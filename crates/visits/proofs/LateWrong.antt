-- What cannot be left out: with another QP or slice number of the upper neighbour, or another record of the
-- own slice, the samples come out different; with a value above that is no QP, or no number of a slice, the
-- answer does. On the picture of 1 by 2 of specs/Smallest.antt. Assumes nothing.
use mathlib.Core.Path.{◌≡◌, refl, sym, ◌∙◌}
use mathlib.Core.Bool.{false}
use mathlib.Core.List.{[], ◌∷◌}
use Prim.Native.Nat.{ℕ, ◌+◌, ◌-◌, ◌*◌, ◌<◌}
use native.Mathlib.Nat.{not-suc-le-zero}
use native.Mathlib.Omega.{arith}
use borrow.Author.Tests.{eq-eqb}
use lib.Dec.{T}
use lib.IntN.{pos}
use lib.ListN.{get_or}
use Rattle.laws.specs.Clip.{clip3, clip1}
use Rattle.laws.specs.Foot.{touch-own}
use Rattle.laws.specs.Loop.{up_to}
use Rattle.laws.specs.Some.{some}
use Rattle.laws.proofs.Table.{bounded, at_most}
use Rattle.lines.specs.Filter.{delta_of}
use Rattle.lines.specs.Tables.{alphas, betas, tc0s}
use Rattle.lines.specs.Thresholds.{average, index_of}
use Rattle.lines.specs.Luma.{nudge_of, inner_of, luma_normal, normal_line, luma_line}
use Rattle.lines.specs.Planes.{luma_at}
use Rattle.edges.specs.Cases.{no_offsets}
use Rattle.edges.specs.Edge.{luma_rule, luma_edge}
use Rattle.edges.specs.Macroblock.{luma_way, luma_both}
use Rattle.edges.specs.Picture.{Planes, luma_of, macroblock_at, step_of}
use Rattle.sizes.specs.Entries.{flag_at}
use Rattle.slices.specs.Slicing.{Slicing, single, sliced, bad_number_count, bad_slice_offset, some_bad_number, bad_slice_mode}
use Rattle.slices.specs.Table.{no_record, some_bad_pair, some_bad_mode}
use Rattle.slices.specs.declared.SliceRecord.{SliceRecord}
use Rattle.pictures.specs.Checks.{Lent, lent_by, held_of, some_bad}
use Rattle.visits.specs.Visit.{At, State, waiting, answer, visit}
use Rattle.visits.specs.Checks.{early_in, bad_marks, bad_around, Sound}
use Rattle.visits.specs.Fault.{band}
use Rattle.visits.specs.Late.{SameAt, NearFoot, numbers_of, SameKind, both-single, both-sliced, SameShape, SameEntry, SameNear, SameData, SameTable, SameMarks, of_request}
use Rattle.visits.specs.Promise.{visit_of}
use Rattle.visits.specs.Smallest.{column_lent, column_planes}
use Rattle.visits.proofs.Instance.{none_over, passes-valid}
use Rattle.visits.proofs.Late.{same-itself}
use Rattle.visits.proofs.Smallest.{column-fit}

-- QP q above, QP 20 below
abbrev column_by : Slicing → ℕ → Lent
column_by sl q = lent_by column_lent.size sl column_lent.strengths (q ∷ 20 ∷ []) []

abbrev with_upper : ℕ → Lent
with_upper q = column_by (single no_offsets) q

-- slice 1 has mode m; slice number k above, 1 below
abbrev of_mode : ℕ → SliceRecord
of_mode m = record { mode = m; a = pos 0; b = pos 0 }

abbrev with_slices : ℕ → ℕ → Lent
with_slices m k = column_by (sliced (record { u = pos 0; v = pos 0 }) (no_record ∷ of_mode m ∷ []) (k ∷ 1 ∷ [])) 40

-- the upper one is marked, the lower one is not
abbrev half : State Planes
half = (column_planes, 1 ∷ 0 ∷ [])

-- luma sample (0, 16), the first below the edge, once the lower one is filtered
abbrev below : Lent → ℕ
below d = get_or (step_of (held_of d) 1 column_planes).luma 256 0

-- the edge is filtered with QP 40 above, not with QP 0; with mode 2 below where both are of slice 1, not
-- where the upper one is of slice 0, nor with mode 1
computed : (below (with_upper 40) ≡ 103) × (below (with_upper 0) ≡ 105) × (below (with_slices 2 1) ≡ 103) × (below (with_slices 2 0) ≡ 105) × (below (with_slices 1 1) ≡ 105)
unfolding band macroblock_at luma_of flag_at up_to luma_rule luma_edge luma_way luma_both luma_at luma_line normal_line luma_normal nudge_of inner_of delta_of clip3 clip1 average index_of alphas betas tc0s
computed = (refl, refl, refl, refl, refl)

-- ---- all of these data are valid
column-valid : (sl : Slicing) (q : ℕ) → bad_number_count sl 2 ≡ false → bad_slice_offset sl ≡ false → T (bounded 51 (q ∷ 20 ∷ []))
    → ((i : ℕ) → some_bad_number sl (λ bad ns. bad (get_or ns i 0)) ≡ false) → bad_slice_mode sl ≡ false → Sound (column_by sl q)
column-valid sl q count range qp number mode = record {
  sides = refl;
  lengths = refl;
  numbers = count;
  range = range;
  flag = none_over 1 [] tt;
  qp = none_over 51 (q ∷ 20 ∷ []) qp;
  strength = none_over 4 column_lent.strengths tt;
  number = number;
  mode = mode;
}

upper-sound : (q : ℕ) → T (bounded 51 (q ∷ 20 ∷ [])) → Sound (with_upper q)
upper-sound q h = column-valid (single no_offsets) q refl refl h (λ i. refl) refl

slices-sound : (m k : ℕ) → T (bounded 2 (m ∷ [])) → T (bounded 1 (k ∷ 1 ∷ [])) → Sound (with_slices m k)
unfolding some_bad_pair some_bad_mode some
slices-sound m k h l = column-valid (with_slices m k).slicing 40 refl refl tt (none_over 1 (k ∷ 1 ∷ []) l) (none_over 2 (m ∷ []) h 0)

lower-done : (sl : Slicing) (q : ℕ) → let d = column_by sl q in Sound d → visit_of d half (0, 1) ≡ (0, (step_of (held_of d) 1 column_planes, 1 ∷ 1 ∷ []))
unfolding visit answer waiting
lower-done sl q v =
    rw (eq-eqb _ 0 (passes-valid (column_by sl q) v half column-fit refl (at_most 1 (1 ∷ 0 ∷ []) tt) 0 1 (omega arith) (omega arith)))

-- ---- `near-only` with less: of the own macroblock `Own` is the same, of the upper neighbour `Upper`
abbrev NearWith : (Lent → Lent → ℕ → Type 0) → (Lent → Lent → ℕ → Type 0) → Type 0
NearWith Own Upper = (d e : Lent) (s t : State Planes) (r : At) → SameShape d e → SameTable d e → Own d e (of_request d r)
    → (0 < r.0 → SameNear d e (of_request d r - 1)) → (0 < r.1 → Upper d e (of_request d r - d.size.w))
    → SameAt (NearFoot d.size.w (of_request d r)) s.0 t.0 → SameMarks d.size.w r s.1 t.1
    → SameAt (NearFoot d.size.w (of_request d r)) (visit_of d s r).1.0 (visit_of e t r).1.0

abbrev SameQp : Lent → Lent → ℕ → Type 0
SameQp d e i = SameEntry d.qps e.qps i

abbrev SameNumber : Lent → Lent → ℕ → Type 0
SameNumber d e i = SameEntry (numbers_of d.slicing) (numbers_of e.slicing) i

-- .. of the own macroblock all but the record of its slice
abbrev ButRecord : Lent → Lent → ℕ → Type 0
ButRecord d e i = SameNear d e i × ((k : ℕ) → k < 32 → SameEntry d.strengths e.strengths (32 * i + k)) × SameEntry d.t8s e.t8s i

-- of two columns that may differ so, one has the edge filtered and the other has not
refuted : (Own Upper : Lent → Lent → ℕ → Type 0) → NearWith Own Upper → (sl sk : Slicing) (q p : ℕ) → let d = column_by sl q in let e = column_by sk p in
    SameKind sl sk → SameTable d e → Own d e 1 → Upper d e 0 → Sound d → Sound e → below d ≡ 103 → below e ≡ 105 → ⊥
refuted Own Upper near sl sk q p kind table own upper v w m n =
    let k = near (column_by sl q) (column_by sk p) half half (0, 1) (record { size = refl; slicing = kind; strengths = refl; qps = refl; t8s = refl }) table own
    (λ h. absurd (not-suc-le-zero h)) (λ h. upper) (same-itself column_planes)
    (record { len = refl; own = refl; left = λ h. refl; upper = λ h. refl; upper-right = λ h l. refl }) in
    let l = (rw (lower-done sl q v, lower-done sk p w) at k).luma.samples 256 (touch-own refl refl) in
    let z : ◌≡◌ {A = ℕ} 103 105 = sym m ∙ l ∙ n in
    omega arith

-- without the QP of the upper neighbour, though it is marked
pub upper-qp-needed : NearWith SameData SameNumber → ⊥
upper-qp-needed near =
    refuted SameData SameNumber near (single no_offsets) (single no_offsets) 40 0 both-single (record { count = refl; range = refl; mode = refl })
    (record { near = record { qp = refl; number = refl }; strengths = λ k h. refl; flag = refl; slice = refl }) refl
    (upper-sound 40 tt) (upper-sound 0 tt) computed.0 computed.1

-- .. its slice number
pub upper-number-needed : NearWith SameData SameQp → ⊥
upper-number-needed near =
    refuted SameData SameQp near (with_slices 2 1).slicing (with_slices 2 0).slicing 40 40 (both-sliced refl) (record { count = refl; range = refl; mode = refl })
    (record { near = record { qp = refl; number = refl }; strengths = λ k h. refl; flag = refl; slice = refl }) refl
    (slices-sound 2 1 tt tt) (slices-sound 2 0 tt tt) computed.2 computed.3

-- .. the record of the own slice
pub own-record-needed : NearWith ButRecord SameNear → ⊥
unfolding some_bad_mode some_bad_pair some
own-record-needed near =
    refuted ButRecord SameNear near (with_slices 2 1).slicing (with_slices 1 1).slicing 40 40 (both-sliced refl) (record { count = refl; range = refl; mode = refl })
    (record { qp = refl; number = refl }, λ k h. refl, refl) (record { qp = refl; number = refl })
    (slices-sound 2 1 tt tt) (slices-sound 1 1 tt tt) computed.2 computed.4

-- ---- the upper macroblock has not arrived: with any QP the visit waits for it, with what is no QP it is
-- refused
pub no-qp-yet : ((visit_of (with_upper 40) (column_planes, 0 ∷ 0 ∷ []) (0, 1)).0 ≡ 14) × ((visit_of (with_upper 52) (column_planes, 0 ∷ 0 ∷ []) (0, 1)).0 ≡ 8)
unfolding visit answer waiting early_in bad_marks bad_around some_bad some band
no-qp-yet = (refl, refl)

-- .. with any slice number, with one past the table
pub no-number-yet : ((visit_of (with_slices 2 0) (column_planes, 0 ∷ 0 ∷ []) (0, 1)).0 ≡ 14) × ((visit_of (with_slices 2 2) (column_planes, 0 ∷ 0 ∷ []) (0, 1)).0 ≡ 20)
unfolding visit answer waiting early_in bad_marks bad_around some_bad some_bad_pair some_bad_mode some band
no-number-yet = (refl, refl)
