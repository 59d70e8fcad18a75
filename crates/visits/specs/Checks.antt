-- The checks of a visit before 13: docs/RULES.md, "Answers" and "What each call reads". They are those of
-- every filtering call. A visit reads strengths and flag of its macroblock, QPs of it and of its left and
-- upper neighbours, where slices are lent the slice numbers of these three, and its own, the left, the upper
-- and the upper right mark.
use Rattle.std.specs.Prelude.{ℕ, ◌+◌, ◌-◌, ◌*◌, ◌≡◌, Bool, false, not, ◌&&◌, ◌||◌, List, eqb, ltb, length, get_or}
use Rattle.laws.specs.Refusal.{refusal}
use Rattle.edges.specs.Fields.{Lengths}
use Rattle.edges.specs.Picture.{Planes}
use Rattle.sizes.specs.Entries.{bad_flag, bad_before, bad_near}
use Rattle.sizes.specs.Sizes.{bad_size, outside_of}
use Rattle.sizes.specs.declared.Part.{Part}
use Rattle.sizes.specs.declared.Part.TheVariants.{Frame}
use Rattle.slices.specs.Slicing.{bad_number_count, bad_slice_offset, some_bad_number, bad_slice_mode}
use Rattle.pictures.specs.Checks.{Lent, bad_lent, bad_qp, bad_strength, some_bad_flag, some_bad_strength, Reads, filter_checks}
use Rattle.visits.specs.Visit.{At, State}

-- 7: a value that is no mark
abbrev pub bad_mark : ℕ → Bool
bad_mark m = ltb 1 m

unfoldable pub bad_marks : List ℕ → ℕ → ℕ → ℕ → Bool
bad_marks ms w x y = bad_near bad_mark ms w x y || bad_before bad_mark (ltb 0 y && ltb (x + 1) w) ms (y * w + x) (w - 1)

-- 8, 20
unfoldable pub bad_around : (ℕ → Bool) → List ℕ → ℕ → ℕ → ℕ → Bool
bad_around = bad_near

-- 7, 8, 9, 20
abbrev pub visit_reads : ℕ → List ℕ → List ℕ → List ℕ → At → Reads
visit_reads w strengths t8s ms r = record {
  flags = some_bad_flag i (i + 1) t8s || bad_marks ms w r.0 r.1;
  near = λ bad xs. bad_around bad xs w r.0 r.1;
  strengths = some_bad_strength i (i + 1) strengths;
}
  where
    i : ℕ
    i = r.1 * w + r.0

-- a visit is lent marks beside, one for each macroblock of the picture; luma, u, v are the lengths of the
-- planes
abbrev pub visit_checks : Part → Lent → ℕ → ℕ → ℕ → List ℕ → At → List (ℕ × Bool)
visit_checks part d luma u v ms r =
    filter_checks part d luma u v (outside_of d.size r.0 r.1) (not (eqb (length ms) (d.size.w * d.size.h)))
    (visit_reads d.size.w d.strengths d.t8s ms r)

-- of a part of the planes; of a frame
unfoldable pub early_in : Part → Lent → State Planes → At → ℕ
early_in part d s r = refusal (visit_checks part d (length s.0.luma) (length s.0.u) (length s.0.v) s.1 r)

abbrev pub early_of : Lent → State Planes → At → ℕ
early_of d = early_in Frame d

-- ---- "the same valid size, buffer lengths, strengths, QPs, 8x8 flags and offsets", and where slices are
-- lent "a valid table and valid slice numbers, at every macroblock": valid wherever a visit may read
pub record Sound (d : Lent) : Type 0 where
  pub sides : bad_size d.size ≡ false
  pub lengths : bad_lent (d.size.w * d.size.h) (length d.strengths) (length d.qps) (length d.t8s) ≡ false
  pub numbers : bad_number_count d.slicing (d.size.w * d.size.h) ≡ false
  pub range : bad_slice_offset d.slicing ≡ false
  pub flag : (i : ℕ) → bad_flag (get_or d.t8s i 0) ≡ false
  pub qp : (i : ℕ) → bad_qp (get_or d.qps i 0) ≡ false
  pub strength : (i : ℕ) → bad_strength (get_or d.strengths i 0) ≡ false
  pub number : (i : ℕ) → some_bad_number d.slicing (λ bad ns. bad (get_or ns i 0)) ≡ false
  pub mode : bad_slice_mode d.slicing ≡ false

-- the planes of a frame
abbrev pub Fit : Lent → Planes → Type 0
Fit d p = Lengths (d.size.w * d.size.h) p
