-- Worked examples: the answers of a row call on one grey macroblock. Assumes nothing.
use mathlib.Core.Path.{◌≡◌, refl}
use mathlib.Core.Bool.{◌||◌}
use native.Mathlib.Omega.{arith}
use borrow.Author.Tests.{le-ltb}
use mathlib.Core.List.{[], ◌∷◌, replicate}
use Prim.Native.Nat.{ℕ}
use lib.IntN.{ℤ, pos, negsuc, neg_ℤ}
use lib.Signed.{lt_z}
use Rattle.lines.specs.Depth.{eight}
use Rattle.laws.specs.Some.{some}
use Rattle.edges.specs.Picture.{Planes, planes}
use Rattle.edges.specs.Cases.{no_offsets}
use Rattle.sizes.specs.declared.Part.TheVariants.{Frame, Field}
use Rattle.pictures.specs.Checks.{Lent, lent, bad_qp, some_bad}
use Rattle.pictures.specs.Rows.{row_answer}

-- its strengths and its QP
abbrev pub grey_lent : ℕ → ℕ → Lent
grey_lent bs qp = lent (record { w = 1; h = 1 }) no_offsets (replicate 32 bs) (qp ∷ []) []

abbrev pub grey : Planes
grey = planes (replicate 256 128) (replicate 64 128) (replicate 64 128)

pub grey-served : row_answer Frame (grey_lent 0 30) 0 1 grey ≡ 0
unfolding row_answer some_bad some
grey-served = refl

-- rows 0 to 2 of one row; no luma; QP 52; strength 5, with QP 52 beside it or without: the first check that
-- applies
grey-refused : (row_answer Frame (grey_lent 0 30) 0 2 grey ≡ 2)
    × (row_answer Frame (grey_lent 0 30) 0 1 (planes [] grey.u grey.v) ≡ 3)
    × (row_answer Frame (grey_lent 0 52) 0 1 grey ≡ 8)
    × (row_answer Frame (grey_lent 5 52) 0 1 grey ≡ 8)
    × (row_answer Frame (grey_lent 5 30) 0 1 grey ≡ 9)
unfolding row_answer some_bad some
grey-refused = (refl, refl, refl, refl, refl)

-- ---- check 6 asks four offsets: all may be 12 or -12; 13 in A, B, U's, V's; -13 in V's
abbrev pub grey_with : ℤ → ℤ → ℤ → ℤ → Lent
grey_with a b u v = lent (record { w = 1; h = 1 }) (record { a = a; b = b; chroma_u = u; chroma_v = v }) (replicate 32 0) (30 ∷ []) []

grey-offsets : (row_answer Frame (grey_with (negsuc 11) (pos 12) (pos 12) (negsuc 11)) 0 1 grey ≡ 0)
    × (row_answer Frame (grey_with (pos 13) (pos 0) (pos 0) (pos 0)) 0 1 grey ≡ 6)
    × (row_answer Frame (grey_with (pos 0) (pos 13) (pos 0) (pos 0)) 0 1 grey ≡ 6)
    × (row_answer Frame (grey_with (pos 0) (pos 0) (pos 13) (pos 0)) 0 1 grey ≡ 6)
    × (row_answer Frame (grey_with (pos 0) (pos 0) (pos 0) (pos 13)) 0 1 grey ≡ 6)
    × (row_answer Frame (grey_with (pos 0) (pos 0) (pos 0) (negsuc 12)) 0 1 grey ≡ 6)
unfolding row_answer some_bad some
grey-offsets = (refl, refl, refl, refl, refl, refl)

-- ---- a field of one macroblock: the planes are those of a frame of two. A parity of 2 is refused after the
-- range and before the planes
abbrev pub grey_frame : Planes
grey_frame = planes (replicate 512 128) (replicate 128 128) (replicate 128 128)

grey-field : (row_answer (Field 0) (grey_lent 0 30) 0 1 grey_frame ≡ 0)
    × (row_answer (Field 1) (grey_lent 0 30) 0 1 grey_frame ≡ 0)
    × (row_answer (Field 1) (grey_lent 0 30) 0 1 grey ≡ 3)
    × (row_answer Frame (grey_lent 0 30) 0 1 grey_frame ≡ 3)
    × (row_answer (Field 2) (grey_lent 0 30) 0 1 grey ≡ 19)
    × (row_answer (Field 2) (grey_lent 0 30) 0 2 grey ≡ 2)
    × (row_answer (Field 2) (grey_lent 0 30) 1 1 grey_frame ≡ 19)
unfolding row_answer some_bad some
grey-field = (refl, refl, refl, refl, refl, refl, refl)

-- ---- a bad QP is one outside the range that the depth sets, -QpBdOffset to 51
pub bad-qp-range : (qp : ℕ) → (lt_z (pos qp) (neg_ℤ (pos eight.low)) || lt_z (pos 51) (pos qp)) ≡ bad_qp qp
bad-qp-range qp = rw (le-ltb qp 0 (omega arith))
