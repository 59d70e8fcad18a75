-- As before: without slices the promise of a row call is what it was before there were any, and of a frame
-- what it was before there were fields, spelled out. Assumes nothing.
use mathlib.Core.Path.{◌≡◌}
use mathlib.Core.Bool.{Bool, false, cond, ◌||◌}
use mathlib.Core.List.{List, [], ◌∷◌, ◌++◌}
use Prim.Native.Nat.{ℕ, ◌*◌}
use lib.Dec.{eqb}
use lib.ListN.{length}
use Rattle.laws.specs.Refusal.{refusal}
use Rattle.edges.specs.Alike.{held}
use Rattle.edges.specs.Fields.{on_part}
use Rattle.edges.specs.Picture.{Planes, rows_of}
use Rattle.edges.specs.declared.Offsets.{Offsets}
use Rattle.sizes.specs.Sizes.{bad_size, bad_planes}
use Rattle.sizes.specs.declared.Part.{Part}
use Rattle.sizes.specs.declared.Part.TheVariants.{Frame}
use Rattle.sizes.specs.declared.Size.{Size}
use Rattle.slices.specs.Table.{bad_offsets}
use Rattle.pictures.specs.Checks.{lent, bad_lent, bad_qp, some_bad, some_bad_flag, some_bad_strength, picture_checks}
use Rattle.pictures.specs.Rows.{bad_range, qps_from, row_answer, RowOutcome}

module _ (size : Size) (o : Offsets) (strengths qps t8s : List ℕ) (a b : ℕ) (p : Planes) where
  abbrev n : ℕ
  n = size.w * size.h

  -- ---- no grid of slice numbers, one pair of offsets, no 20 and no 21
  abbrev pub plain_row_checks : Part → List (ℕ × Bool)
  plain_row_checks part =
      picture_checks part size (bad_range size a b) (length p.luma) (length p.u) (length p.v)
      ++ (4, bad_lent n (length strengths) (length qps) (length t8s) || false)
      ∷ (6, bad_offsets o)
      ∷ (7, some_bad_flag (a * size.w) (b * size.w) t8s)
      ∷ (8, some_bad bad_qp (qps_from size.w a b) (b * size.w) qps)
      ∷ (9, some_bad_strength (a * size.w) (b * size.w) strengths)
      ∷ []

  pub plain-rows-before : (part : Part) {k : ℕ} {p' : Planes} → RowOutcome part (lent size o strengths qps t8s) a b p k p'
      → (k ≡ refusal (plain_row_checks part)) × (p' ≡ cond (eqb k 0) (on_part part size (rows_of (held size.w strengths qps t8s o) a b) p) p)
  unfolding row_answer
  plain-rows-before part r = (r.says, r.leaves)

  -- ---- a frame: no 19, and planes of n macroblocks
  abbrev pub frame_row_checks : List (ℕ × Bool)
  frame_row_checks =
      (1, bad_size size)
      ∷ (2, bad_range size a b)
      ∷ (3, bad_planes n (length p.luma) (length p.u) (length p.v))
      ∷ (4, bad_lent n (length strengths) (length qps) (length t8s) || false)
      ∷ (6, bad_offsets o)
      ∷ (7, some_bad_flag (a * size.w) (b * size.w) t8s)
      ∷ (8, some_bad bad_qp (qps_from size.w a b) (b * size.w) qps)
      ∷ (9, some_bad_strength (a * size.w) (b * size.w) strengths)
      ∷ []

  pub frame-rows-before : {k : ℕ} {p' : Planes} → RowOutcome Frame (lent size o strengths qps t8s) a b p k p'
      → (k ≡ refusal frame_row_checks) × (p' ≡ cond (eqb k 0) (rows_of (held size.w strengths qps t8s o) a b p) p)
  unfolding row_answer
  frame-rows-before r = (r.says, r.leaves)
