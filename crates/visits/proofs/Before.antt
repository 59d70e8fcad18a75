-- As before: without slices a visit's earlier checks and its step are what they were before there were any,
-- and of a frame what they were before there were fields, spelled out. Assumes nothing.
use mathlib.Core.Path.{◌≡◌, refl}
use mathlib.Core.Bool.{Bool, not, ◌||◌}
use mathlib.Core.List.{List, [], ◌∷◌, ◌++◌}
use Prim.Native.Nat.{ℕ, ◌+◌, ◌*◌}
use lib.Dec.{eqb}
use lib.ListN.{length}
use Rattle.laws.specs.Refusal.{refusal}
use Rattle.edges.specs.Alike.{held}
use Rattle.edges.specs.Fields.{on_part}
use Rattle.edges.specs.Picture.{Planes, step_of}
use Rattle.edges.specs.declared.Offsets.{Offsets}
use Rattle.sizes.specs.Sizes.{bad_size, outside_of, bad_planes}
use Rattle.sizes.specs.declared.Part.{Part}
use Rattle.sizes.specs.declared.Part.TheVariants.{Frame}
use Rattle.sizes.specs.declared.Size.{Size}
use Rattle.slices.specs.Table.{bad_offsets}
use Rattle.pictures.specs.Checks.{Lent, lent, bad_lent, bad_qp, some_bad_flag, some_bad_strength, picture_checks}
use Rattle.visits.specs.Checks.{bad_marks, bad_around, early_in}
use Rattle.visits.specs.Promise.{visit_in}
use Rattle.visits.specs.Visit.{At, State, visit}

module _ (size : Size) (o : Offsets) (strengths qps t8s : List ℕ) (s : State Planes) (r : At) where
  abbrev d : Lent
  d = lent size o strengths qps t8s

  abbrev n : ℕ
  n = size.w * size.h

  abbrev i : ℕ
  i = r.1 * size.w + r.0

  -- ---- no grid of slice numbers, one pair of offsets, no 20 and no 21
  abbrev pub plain_visit_checks : Part → List (ℕ × Bool)
  plain_visit_checks part =
      picture_checks part size (outside_of size r.0 r.1) (length s.0.luma) (length s.0.u) (length s.0.v)
      ++ (4, bad_lent n (length strengths) (length qps) (length t8s) || not (eqb (length s.1) n))
      ∷ (6, bad_offsets o)
      ∷ (7, some_bad_flag i (i + 1) t8s || bad_marks s.1 size.w r.0 r.1)
      ∷ (8, bad_around bad_qp qps size.w r.0 r.1)
      ∷ (9, some_bad_strength i (i + 1) strengths)
      ∷ []

  pub plain-checks-before : (part : Part) → early_in part d s r ≡ refusal (plain_visit_checks part)
  unfolding early_in
  plain-checks-before part = refl

  pub plain-visit-before : (part : Part) → visit_in part d s r ≡ visit size.w (λ k. on_part part size (step_of (held size.w strengths qps t8s o) k)) (early_in part d) s r
  plain-visit-before part = refl

  -- ---- a frame: no 19, and planes of n macroblocks
  abbrev pub frame_visit_checks : List (ℕ × Bool)
  frame_visit_checks =
      (1, bad_size size)
      ∷ (2, outside_of size r.0 r.1)
      ∷ (3, bad_planes n (length s.0.luma) (length s.0.u) (length s.0.v))
      ∷ (4, bad_lent n (length strengths) (length qps) (length t8s) || not (eqb (length s.1) n))
      ∷ (6, bad_offsets o)
      ∷ (7, some_bad_flag i (i + 1) t8s || bad_marks s.1 size.w r.0 r.1)
      ∷ (8, bad_around bad_qp qps size.w r.0 r.1)
      ∷ (9, some_bad_strength i (i + 1) strengths)
      ∷ []

  pub frame-checks-before : early_in Frame d s r ≡ refusal frame_visit_checks
  unfolding early_in
  frame-checks-before = refl

  pub frame-visit-before : visit_in Frame d s r ≡ visit size.w (step_of (held size.w strengths qps t8s o)) (early_in Frame d) s r
  frame-visit-before = refl
