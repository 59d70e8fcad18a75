-- One slice of mode 0 for the whole picture: a visit with slices is the plain visit, and so is any list of
-- them. Assumes nothing.
use mathlib.Core.Path.{◌≡◌}
use mathlib.Core.Bool.{not}
use mathlib.Core.List.{List, [], ◌∷◌}
use Prim.Native.Nat.{ℕ, ◌*◌}
use lib.Dec.{eqb}
use lib.IntN.{ℤ}
use lib.ListN.{length, get_or}
use Rattle.laws.specs.Refusal.{refusal}
use Rattle.edges.specs.Fields.{on_part}
use Rattle.edges.specs.Picture.{step_of}
use Rattle.sizes.specs.Sizes.{outside_of}
use Rattle.sizes.specs.declared.Part.{Part}
use Rattle.sizes.specs.declared.Size.{Size}
use Rattle.slices.specs.Slicing.{bad_number}
use Rattle.slices.specs.declared.ChromaOffsets.{ChromaOffsets}
use Rattle.slices.proofs.OneSlice.{mode_zero, one_number}
use Rattle.pictures.proofs.OneSlice.{by_table, by_pair, one-slice-held, one-slice-checks}
use Rattle.visits.specs.Checks.{visit_reads, early_in}
use Rattle.visits.specs.Promise.{step_in, visit_in, VisitOutcome}
use Rattle.visits.specs.Visit.{VisitOutcomeOf, visit}
use Rattle.visits.proofs.Instance.{near-fine}

module _ (part : Part) (size : Size) (c : ChromaOffsets) (a b : ℤ) (ns strengths qps t8s : List ℕ) (full : length ns ≡ size.w * size.h) (zeros : (i : ℕ) → get_or ns i 0 ≡ 0) where
  same_step : step_in part (by_table size c a b ns strengths qps t8s full zeros) ≡ step_in part (by_pair size c a b ns strengths qps t8s full zeros)
  same_step = λ i k. on_part part size (step_of (one-slice-held size c a b ns strengths qps t8s full zeros i) k)

  same-early : early_in part (by_table size c a b ns strengths qps t8s full zeros) ≡ early_in part (by_pair size c a b ns strengths qps t8s full zeros)
  unfolding early_in
  same-early = λ i s r.
      refusal (one-slice-checks size c a b ns strengths qps t8s full zeros part (length s.0.luma) (length s.0.u) (length s.0.v) (outside_of size r.0 r.1)
      (not (eqb (length s.1) (size.w * size.h))) (visit_reads size.w strengths t8s s.1 r) (near-fine (bad_number (mode_zero a b ∷ [])) ns (one_number c a b ns zeros) size.w r.0 r.1) i)

  -- what a call promises, and the visit that replays and demand 3 speak of
  pub one-slice-outcome : VisitOutcome part (by_table size c a b ns strengths qps t8s full zeros) ≡ VisitOutcome part (by_pair size c a b ns strengths qps t8s full zeros)
  one-slice-outcome = λ i. VisitOutcomeOf size.w (same_step i) (same-early i)

  pub one-slice-visit : visit_in part (by_table size c a b ns strengths qps t8s full zeros) ≡ visit_in part (by_pair size c a b ns strengths qps t8s full zeros)
  one-slice-visit = λ i. visit size.w (same_step i) (same-early i)
