-- As before: with equal chroma offsets a visit, and so any list of them, is what it was when one served U and
-- V. Assumes nothing.
use mathlib.Core.Path.{◌≡◌, ◌∙◌}
use mathlib.Core.Bool.{cond, not}
use mathlib.Core.List.{List}
use Prim.Native.Nat.{ℕ, ◌*◌}
use lib.Dec.{eqb}
use lib.ListN.{length}
use Rattle.laws.specs.Refusal.{refusal}
use Rattle.edges.specs.Fields.{on_part}
use Rattle.edges.specs.Picture.{Planes, step_of}
use Rattle.sizes.specs.Sizes.{outside_of}
use Rattle.sizes.specs.declared.Part.{Part}
use Rattle.sizes.specs.declared.Size.{Size}
use Rattle.edges.specs.declared.Offsets.{Offsets}
use Rattle.pictures.specs.Checks.{Lent, lent}
use Rattle.pictures.proofs.EqualOffsets.{one_held, one_checks, equal-lent, equal-checks}
use Rattle.visits.specs.Checks.{visit_reads, early_in}
use Rattle.visits.specs.Promise.{step_in, visit_in, VisitOutcome, requests, uneven, ReplayOutcome}
use Rattle.visits.specs.Visit.{At, State, Call, VisitOutcomeOf, visit, run, answers}

module _ (part : Part) (size : Size) (o : Offsets) (strengths qps t8s : List ℕ) where
  abbrev d : Lent
  d = lent size o strengths qps t8s

  -- with one chroma offset, U's: the macroblock filtered, and the checks before 13
  abbrev pub one_step : ℕ → Planes → Planes
  one_step i = on_part part size (step_of (one_held size o strengths qps t8s o.chroma_u) i)

  abbrev pub one_early : State Planes → At → ℕ
  one_early s r =
      refusal (one_checks size o strengths qps t8s o.chroma_u part (length s.0.luma) (length s.0.u) (length s.0.v) (outside_of size r.0 r.1)
      (not (eqb (length s.1) (size.w * size.h))) (visit_reads size.w strengths t8s s.1 r))

  abbrev pub one_visit : Call ℕ Planes
  one_visit = visit size.w one_step one_early

  module _ (e : o.chroma_u ≡ o.chroma_v) where
    equal-step : step_in part d ≡ one_step
    equal-step = λ i k. on_part part size (step_of (equal-lent size o strengths qps t8s e i) k)

    equal-early : early_in part d ≡ one_early
    unfolding early_in
    equal-early = λ i s r.
        refusal (equal-checks size o strengths qps t8s e part (length s.0.luma) (length s.0.u) (length s.0.v) (outside_of size r.0 r.1)
        (not (eqb (length s.1) (size.w * size.h))) (visit_reads size.w strengths t8s s.1 r) i)

    -- what a call promises, and the visit that replays and demand 3 speak of
    pub equal-outcome-before : VisitOutcome part d ≡ VisitOutcomeOf size.w one_step one_early
    equal-outcome-before = λ i. VisitOutcomeOf size.w (equal-step i) (equal-early i)

    pub equal-visit-before : visit_in part d ≡ one_visit
    equal-visit-before = λ i. visit size.w (equal-step i) (equal-early i)

    -- requests replayed
    pub equal-replay-before : (xs ys : List ℕ) (s : State Planes) (out : List ℕ) {n : ℕ} {t : State Planes} {out' : List ℕ} → ReplayOutcome part d xs ys s out n t out'
        → (n ≡ cond (uneven xs ys out) 4 0)
        × (t ≡ cond (uneven xs ys out) s (run one_visit (requests xs ys) s))
        × (out' ≡ cond (uneven xs ys out) out (answers one_visit (requests xs ys) s))
    equal-replay-before xs ys s out r = (
      r.says,
      r.leaves ∙ (λ i. cond (uneven xs ys out) s (run (equal-visit-before i) (requests xs ys) s)),
      r.writes ∙ (λ i. cond (uneven xs ys out) out (answers (equal-visit-before i) (requests xs ys) s)),
    )
