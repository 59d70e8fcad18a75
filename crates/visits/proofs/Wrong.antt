-- Wrong visits, with the real filter: those of Refused.antt that need a picture, each on one on which the
-- filter does something. Assumes nothing.
use mathlib.Core.Path.{◌≡◌, sym, ap, ◌∙◌}
use mathlib.Core.Logic.{◌≢◌}
use mathlib.Core.List.{[], ◌∷◌}
use Prim.Native.Nat.{ℕ, ◌*◌, ◌<◌}
use native.Mathlib.Omega.{arith}
use lib.ListN.{length, get_or, length-replicate}
use Rattle.laws.specs.Some.{some}
use Rattle.laws.specs.Places.{Plane}
use Rattle.edges.specs.Cases.{no_offsets}
use Rattle.edges.specs.Picture.{Planes, step_of}
use Rattle.visits.specs.Visit.{At, State, fresh, answer, itself}
use Rattle.visits.specs.AnyOrder.{Demand3}
use Rattle.visits.specs.Old.{old_visit}
use Rattle.pictures.specs.Checks.{Lent, lent, held_of, some_bad}
use Rattle.sizes.specs.declared.Part.TheVariants.{Frame}
use Rattle.visits.specs.Checks.{bad_marks, bad_around, early_in, early_of, Sound, Fit}
use Rattle.visits.specs.Promise.{VisitOutcome}
use Rattle.visits.specs.Smallest.{one_lent, one_planes, pair_lent, pair_planes}
use Rattle.visits.specs.Fault.{band, fault_lent}
use Rattle.visits.proofs.Marks.{fresh-bits}
use Rattle.visits.proofs.Instance.{fit-kept, passes-valid}
use Rattle.visits.proofs.Fault as fault
use Rattle.visits.proofs.Refused as refused
use Rattle.visits.proofs.Refused.{idle_visit, first_only, turns_away, ready_first, marks_refused}
use Rattle.visits.proofs.Smallest.{single_step, one-clear, one-samples, pair_step, pair-fit, pair-clear, pair-samples}

-- ---- always refuses: with valid data, on any picture
pub visit-always-refuses : (d : Lent) → Sound d → 0 < d.size.w → 0 < d.size.h → (start : Planes) → Fit d start
    → {A : Type 0} (number : A → ℕ) (says : State Planes → At → A) → ((t : State Planes) (r : At) → number (says t r) ≢ 0)
    → Demand3 d.size.w d.size.h (step_of (held_of d)) (early_of d) number (λ t r. (says t r, t)) → ⊥
visit-always-refuses d v w h start f =
    refused.always_refuses (step_of (held_of d)) (early_of d) start d.size.w d.size.h w h
    (passes-valid d v (start, fresh d.size.w d.size.h) f (length-replicate (d.size.w * d.size.h) 0) (fresh-bits (d.size.w * d.size.h)) 0 0 w h)

-- ---- two macroblocks side by side
-- filtering the second changes sample (15, 0)
pair-moves : pair_step 1 (pair_step 0 pair_planes) ≢ pair_step 0 pair_planes
pair-moves e = let k : ◌≡◌ {A = ℕ} 101 100 = sym pair-samples.1 ∙ ap (λ (p : Planes). get_or p.luma 15 0) e ∙ pair-samples.0 in omega arith

-- filters on the first visit and afterwards only sets marks
pub first-only : Demand3 2 1 pair_step (early_of pair_lent) itself (first_only 2 pair_step (early_of pair_lent)) → ⊥
first-only =
    refused.first-only pair_step (early_of pair_lent) pair_planes (pair-clear pair_planes pair-fit 0 0 0 tt (omega arith))
    (pair-clear (pair_step 0 pair_planes) (fit-kept pair_lent 0 pair_planes pair-fit) 1 0 1 tt (omega arith)) pair-moves

-- refuses a ready macroblock with another number
pub turns-away : Demand3 2 1 pair_step (early_of pair_lent) itself (turns_away 2 pair_step (early_of pair_lent)) → ⊥
turns-away =
    refused.turns-away pair_step (early_of pair_lent) pair_planes (pair-clear pair_planes pair-fit 0 0 0 tt (omega arith))
    (pair-clear (pair_step 0 pair_planes) (fit-kept pair_lent 0 pair_planes pair-fit) 1 0 1 tt (omega arith))

-- asks 14 before 13: no answer and no state after it is allowed
pub ready-first : (t : State Planes) → VisitOutcome Frame pair_lent (pair_planes, 0 ∷ 1 ∷ []) (1, 0) (ready_first 2 pair_step (early_of pair_lent) (pair_planes, 0 ∷ 1 ∷ []) (1, 0)) t → ⊥
ready-first = refused.ready-first pair_step (early_of pair_lent) pair_planes (pair-clear pair_planes pair-fit 0 1 1 tt (omega arith))

-- refuses a marked macroblock with 14: 13 comes first
pub marked-as-waiting : (t : State Planes) → VisitOutcome Frame pair_lent (pair_planes, 1 ∷ 0 ∷ []) (0, 0) 14 t → ⊥
marked-as-waiting = refused.marked-as-waiting pair_step (early_of pair_lent) pair_planes (pair-clear pair_planes pair-fit 1 0 0 tt (omega arith))

-- lets QP 52 to the left pass check 8
pub left-qp-52 : (t : State Planes)
    → VisitOutcome Frame (lent pair_lent.size no_offsets pair_lent.strengths (52 ∷ 40 ∷ []) []) (pair_planes, 1 ∷ 0 ∷ []) (1, 0) 0 t → ⊥
unfolding answer early_in bad_marks bad_around some_bad some band
left-qp-52 t o = let k : ◌≡◌ {A = ℕ} 0 8 = o.number in omega arith

-- sets its mark though it refuses
pub marks-refused : Demand3 2 1 pair_step (early_of pair_lent) itself (marks_refused 2 pair_step (early_of pair_lent)) → ⊥
marks-refused = refused.marks-refused pair_step (early_of pair_lent) pair_planes (pair-clear pair_planes pair-fit 0 0 1 tt (omega arith))

-- ---- one macroblock
one-moves : single_step 0 one_planes ≢ one_planes
one-moves e = let k : ◌≡◌ {A = ℕ} 101 100 = sym one-samples.1 ∙ ap (λ (p : Planes). get_or p.luma 3 0) e ∙ one-samples.0 in omega arith

-- leaves the planes untouched
pub planes-untouched : Demand3 1 1 single_step (early_of one_lent) itself (idle_visit 1 single_step (early_of one_lent)) → ⊥
planes-untouched = refused.planes-untouched single_step (early_of one_lent) one_planes one-clear one-moves

-- ---- readiness without the upper right neighbour, on the picture of Fault.antt: already the answer to its
-- second visit is wrong
pub without-upper-right : (u v : Plane) → length u ≡ 256 → length v ≡ 256
    → Demand3 2 2 (step_of (held_of fault_lent)) (early_of fault_lent) itself (old_visit 2 (step_of (held_of fault_lent)) (early_of fault_lent)) → ⊥
without-upper-right u v lu lv = refused.without-upper-right (fault.fault_step u v lu lv) (early_of fault_lent) (fault.fault_start u v lu lv) (fault.old-clear u v lu lv)
