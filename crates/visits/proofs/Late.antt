-- A visit looks at nothing but what `SameSight` names, and changes nothing but what `RestStays` leaves out.
-- Assumes nothing.
use mathlib.Core.Path.{◌≡◌, refl, sym, subst, ◌∙◌}
use mathlib.Core.List.{List, [], ◌∷◌}
use Prim.Native.Nat.{ℕ, ◌+◌, ◌-◌, ◌*◌, ◌<◌}
use native.Mathlib.Decide.{ℕ_discrete}
use native.Mathlib.Omega.{arith}
use lib.ListN.{set, length-set}
use lib.Seq.{get_or-set_other}
use Rattle.laws.specs.Places.{Plane}
use Rattle.laws.proofs.Local.{local-through}
use Rattle.edges.specs.Picture.{Planes, step_of}
use Rattle.sizes.specs.declared.Size.{Size}
use Rattle.slices.specs.Slicing.{Slicing}
use Rattle.pictures.specs.Checks.{Lent, lent_by, held_of}
use Rattle.visits.specs.Visit.{At, State}
use Rattle.visits.specs.Checks.{early_of}
use Rattle.visits.specs.Late.{SamePlane, SameAt, SameEntry, of_request, SameMarks, SameSight, SameOutcome, RestStays}
use Rattle.visits.specs.Promise.{visit_of}
use Rattle.visits.proofs.Clauses.{Done, done-tells, refused-unchanged}
use Rattle.visits.proofs.Instance.{asks-place}
use Rattle.visits.proofs.LateChecks.{answer-same}
use Rattle.visits.proofs.LateStep.{step-more, step-off, step_same, regridded}

-- ---- the two ways out of the visit that the code makes
pub refused-here : (d : Lent) (s : State Planes) (r : At) → ((visit_of d s r).0 ≡ 0 → ⊥) → (visit_of d s r).1 ≡ s
refused-here d s r n = refused-unchanged d.size.w (step_of (held_of d)) (early_of d) s r n

abbrev pub DoneHere : Lent → State Planes → At → Type 0
DoneHere d s r = Done d.size.w d.size.h (step_of (held_of d)) (early_of d) (asks-place d) s r

pub done-here : (d : Lent) (s : State Planes) (r : At) → (visit_of d s r).0 ≡ 0 → DoneHere d s r
done-here d s r z = done-tells d.size.w d.size.h (step_of (held_of d)) (early_of d) (asks-place d) s r z

-- ---- a mark that is set in both; planes that stay
marks-set : (W : ℕ) (r : At) {ms ns : List ℕ} → SameMarks W r ms ns → SameMarks W r (set ms (r.1 * W + r.0) 1) (set ns (r.1 * W + r.0) 1)
marks-set W r {ms} {ns} a = record {
  len = length-set ms i 1 ∙ a.len ∙ sym (length-set ns i 1);
  own = at i a.own;
  left = λ h. at (i - 1) (a.left h);
  upper = λ h. at (i - W) (a.upper h);
  upper-right = λ h k. at (i - W + 1) (a.upper-right h k);
}
  where
    i : ℕ
    i = r.1 * W + r.0

    at : (j : ℕ) → SameEntry ms ns j → SameEntry (set ms i 1) (set ns i 1) j
    at j h = (local-through (SameEntry ms ns) [] (i ∷ []) (λ vs. 1 ∷ []) tt (a.own, tt)).same ms ns a.len (λ k e. e) j h

pub same-itself : {F : ℕ → ℕ → Type 0} (p : Planes) → SameAt F p p
same-itself {F} p = record { luma = plane (F 16) p.luma; u = plane (F 8) p.u; v = plane (F 8) p.v }
  where
    plane : (G : ℕ → Type 0) (s : Plane) → SamePlane G s s
    plane G s = record { len = refl; samples = λ k h. refl }

-- ---- with d lent, and with other slices and grids of its size
near-regridded : (d : Lent) (sl : Slicing) (ss qs ts : List ℕ) (s t : State Planes) (r : At) → SameSight d (regridded d sl ss qs ts) s t r → SameOutcome d (regridded d sl ss qs ts) s t r
near-regridded d sl ss qs ts s t r a = go (ℕ_discrete (visit_of d s r).0 0)
  where
    e : Lent
    e = regridded d sl ss qs ts

    same : (visit_of d s r).0 ≡ (visit_of e t r).0
    same = answer-same d sl ss qs ts s t r a

    go : Dec ((visit_of d s r).0 ≡ 0) → SameOutcome d e s t r
    go (no n) =
        let k = refused-here d s r n in
        let l = refused-here e t r (λ z. n (same ∙ z)) in
        record { number = same; planes = rw (k, l) a.planes; marks = rw (k, l) a.marks }
    go (yes z) =
        let k = done-here d s r z in
        let l = done-here e t r (sym same ∙ z) in
        let wide : 0 < d.size.w = omega (arith, k.column) in
        let near = step-more (held_of d) wide (of_request d r) s.0 t.0 (λ N k h. h) a.planes in
        record {
          number = same;
          planes = rw (k.after, l.after, ← step_same d sl ss qs ts r a.lent.around k.column t.0) near;
          marks = rw (k.after, l.after) (marks-set d.size.w r a.marks);
        }

-- for every input, refusals included
pub near-only : (d e : Lent) (s t : State Planes) (r : At) → SameSight d e s t r → SameOutcome d e s t r
near-only d e s t r a =
    subst (λ (z : Size). let f = lent_by z e.slicing e.strengths e.qps e.t8s in SameSight d f s t r → SameOutcome d f s t r)
    a.lent.around.shape.size (near-regridded d e.slicing e.strengths e.qps e.t8s s t r) a

pub rest-stays : (d : Lent) (s : State Planes) (r : At) → RestStays d s r
rest-stays d s r = go (ℕ_discrete (visit_of d s r).0 0)
  where
    go : Dec ((visit_of d s r).0 ≡ 0) → RestStays d s r
    go (no n) =
        let k = refused-here d s r n in
        record { planes = rw k (same-itself s.0); marks = λ i h. rw k; len = rw k }
    go (yes z) =
        let k = done-here d s r z in
        let wide : 0 < d.size.w = omega (arith, k.column) in
        record {
          planes = rw k.after (step-off (held_of d) wide (of_request d r) s.0 s.0);
          marks = λ i h. rw k.after (sym (get_or-set_other s.1 (of_request d r) i 1 0 h));
          len = rw k.after (sym (length-set s.1 (of_request d r) 1));
        }
