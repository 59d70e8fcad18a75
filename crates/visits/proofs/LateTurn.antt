-- One call with late data, alongside a visit that has all data: the same answer, the same marks, and the same
-- samples of marked macroblocks. Assumes nothing.
use mathlib.Core.Path.{◌≡◌, refl, sym, ap, subst, ◌∙◌}
use mathlib.Core.Logic.{◌⊎◌, inl, inr}
use mathlib.Core.List.{List}
use Prim.Native.Nat.{ℕ, ◌+◌, ◌-◌, ◌*◌, ◌<◌}
use native.Mathlib.Decide.{ℕ_discrete}
use native.Mathlib.Omega.{arith}
use lib.ListN.{length, set, length-set}
use lib.Seq.{get_or-set_other}
use Rattle.laws.specs.Grid.{Near, is-left, is_up}
use Rattle.laws.specs.Raster.{Marked}
use Rattle.edges.specs.Picture.{Planes, step_of}
use Rattle.sizes.specs.declared.Size.{Size}
use Rattle.slices.specs.Slicing.{Slicing}
use Rattle.pictures.specs.Checks.{Lent, lent_by, held_of}
use Rattle.sizes.specs.declared.Part.TheVariants.{Frame}
use Rattle.visits.specs.Visit.{At, State}
use Rattle.visits.specs.Beyond.{Bits}
use Rattle.visits.specs.Checks.{Sound, Fit}
use Rattle.visits.specs.Late.{SameAt, SamplesOf, SameNear, SameAround, of_request, Lends}
use Rattle.visits.specs.Promise.{visit_of, VisitOutcome}
use Rattle.visits.proofs.Instance.{fit-kept}
use Rattle.visits.proofs.Late.{refused-here, DoneHere, done-here}
use Rattle.visits.proofs.LateAnswer.{valid-answer}
use Rattle.visits.proofs.LatePlaces.{same-sym, same_after, same-less, same-either}
use Rattle.visits.proofs.LateStep.{regridded, step-more, step_same}
use Rattle.visits.proofs.LateUntouched.{ready-here, touched-here, mark-kept, unmarked-stay}
use Rattle.visits.proofs.Marks.{set-bits}
use Rattle.visits.proofs.Neighbours.{near→dep}
use Rattle.visits.proofs.Outcome.{outcome-is-visit}

-- what is kept from call to call: s is the state with all data there, t the one with late data
pub record Alongside (d : Lent) (start : Planes) (s t : State Planes) : Type 0 where
  pub marks : s.1 ≡ t.1
  pub same : SameAt (SamplesOf d.size.w (Marked s.1)) s.0 t.0
  pub unmarked : SameAt (SamplesOf d.size.w (λ i. Marked s.1 i → ⊥)) start s.0
  pub full : length s.1 ≡ d.size.w * d.size.h
  pub bits : Bits s.1
  pub fit : Fit d s.0

-- planes of the same lengths fit too
fit_same : (d : Lent) {F : ℕ → ℕ → Type 0} {p q : Planes} → Fit d p → SameAt F p q → Fit d q
fit_same d f a = record { luma = sym a.luma.len ∙ f.luma; u = sym a.u.len ∙ f.u; v = sym a.v.len ∙ f.v }

-- what is marked afterwards is the new one or was marked before
pub marked-before : (ms : List ℕ) (i j : ℕ) → Marked (set ms i 1) j → (j ≡ i) ⊎ Marked ms j
marked-before ms i j m = go (ℕ_discrete j i)
  where
    go : Dec (j ≡ i) → (j ≡ i) ⊎ Marked ms j
    go (yes e) = inl e
    go (no n) = inr (sym (get_or-set_other ms i j 1 0 n) ∙ m)

-- ---- with slices and grids of d's size lent, and the marks that both have
module _ (d : Lent) (sound : Sound d) (start : Planes) (sl : Slicing) (ss qs ts : List ℕ) (s : State Planes) (t : Planes) (a : Alongside d start s (t, s.1)) (r : At) (n : ℕ) (p : Planes)
    (c : Lends d start (t, s.1) r n (regridded d sl ss qs ts) p)
    (said : n ≡ (visit_of (regridded d sl ss qs ts) (p, s.1) r).0) where
  abbrev W : ℕ
  W = d.size.w

  abbrev i : ℕ
  i = of_request d r

  abbrev e : Lent
  e = regridded d sl ss qs ts

  -- before the visit the marked macroblocks are the same
  same-before : SameAt (SamplesOf W (Marked s.1)) s.0 p
  same-before = same_after a.same c.marked-samples

  number_same : (visit_of d s r).0 ≡ n
  number_same =
      let legal = rw said at c.legal in
      valid-answer d sound sl ss qs ts c.shape s.1 a.full a.bits s.0 p a.fit (fit_same d a.fit same-before) r legal ∙ sym said

  -- ---- a visit that is done
  module _ (z : (visit_of d s r).0 ≡ 0) where
    k : DoneHere d s r
    k = done-here d s r z

    zero : n ≡ 0
    zero = sym number_same ∙ z

    -- the left and the upper neighbour are marked, so their QPs and slice numbers are d's
    near-at : (nx ny : ℕ) → nx < W → Near nx ny r.0 r.1 → (j : ℕ) → ny * W + nx ≡ j → SameNear d e j
    near-at nx ny h near j is = subst (SameNear d e) is (c.marked-near (ny * W + nx) (ready-here d s r z (ny * W + nx) (near→dep W nx ny r.0 r.1 h k.column near)))

    around-same : SameAround d e r
    around-same = record {
      shape = c.shape;
      own = c.own-data zero;
      left = λ h. near-at (r.0 - 1) r.1 (omega (arith, k.column)) (is-left (omega arith) refl) (i - 1) (omega arith);
      upper = λ h.
          let up : r.1 ≡ r.1 - 1 + 1 = omega arith in
          near-at r.0 (r.1 - 1) k.column (is_up refl (omega arith)) (i - W) (omega (arith, ap (λ (y : ℕ). y * W) up));
    }

    -- what is its own or marked is the same before, and so afterwards
    wider-before : SameAt (λ N j. SamplesOf W (λ m. m ≡ i) N j ⊎ SamplesOf W (Marked s.1) N j) s.0 p
    wider-before = same-either (same_after (same-sym own-start) (c.own-samples zero)) same-before
      where
        own-start : SameAt (SamplesOf W (λ m. m ≡ i)) start s.0
        own-start = same-less (λ N j h m. k.unvisited (subst (Marked s.1) h m)) a.unmarked

    same-done : SameAt (SamplesOf W (Marked (set s.1 i 1))) (step_of (held_of d) i s.0) (step_of (held_of e) i p)
    same-done =
        let wide : 0 < d.size.w = omega (arith, k.column) in
        rw (← step_same d sl ss qs ts r around-same k.column p)
        (same-less (λ N j m. marked-before s.1 i _ m) (step-more (held_of d) wide i s.0 p (touched-here d s r z) wider-before))

  -- ---- afterwards
  unmarked-after : SameAt (SamplesOf W (λ j. Marked (visit_of d s r).1.1 j → ⊥)) start (visit_of d s r).1.0
  unmarked-after = same_after (same-less (λ N j u m. u (mark-kept d s r _ m)) a.unmarked) (unmarked-stay d s r)

  turn-regridded : Alongside d start (visit_of d s r).1 (visit_of e (p, s.1) r).1
  turn-regridded = go (ℕ_discrete (visit_of d s r).0 0)
    where
      go : Dec ((visit_of d s r).0 ≡ 0) → Alongside d start (visit_of d s r).1 (visit_of e (p, s.1) r).1
      go (no h) =
          let f = refused-here d s r h in
          let g = refused-here e (p, s.1) r (λ z. h (number_same ∙ said ∙ z)) in
          rw (f, g) (record { marks = refl; same = same-before; unmarked = a.unmarked; full = a.full; bits = a.bits; fit = a.fit })
      go (yes z) =
          let f = (done-here d s r z).after in
          let g = (done-here e (p, s.1) r (sym said ∙ zero z)).after in
          record {
            marks = rw (f, g);
            same = rw (f, g) (same-done z);
            unmarked = unmarked-after;
            full = rw f (length-set s.1 i 1 ∙ a.full);
            bits = rw f (set-bits s.1 i a.bits);
            fit = rw f (fit-kept d i s.0 a.fit);
          }

-- ---- one call, known by its contract
pub turn : (d : Lent) → Sound d → (start : Planes) {s t u : State Planes} {r : At} {n : ℕ} {e : Lent} {p : Planes}
    → Alongside d start s t → Lends d start t r n e p → VisitOutcome Frame e (p, t.1) r n u
    → (n ≡ (visit_of d s r).0) × Alongside d start (visit_of d s r).1 u
turn d sound start {s} {t} {u} {r} {n} {e} {p} a c o =
    let k = outcome-is-visit o in
    let made = moved t.1 a.marks a c k.0 in
    (made.0, rw k.1 made.1)
  where
    Turn : List ℕ → Lent → Type 0
    Turn ms f = Alongside d start s (t.0, ms) → Lends d start (t.0, ms) r n f p → n ≡ (visit_of f (p, ms) r).0
        → (n ≡ (visit_of d s r).0) × Alongside d start (visit_of d s r).1 (visit_of f (p, ms) r).1

    here : Turn s.1 (regridded d e.slicing e.strengths e.qps e.t8s)
    here a c said = (
      sym (number_same d sound start e.slicing e.strengths e.qps e.t8s s t.0 a r n p c said),
      turn-regridded d sound start e.slicing e.strengths e.qps e.t8s s t.0 a r n p c said,
    )

    moved : (ms : List ℕ) → s.1 ≡ ms → Alongside d start s (t.0, ms) → Lends d start (t.0, ms) r n e p → n ≡ (visit_of e (p, ms) r).0
        → (n ≡ (visit_of d s r).0) × Alongside d start (visit_of d s r).1 (visit_of e (p, ms) r).1
    moved ms m a c =
        subst (λ (l : List ℕ). Turn l e) m
        (subst (λ (z : Size). Turn s.1 (lent_by z e.slicing e.strengths e.qps e.t8s)) c.shape.size here) a c
