-- Demand 3 for each field of a frame, whatever the other receives: it is demand 3 of the picture that the
-- field is. Assumes nothing.
use mathlib.Core.Path.{◌≡◌, refl, sym, ap, subst, ◌∙◌}
use mathlib.Core.Logic.{◌≢◌}
use mathlib.Core.Bool.{Bool, true, false, cond}
use mathlib.Core.List.{List, [], ◌∷◌}
use Prim.Native.Nat.{ℕ, ◌*◌, ◌<◌}
use native.Mathlib.Decide.{ℕ_discrete}
use lib.Dec.{eqb}
use lib.ListN.{length}
use Rattle.edges.specs.Fields.{Lengths, taken_out}
use Rattle.edges.specs.Picture.{Planes, step_of}
use Rattle.sizes.specs.declared.Part.TheVariants.{Field}
use Rattle.sizes.specs.declared.Size.{Size}
use Rattle.pictures.specs.Checks.{Lent, held_of}
use Rattle.visits.specs.AnyOrder.{AnyOrder}
use Rattle.visits.specs.Checks.{early_in, early_of}
use Rattle.visits.specs.Promise.{step_in, visit_of, unvisited}
use Rattle.visits.specs.Visit.{At, State, fresh, run, answers, itself}
use Rattle.visits.proofs.Demand3.{demand-3}
use Rattle.visits.proofs.Clauses.{refused-unchanged}
use Rattle.interlaced.specs.Alone.{only, said_to, Alone}
use Rattle.interlaced.specs.Both.{Arrival, OfField, Both, marks_for, stored_for, unvisited_both, lent_for, both_visit, both_after, FieldAnyOrder}
use Rattle.interlaced.proofs.Apart.{all_valid, own-run, own-answers}
use Rattle.interlaced.proofs.EachAlone.{early-lengths, refused-both, stored_same, FrameLengths, field_in, each-alone}
use Rattle.interlaced.proofs.OneField.{same-early}

pub marks-fresh : (size : Size) (start : Planes) (p : ℕ) → marks_for p (unvisited_both size start) ≡ fresh size.w size.h
marks-fresh size start p = go (eqb p 0)
  where
    go : (b : Bool) → cond b (fresh size.w size.h) (fresh size.w size.h) ≡ fresh size.w size.h
    go true = refl
    go false = refl

pub dec_lengths : (n : ℕ) (s : Planes) → Dec (Lengths n s)
dec_lengths n s = go (ℕ_discrete (length s.luma) (256 * n)) (ℕ_discrete (length s.u) (64 * n)) (ℕ_discrete (length s.v) (64 * n))
  where
    go : Dec (length s.luma ≡ 256 * n) → Dec (length s.u ≡ 64 * n) → Dec (length s.v ≡ 64 * n) → Dec (Lengths n s)
    go (yes a) (yes b) (yes c) = yes (record { luma = a; u = b; v = c })
    go (no a) b c = no (λ l. a l.luma)
    go (yes a) (no b) c = no (λ l. b l.u)
    go (yes a) (yes b) (no c) = no (λ l. c l.v)

module _ (size : Size) (top bottom : OfField) (wide : 0 < size.w) where
  abbrev call : Both → Arrival → ℕ × Both
  call = both_visit size top bottom

  abbrev d : ℕ → Lent
  d = lent_for size top bottom

  refused-request : (u : Both) (p : ℕ) (r : At) → (call u (p, r)).0 ≢ 0 → (call u (p, r)).1 ≡ u
  unfolding both_visit
  refused-request u p r h =
      ap (λ (s : State Planes). stored_for p s u) (refused-unchanged size.w (step_in (Field p) (d p)) (early_in (Field p) (d p)) (u.frame, marks_for p u) r h) ∙ stored_same p u

  module _ (start : Planes) (valid : Lengths (2 * (size.w * size.h)) start) (p : ℕ) (parity : p < 2) where
    abbrev alone : Alone (FrameLengths size top bottom wide) call p (field_in size top bottom wide p) (visit_of (d p))
    alone = each-alone size top bottom wide p parity

    begins : field_in size top bottom wide p (unvisited_both size start) ≡ unvisited (d p) (taken_out size p start)
    begins = λ i. (taken_out size p start, marks-fresh size start p i)

    -- the field after all requests is the picture after its own
    pub field-run : (rs : List Arrival) → field_in size top bottom wide p (both_after size top bottom start rs) ≡ run (visit_of (d p)) (only p rs) (unvisited (d p) (taken_out size p start))
    field-run rs = own-run alone rs (unvisited_both size start) valid ∙ ap (run (visit_of (d p)) (only p rs)) begins

    pub field-answers : (rs : List Arrival) → said_to p rs (answers call rs (unvisited_both size start)) ≡ answers (visit_of (d p)) (only p rs) (unvisited (d p) (taken_out size p start))
    field-answers rs = own-answers alone rs (unvisited_both size start) valid ∙ ap (answers (visit_of (d p)) (only p rs)) begins

    right : (rs : List Arrival) → FieldAnyOrder size top bottom p start (both_after size top bottom start rs)
    right rs = record {
      own-mark = λ x y z. ap (λ (s : State Planes). s.1) (alone.own u (x, y) v) ∙ a.own-mark x y (sym (alone.says u (x, y) v) ∙ z);
      refused = λ r h. refused-request u p r h;
      not-ready = λ x y e h. rw (alone.says u (x, y) v) (a.not-ready x y (sym (early (x, y)) ∙ e) h);
      done = λ x y e h k. alone.says u (x, y) v ∙ a.done x y (sym (early (x, y)) ∙ e) h k;
      planes = a.planes;
      some-ready = a.some-ready;
    }
      where
        u : Both
        u = both_after size top bottom start rs

        v : FrameLengths size top bottom wide u
        v = all_valid alone rs (unvisited_both size start) valid

        early : (r : At) → early_in (Field p) (d p) (u.frame, marks_for p u) r ≡ early_of (d p) (field_in size top bottom wide p u) r
        early r = same-early (d p) wide p parity (u.frame, marks_for p u) v r

        a : AnyOrder size.w size.h (step_of (held_of (d p))) (early_of (d p)) itself (visit_of (d p)) (taken_out size p start) (field_in size top bottom wide p u)
        a = subst (λ (s : State Planes). AnyOrder size.w size.h (step_of (held_of (d p))) (early_of (d p)) itself (visit_of (d p)) (taken_out size p start) s)
            (sym (field-run rs)) (demand-3 (d p) wide (taken_out size p start) (only p rs))

  -- with planes of wrong lengths every request is refused
  module _ (start : Planes) (wrong : Lengths (2 * (size.w * size.h)) start → ⊥) where
    refuses : (p : ℕ) (r : At) → early_in (Field p) (d p) (start, marks_for p (unvisited_both size start)) r ≢ 0
    refuses p r e = wrong (early-lengths (d p) p (start, marks_for p (unvisited_both size start)) r e)

    pub stays : (rs : List Arrival) → both_after size top bottom start rs ≡ unvisited_both size start
    stays [] = refl
    stays (r ∷ rs) = ap (run call rs) (ap (λ (o : ℕ × Both). o.1) (refused-both size top bottom (unvisited_both size start) r.0 r.1 (refuses r.0 r.1))) ∙ stays rs

    idle : (p : ℕ) → FieldAnyOrder size top bottom p start (unvisited_both size start)
    idle p = record {
      own-mark = λ x y z. absurd (refuses p (x, y) (sym (says (x, y)) ∙ z));
      refused = λ r h. refused-request (unvisited_both size start) p r h;
      not-ready = λ x y e h. absurd (refuses p (x, y) e);
      done = λ x y e h k. absurd (refuses p (x, y) e);
      planes = rw (marks-fresh size start p) (demand-3 (d p) wide (taken_out size p start) []).planes;
      some-ready = rw (marks-fresh size start p) (demand-3 (d p) wide (taken_out size p start) []).some-ready;
    }
      where
        says : (r : At) → (call (unvisited_both size start) (p, r)).0 ≡ early_in (Field p) (d p) (start, marks_for p (unvisited_both size start)) r
        says r = ap (λ (o : ℕ × Both). o.0) (refused-both size top bottom (unvisited_both size start) p r (refuses p r))

  -- both marks all 0, any list of requests to either field or to none, whatever the planes
  pub fields-demand-3 : (start : Planes) (rs : List Arrival) (p : ℕ) → p < 2 → FieldAnyOrder size top bottom p start (both_after size top bottom start rs)
  fields-demand-3 start rs p parity = go (dec_lengths (2 * (size.w * size.h)) start)
    where
      go : Dec (Lengths (2 * (size.w * size.h)) start) → FieldAnyOrder size top bottom p start (both_after size top bottom start rs)
      go (yes l) = right start l p parity rs
      go (no h) = subst (FieldAnyOrder size top bottom p start) (sym (stays start h rs)) (idle start h p)
