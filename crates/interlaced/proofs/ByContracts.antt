-- Demand 3 of both fields, of calls known by their contracts alone and of what `replay_fields` leaves; and
-- that its promise allows one outcome only. Assumes nothing.
use mathlib.Core.Path.{◌≡◌, refl, sym, ap, subst, ◌∙◌}
use mathlib.Core.List.{List, [], ◌∷◌}
use Prim.Native.Nat.{ℕ, ◌*◌, ◌<◌}
use lib.ListN.{length, get_or}
use Rattle.laws.proofs.Cond.{cond_both}
use Rattle.edges.specs.Picture.{Planes}
use Rattle.sizes.specs.declared.Size.{Size}
use Rattle.visits.specs.Visit.{State, run, answers}
use Rattle.visits.proofs.Marks.{zeros-are-fresh}
use Rattle.visits.proofs.Outcome.{outcome-is-visit}
use Rattle.interlaced.specs.Both.{Arrival, OfField, Both, both, stored_for, unvisited_both, both_visit, FieldAnyOrder}
use Rattle.interlaced.specs.BothCalls.{BothCalls, no_call, one-call}
use Rattle.interlaced.specs.Promise.{arrivals, uneven_arrivals, FieldsOutcome}
use Rattle.interlaced.proofs.FieldsDemand3.{fields-demand-3}

pub both-calls-run : {size : Size} {top bottom : OfField} {u v : Both} {rs : List Arrival} {ns : List ℕ} → BothCalls size top bottom u rs ns v
    → (v ≡ run (both_visit size top bottom) rs u) × (ns ≡ answers (both_visit size top bottom) rs u)
unfolding both_visit
both-calls-run no_call = (refl, refl)
both-calls-run {size} {top} {bottom} {u} (one-call {p = p} {rs = rs} o c) =
    let k = both-calls-run c in
    let e = outcome-is-visit o in
    let t = ap (λ (s : State Planes). stored_for p s u) e.1 in
    (k.0 ∙ ap (run (both_visit size top bottom) rs) t, λ i. e.0 i ∷ (k.1 ∙ ap (answers (both_visit size top bottom) rs) t) i)

module _ (size : Size) (top bottom : OfField) (wide : 0 < size.w) where
  -- of any calls that keep the contract of a visit of a field, from marks all 0: where they lead, and the
  -- numbers that they answered
  pub fields-of-calls : {start : Planes} {rs : List Arrival} {ns : List ℕ} {now : Both} → BothCalls size top bottom (unvisited_both size start) rs ns now
      → ((p : ℕ) → p < 2 → FieldAnyOrder size top bottom p start now) × (ns ≡ answers (both_visit size top bottom) rs (unvisited_both size start))
  fields-of-calls {start} {rs} c =
      let k = both-calls-run c in
      (λ p h. subst (FieldAnyOrder size top bottom p start) (sym k.0) (fields-demand-3 size top bottom wide start rs p h), k.1)

  -- .. and of what `replay_fields` leaves, where the marks that it is lent are all 0
  pub fields-of-replay : {start : Planes} {ms ns ps xs ys out out' : List ℕ} {n : ℕ} {now : Both} → length ms ≡ size.w * size.h → length ns ≡ size.w * size.h
      → ((i : ℕ) → i < size.w * size.h → (get_or ms i 0 ≡ 0) × (get_or ns i 0 ≡ 0)) → FieldsOutcome size top bottom ps xs ys (both start ms ns) out n now out'
      → (p : ℕ) → p < 2 → FieldAnyOrder size top bottom p start now
  fields-of-replay {start} {ms} {ns} {ps} {xs} {ys} {out} lm ln zeros r p h =
      rw (r.leaves, zeros-are-fresh size.w size.h ms lm (λ i k. (zeros i k).0), zeros-are-fresh size.w size.h ns ln (λ i k. (zeros i k).1))
      (cond_both (FieldAnyOrder size top bottom p start) (uneven_arrivals ps xs ys out) (fields-demand-3 size top bottom wide start [] p h)
      (fields-demand-3 size top bottom wide start (arrivals ps xs ys) p h))

pub one-fields-replay : {size : Size} {top bottom : OfField} {ps xs ys out a b : List ℕ} {u v w : Both} {n m : ℕ} → FieldsOutcome size top bottom ps xs ys u out n v a
    → FieldsOutcome size top bottom ps xs ys u out m w b → (n ≡ m) × (v ≡ w) × (a ≡ b)
one-fields-replay p q = (p.says ∙ sym q.says, p.leaves ∙ sym q.leaves, p.writes ∙ sym q.writes)
