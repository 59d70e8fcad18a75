-- A caller that writes what belongs to a macroblock once, before it visits it, and not again, makes calls as
-- `late` asks of them: visits leave what it wrote. Assumes nothing.
use mathlib.Core.Path.{◌≡◌, sym, ap, subst, ◌∙◌}
use mathlib.Core.Logic.{◌⊎◌, inl, inr}
use mathlib.Core.List.{List}
use Prim.Native.Nat.{ℕ, suc, ◌+◌, ◌*◌, ◌<◌}
use native.Mathlib.Nat.{not-suc-le-zero, add-zero, zero-add}
use lib.ListN.{length}
use native.Mathlib.Decide.{ℕ_discrete}
use native.Mathlib.Omega.{arith}
use Rattle.laws.specs.Raster.{Marked}
use Rattle.edges.specs.Picture.{Planes}
use Rattle.sizes.specs.declared.Size.{Size}
use Rattle.pictures.specs.Checks.{Lent}
use Rattle.sizes.specs.declared.Part.TheVariants.{Frame}
use Rattle.visits.specs.Visit.{At, State}
use Rattle.visits.specs.Checks.{Fit}
use Rattle.visits.specs.Late.{SameAt, SamplesOf, of_request, CallsWith, last, call, Lends, LateCalls, Writes, ArrivalCalls}
use Rattle.visits.specs.Promise.{visit_of, unvisited, VisitOutcome}
use Rattle.visits.proofs.Late.{refused-here, done-here}
use Rattle.visits.proofs.LatePlaces.{none-marked, nowhere-same, same_after, same-less, same-either}
use Rattle.visits.proofs.LateTurn.{marked-before}
use Rattle.visits.proofs.LateUntouched.{mark-kept, unmarked-stay}
use Rattle.visits.proofs.Outcome.{outcome-is-visit}

module _ (d : Lent) (start : Planes) (when : ℕ → ℕ) where
  abbrev W : ℕ
  W = d.size.w

  -- before call k: what is marked has arrived, and what has arrived and is not marked is as it was written
  record Written (k : ℕ) (s : State Planes) : Type 0 where
    marked : (i : ℕ) → Marked s.1 i → when i < k
    samples : SameAt (SamplesOf W (λ i. (when i < k) × (Marked s.1 i → ⊥))) start s.0

  -- ---- one call
  module _ (k : ℕ) (s : State Planes) (w : Written k s) (r : At) (n : ℕ) (e : Lent) (p : Planes) (c : Writes d start when k s r n e p) where
    -- at the call so is what arrived just before it
    unmarked-before : SameAt (SamplesOf W (λ i. (when i < suc k) × (Marked s.1 i → ⊥))) start p
    unmarked-before = same-less (λ N j h. split _ h.0 h.1 (ℕ_discrete _ k)) (same-either c.new (same_after w.samples (same-less (λ N j h. h.0) c.older)))
      where
        split : (i : ℕ) → when i < suc k → (Marked s.1 i → ⊥) → Dec (when i ≡ k) → (when i ≡ k) ⊎ ((when i < k) × (Marked s.1 i → ⊥))
        split i h u (yes q) = inl q
        split i h u (no q) = inr (omega arith, u)

    module _ {t : State Planes} (o : VisitOutcome Frame e (p, s.1) r n t) where
      number : n ≡ (visit_of e (p, s.1) r).0
      number = (outcome-is-visit o).0

      -- a visit that is done was of an unmarked one
      own-unmarked : n ≡ 0 → Marked s.1 (of_request d r) → ⊥
      own-unmarked z =
          subst (λ (size : Size). Marked s.1 (r.1 * size.w + r.0) → ⊥) (sym c.shape.size) (done-here e (p, s.1) r (sym number ∙ z)).unvisited

      lends : Lends d start s r n e p
      lends = record {
        shape = c.shape;
        marked-samples = same-less (λ N j m. w.marked _ m) c.older;
        marked-near = λ i m. (c.there i (let l = w.marked i m in omega arith)).near;
        legal = c.legal;
        own-samples = λ z. same-less (λ N j q. subst (λ (i : ℕ). (when i < suc k) × (Marked s.1 i → ⊥)) (sym q) (let a = c.arrived z in omega arith, own-unmarked z)) unmarked-before;
        own-data = λ z. c.there (of_request d r) (c.arrived z);
      }

      -- ---- afterwards
      next-marked : (i : ℕ) → Marked (visit_of e (p, s.1) r).1.1 i → when i < suc k
      next-marked = go (ℕ_discrete (visit_of e (p, s.1) r).0 0)
        where
          old : (i : ℕ) → Marked s.1 i → when i < suc k
          old i m = let l = w.marked i m in omega arith

          go : Dec ((visit_of e (p, s.1) r).0 ≡ 0) → (i : ℕ) → Marked (visit_of e (p, s.1) r).1.1 i → when i < suc k
          go (no h) i m = old i (rw (refused-here e (p, s.1) r h) at m)
          go (yes z) i m = new-or-old (marked-before s.1 (of_request e r) i (rw (done-here e (p, s.1) r z).after at m))
            where
              new-or-old : (i ≡ of_request e r) ⊎ Marked s.1 i → when i < suc k
              new-or-old (inl q) =
                  let l = c.arrived (number ∙ z) in
                  let same = ap when (q ∙ sym (ap (λ (size : Size). r.1 * size.w + r.0) c.shape.size)) in
                  omega arith
              new-or-old (inr l) = old i l

      next-samples : SameAt (SamplesOf W (λ i. (when i < suc k) × (Marked (visit_of e (p, s.1) r).1.1 i → ⊥))) start (visit_of e (p, s.1) r).1.0
      next-samples =
          same_after (same-less (λ N j h. (h.0, λ m. h.1 (mark-kept e (p, s.1) r _ m))) unmarked-before)
          (same-less (λ N j h. h.1) (subst (λ (size : Size). SameAt (SamplesOf size.w (λ i. Marked (visit_of e (p, s.1) r).1.1 i → ⊥)) p (visit_of e (p, s.1) r).1.0) (sym c.shape.size) (unmarked-stay e (p, s.1) r)))

      next : Written (suc k) t
      next = rw (outcome-is-visit o).1 (record { marked = next-marked; samples = next-samples })

  -- ---- all calls
  arrivals-from : {k : ℕ} {s now : State Planes} {rs : List At} {said : List ℕ} → Written k s → CallsWith (Writes d start when) k s rs said now
      → CallsWith (λ j. Lends d start) k s rs said now × Written (k + length rs) now
  arrivals-from {k} {s} w last = (last, subst (λ (j : ℕ). Written j s) (sym (add-zero k)) w)
  arrivals-from {k} {s} {now} w (call {r = r} {n = n} {e = e} {p = p} {rs = rs} c o more) =
      let l = arrivals-from (next k s w r n e p c o) more in
      let j : suc k + length rs ≡ k + suc (length rs) = omega arith in
      (call (lends k s w r n e p c o) o l.0, subst (λ (i : ℕ). Written i now) j l.1)

  -- `first` is what the planes hold before anything has arrived
  module _ (first : Planes) (f : Fit d start) (g : Fit d first) {rs : List At} {said : List ℕ} {now : State Planes}
      (c : ArrivalCalls d start when (unvisited d first) rs said now) where
    from_nothing : LateCalls d start (unvisited d first) rs said now × Written (0 + length rs) now
    from_nothing =
        arrivals-from (record { marked = λ i m. absurd (none-marked (d.size.w * d.size.h) i m); samples = nowhere-same d f g (λ N j h. not-suc-le-zero h.0) }) c

    pub written_once : LateCalls d start (unvisited d first) rs said now
    written_once = from_nothing.0

    -- .. and so it makes those that follow
    pub written_on : {later : List At} {after : List ℕ} {end : State Planes} → CallsWith (Writes d start when) (length rs) now later after end
        → CallsWith (λ j. Lends d start) (length rs) now later after end
    written_on more = (arrivals-from (subst (λ (j : ℕ). Written j now) (zero-add (length rs)) from_nothing.1) more).0
