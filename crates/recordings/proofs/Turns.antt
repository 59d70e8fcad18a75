-- Turns of visits, and calls for whole pictures, as the definition has them, by what the calls say. Assumes
-- nothing.
use Prim.Native.Nat.{ℕ}
use mathlib.Core.Path.{◌≡◌, sym, ap, subst, ◌∙◌}
use mathlib.Core.Bool.{Bool, true, false}
use mathlib.Core.List.{List}
use Rattle.edges.specs.Picture.{Planes}
use Rattle.sizes.specs.declared.Part.{Part}
use Rattle.sizes.specs.declared.Part.TheVariants.{Field}
use Rattle.pictures.specs.Checks.{Lent}
use Rattle.pictures.specs.Rows.{WholeOutcome}
use Rattle.visits.specs.Promise.{visit_in, visit_of, VisitOutcome}
use Rattle.visits.specs.Visit.{At, State}
use Rattle.visits.proofs.Outcome.{outcome-is-visit}
use Rattle.recordings.specs.Orders.{Recording, first_part, WithMarks, turn_of, turn_in, visits_to, whole_of, wholes, filtered}
use Rattle.recordings.specs.Places.{column_at, row_at}
use Rattle.recordings.specs.Ways.{is_whole, visited_in, request_of, turns_of}
use Rattle.recordings.specs.declared.ways.Way.{Way}

-- ---- a visit
pub turn : (way : Way) (ahead : Bool) (part : Part) (d : Lent) (n t : ℕ) {s s' : State Planes} {i x y m : ℕ} → i ≡ visited_in way t ahead n
    → x ≡ column_at i d.size.w → y ≡ row_at i d.size.w → VisitOutcome part d s (x, y) m s' → s' ≡ turn_of way ahead part d n t s
turn way ahead part d n t {s} {s'} {i} {x} {y} p q r o =
    let w = d.size.w in
    let a : (x, y) ≡ request_of way ahead n w t = rw (q, r, p) in
    (outcome-is-visit o).1 ∙ ap (λ (at : At). (visit_in part d s at).1) a

-- ---- the call for a whole picture
pub whole : {part : Part} {d : Lent} {p p' : Planes} {k : ℕ} → WholeOutcome part d p k p' → p' ≡ whole_of part d p
whole o = rw (← o.says) o.leaves

-- ---- one picture or two
module _ (r : Recording) {part : Part} (e : part ≡ first_part r.two) where
  -- in a turn
  module _ (way : Way) (t : ℕ) (p : Planes) (m m₂ : List ℕ) {p' : Planes} {m' : List ℕ} (a : (p', m') ≡ turn_of way false part r.first r.n t (p, m)) where
    pub one-turn : r.two ≡ false → (p', m', m₂) ≡ turn_in way r t (p, m, m₂)
    unfolding turn_in
    one-turn h = rw (h, ← rw h at e, ← a)

    pub two-turns : {p'' : Planes} {m₂' : List ℕ} → r.two ≡ true → (p'', m₂') ≡ turn_of way true (Field 1) r.second r.n t (p', m₂)
        → (p'', m', m₂') ≡ turn_in way r t (p, m, m₂)
    unfolding turn_in
    two-turns h b = rw (h, ← rw h at e, ← a, ← b)

  -- as wholes
  module _ (p : Planes) {p' : Planes} (a : p' ≡ whole_of part r.first p) where
    first : {x : Part} → part ≡ x → p' ≡ whole_of x r.first p
    first q = subst (λ (y : Part). p' ≡ whole_of y r.first p) q a

    pub one-whole : r.two ≡ false → p' ≡ wholes r p
    unfolding wholes
    one-whole h = rw h (first (rw h at e))

    pub two-wholes : {p'' : Planes} → r.two ≡ true → p'' ≡ whole_of (Field 1) r.second p' → p'' ≡ wholes r p
    unfolding wholes
    two-wholes h b =
        rw h (b ∙ ap (whole_of (Field 1) r.second) (first (rw h at e)))

-- a frame has no second turn: its turn is a visit, and no more
pub turn-of-frame : (way : Way) (r : Recording) (t : ℕ) (s : WithMarks) → r.two ≡ false → turn_in way r t s
    ≡ (let v = (visit_of r.first (s.0, s.1) (request_of way false r.n r.first.size.w t)).1 in (v.0, v.1, s.2))
unfolding turn_in
turn-of-frame way r t s f = rw f

-- ---- what a way leads to, by the call that was made
module _ (way : Way) (r : Recording) {b : Bool} (e : b ≡ is_whole way) where
  pub by-wholes : (p : Planes) {p' : Planes} {m m₂ : List ℕ} → b ≡ true → p' ≡ wholes r p → (p', m, m₂) ≡ filtered way r (p, m, m₂)
  unfolding filtered
  by-wholes p {m = m} {m₂ = m₂} t h = rw (sym e ∙ t) (ap (λ (q : Planes). (q, m, m₂)) h)

  pub by-visits : (s : WithMarks) {t : WithMarks} → b ≡ false → t ≡ visits_to (turns_of r.n) way r s → t ≡ filtered way r s
  unfolding filtered
  by-visits s f h = rw (sym e ∙ f) h
