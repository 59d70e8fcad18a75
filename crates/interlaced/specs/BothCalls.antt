-- Calls made one after the other to the two fields, as their contracts tell of them.
use Rattle.std.specs.Prelude.{ℕ, List, [], ◌∷◌}
use Rattle.edges.specs.Picture.{Planes}
use Rattle.sizes.specs.declared.Part.TheVariants.{Field}
use Rattle.sizes.specs.declared.Size.{Size}
use Rattle.visits.specs.Promise.{VisitOutcome}
use Rattle.visits.specs.Visit.{At, State}
use Rattle.interlaced.specs.Both.{Arrival, OfField, Both, marks_for, stored_for, lent_for}

-- each call keeps the contract of a visit of the field that its request names, and is lent that field's
-- marks: from the first state by the requests to the answers and the last state
pub data BothCalls (size : Size) (top bottom : OfField) : Both → List Arrival → List ℕ → Both → Type 0 where
  no_call : {u : Both} → BothCalls size top bottom u [] [] u
  one-call : {u v : Both} {p : ℕ} {r : At} {rs : List Arrival} {n : ℕ} {ns : List ℕ} {s : State Planes}
      → VisitOutcome (Field p) (lent_for size top bottom p) (u.frame, marks_for p u) r n s → BothCalls size top bottom (stored_for p s u) rs ns v
      → BothCalls size top bottom u ((p, r) ∷ rs) (n ∷ ns) v
