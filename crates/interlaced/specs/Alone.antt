-- Apart: no promise rests on it. A part of a state, and the requests to it among those to others: what shows
-- that the two fields do not see each other.
use Rattle.std.specs.Prelude.{ℕ, ◌≡◌, ◌≢◌, cond, List, [], ◌∷◌, eqb}
use Rattle.visits.specs.Visit.{At, State, Call}
use Rattle.interlaced.specs.Both.{Arrival}

-- the requests to q, as its own; the answers that they got
abbrev pub only : ℕ → List Arrival → List At
only q [] = []
only q (r ∷ rs) = cond (eqb r.0 q) (r.1 ∷ only q rs) (only q rs)

abbrev pub said_to : ℕ → List Arrival → List ℕ → List ℕ
said_to q [] ns = []
said_to q (r ∷ rs) [] = []
said_to q (r ∷ rs) (n ∷ ns) = cond (eqb r.0 q) (n ∷ said_to q rs ns) (said_to q rs ns)

-- a request to q does to its part what `alone` does; a request to another leaves the part
pub record Alone {U S : Type 0} (Valid : U → Type 0) (call : U → Arrival → ℕ × U) (q : ℕ) (part : U → State S) (alone : Call ℕ S) : Type 0 where
  pub keeps : (u : U) (r : Arrival) → Valid u → Valid (call u r).1
  pub says : (u : U) (r : At) → Valid u → (call u (q, r)).0 ≡ (alone (part u) r).0
  pub own : (u : U) (r : At) → Valid u → part (call u (q, r)).1 ≡ (alone (part u) r).1
  pub other : (u : U) (r : Arrival) → Valid u → r.0 ≢ q → part (call u r).1 ≡ part u
