-- Calls made one after the other, as their contracts tell of them.
use Rattle.std.specs.Prelude.{ℕ, List, [], ◌∷◌}
use Rattle.visits.specs.Visit.{At, State, VisitOutcomeOf}

-- each call keeps the contract of a visit: from the first state by the requests to the answers, each of which
-- holds a number, and the last state
pub data Calls (W : ℕ) {A S : Type 0} (step : ℕ → S → S) (early : State S → At → ℕ) (number : A → ℕ) : State S → List At → List A → State S → Type 0 where
  none : {s : State S} → Calls W step early number s [] [] s
  more : {s t u : State S} {r : At} {rs : List At} {a : A} {said : List A}
      → VisitOutcomeOf W step early s r (number a) t → Calls W step early number t rs said u → Calls W step early number s (r ∷ rs) (a ∷ said) u
