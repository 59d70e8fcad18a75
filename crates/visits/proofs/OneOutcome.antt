-- Each promise allows one outcome only. Assumes nothing.
use mathlib.Core.Path.{◌≡◌, sym, ◌∙◌}
use mathlib.Core.List.{List}
use Prim.Native.Nat.{ℕ}
use Rattle.edges.specs.Picture.{Planes}
use Rattle.sizes.specs.declared.Part.{Part}
use Rattle.visits.specs.Visit.{At, State}
use Rattle.pictures.specs.Checks.{Lent}
use Rattle.visits.specs.Promise.{VisitOutcome, ReplayOutcome}
use Rattle.visits.proofs.Outcome.{one-outcome}

pub one-visit : (part : Part) (d : Lent) {s t u : State Planes} {r : At} {n m : ℕ} → VisitOutcome part d s r n t → VisitOutcome part d s r m u → (n ≡ m) × (t ≡ u)
one-visit part d = one-outcome

pub one-replay : {part : Part} {d : Lent} {xs ys out a b : List ℕ} {s t u : State Planes} {n m : ℕ} → ReplayOutcome part d xs ys s out n t a → ReplayOutcome part d xs ys s out m u b
    → (n ≡ m) × (t ≡ u) × (a ≡ b)
one-replay p q = (p.says ∙ sym q.says, p.leaves ∙ sym q.leaves, p.writes ∙ sym q.writes)
