use Rattle.std.proofs.Common.{◌≡◌, ℕ, Bool, ◌+◌, ◌*◌, ◌<◌}
use Rattle.laws.specs.Some.{some}
use Rattle.strengths.proofs.walks.some_of_four.Given as goal

abbrev pub invariant-loop-k : goal.invariant-loop-k
invariant-loop-k g l =
    (p : ℕ → Bool)
    → ((k : ℕ) (b : Bool) → k < 4 → goal.F-post g l.test (l.at + k * l.step) b → b ≡ p (l.at + k * l.step))
    → l.found ≡ some l.k (λ k. p (l.at + k * l.step))
