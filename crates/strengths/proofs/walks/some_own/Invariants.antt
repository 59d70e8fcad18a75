use Rattle.std.proofs.Common.{◌≡◌, ℕ, Bool, ◌+◌, ◌*◌, ◌<◌, ◌||◌}
use Rattle.laws.specs.Some.{some}
use Rattle.strengths.proofs.walks.some_own.Given as goal

abbrev pub invariant-loop-r : goal.invariant-loop-r
invariant-loop-r g l =
    (p : ℕ → Bool)
    → ((r c : ℕ) (b : Bool) → r < 4 → c < 4 → goal.F-post g l.test (l.square.at + r * l.square.stride + c) b → b ≡ p (l.square.at + r * l.square.stride + c))
    → l.found ≡ some l.r (λ r. some 4 (λ c. p (l.square.at + r * l.square.stride + c)))

abbrev pub invariant-loop-c : goal.invariant-loop-c
invariant-loop-c g l =
    (p : ℕ → Bool)
    → ((r c : ℕ) (b : Bool) → r < 4 → c < 4 → goal.F-post g l.test (l.square.at + r * l.square.stride + c) b → b ≡ p (l.square.at + r * l.square.stride + c))
    → l.found
    ≡ (some l.r (λ r. some 4 (λ c. p (l.square.at + r * l.square.stride + c))) || some l.c (λ c. p (l.square.at + l.r * l.square.stride + c)))
