use Rattle.std.proofs.Common.{◌≡◌, ℕ, ◌<◌, get_or, length}
use Rattle.strengths.specs.Inner.{filled}
use Rattle.strengths.proofs.fours.fill_four.Given as goal

abbrev pub invariant-loop-s : goal.invariant-loop-s
invariant-loop-s g l =
    (length l.four ≡ 4)
    × ((f : ℕ → ℕ) → ((s n : ℕ) → s < 4 → goal.F-post g l.value s n → n ≡ f s) → (k : ℕ) → k < l.s → get_or l.four k 0 ≡ f k)

abbrev pub invariant-loop-k : goal.invariant-loop-k
invariant-loop-k g l =
    (f : ℕ → ℕ) → ((s : ℕ) → s < 4 → get_or l.four s 0 ≡ f s) → l.strengths ≡ filled l.k l.to f l.initial.strengths
