use Rattle.std.proofs.Common.{ℕ, ◌+◌, ◌*◌, Bool, Option, sym, ap, ◌∙◌}
use Rattle.laws.specs.Some.{some}
use Rattle.strengths.specs.Inner.{beside}
use Rattle.strengths.proofs.walks.some_beside.Goals as goal

pub returns-in-Some : goal.returns-in-Some
returns-in-Some g c =
    let a = c.args in
    λ p told.
    let f : ℕ → Bool = λ i. some 4 (λ k. p (i + k * a.step)) in
    c.some_of_four.ensures p (rw c.in-Some.is at told) ∙ sym (ap (λ (o : Option ℕ). beside o f) c.in-Some.is)
