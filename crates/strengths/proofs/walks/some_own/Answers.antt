use Rattle.std.proofs.Common.{ℕ, ◌+◌, ◌*◌, ◌||◌, sym, refl, ap, ◌∙◌, arith}
use mathlib.Core.Bool.{or-false}
use Rattle.laws.specs.Some.{some}
use Rattle.laws.proofs.Some.{some-none, some_more, some_end}
use Rattle.strengths.proofs.ReadPlaces.{some-within}
use Rattle.strengths.proofs.walks.some_own.Goals as goal

pub loop-r-init : goal.loop-r-init
loop-r-init g c = let a = c.args.square in λ p told. some-none (λ r. some 4 (λ k. p (a.at + r * a.stride + k)))

pub loop-c-init : goal.loop-c-init
unfolding some
loop-c-init g c = λ p told. c.loop-r.invariant p told ∙ sym (or-false _)

pub loop-c-preserved : goal.loop-c-preserved
loop-c-preserved g c =
    let a = c.args.square in
    λ p told. some-within (some c.loop-r.r (λ r. some 4 (λ k. p (a.at + r * a.stride + k)))) c.loop-c.c (λ k. p (a.at + c.loop-r.r * a.stride + k)) (c.loop-c.invariant p told)
    (told c.loop-r.r c.loop-c.c c.test-found.result (omega arith) (omega arith) (rw c.entry_at.ensures at c.test-found.ensures))

pub loop-r-preserved : goal.loop-r-preserved
loop-r-preserved g c =
    let a = c.args.square in
    λ p told. some_more c.loop-r.r (λ r. some 4 (λ k. p (a.at + r * a.stride + k))) refl
    (c.loop-c.invariant p told
    ∙ ap (λ (n : ℕ). some c.loop-r.r (λ r. some 4 (λ k. p (a.at + r * a.stride + k))) || some n (λ k. p (a.at + c.loop-r.r * a.stride + k))) (omega arith))

pub returns : goal.returns
returns g c =
    let a = c.args.square in
    λ p told. some_end c.loop-r.r 4 (λ r. some 4 (λ k. p (a.at + r * a.stride + k))) (c.loop-r.invariant p told) (omega arith) (omega arith)
