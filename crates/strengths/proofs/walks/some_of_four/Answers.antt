use Rattle.std.proofs.Common.{◌+◌, ◌*◌, ◌||◌, arith}
use Rattle.laws.proofs.Some.{some-none, some_more, some_end}
use Rattle.strengths.proofs.walks.some_of_four.Goals as goal

pub loop-k-init : goal.loop-k-init
loop-k-init g c = λ p told. some-none (λ k. p (c.args.at + k * c.args.step))

pub loop-k-preserved : goal.loop-k-preserved
loop-k-preserved g c =
    λ p told. some_more c.loop-k.k (λ k. p (c.args.at + k * c.args.step)) (c.loop-k.invariant p told)
    (λ i. c.loop-k.found || told c.loop-k.k c.test-found.result (omega arith) c.test-found.ensures i)

pub returns : goal.returns
returns g c =
    λ p told. some_end c.loop-k.k 4 (λ k. p (c.args.at + k * c.args.step)) (c.loop-k.invariant p told) (omega arith) (omega arith)
