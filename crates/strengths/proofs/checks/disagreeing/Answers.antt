use Rattle.std.proofs.Common.{◌+◌, ◌-◌, ◌*◌, ◌||◌, ltb, ◌∙◌, rules}
use Rattle.laws.specs.Some.{some}
use Rattle.strengths.specs.Blocks.{origin, own_block}
use Rattle.strengths.specs.Checks.{differs, disagree}
use Rattle.strengths.specs.Inner.{beside}
use Rattle.strengths.proofs.Neighbouring.{if-there, beside-there}
use Rattle.strengths.proofs.checks.disagreeing.Goals as goal

pub some_beside-above-requires-clause-asked : goal.some_beside-above-requires-clause-asked
some_beside-above-requires-clause-asked c =
    let a = c.args.blocks.place in
    rw c.above_block.ensures (if-there _ (ltb 0 a.y) (origin a.w a.x a.y) (4 * a.w) (λ e k h. search rules))

pub returns : goal.returns
unfolding disagree
returns c =
    let a = c.args.blocks.place in
    let f = c.args.inter.now in
    let at = c.origin-at.ensures in
    let stride = c.stride-stride.ensures in
    let o = origin a.w a.x a.y in
    let own = c.some_own-own.ensures (λ j. differs f j c.origin-at.result) (λ r k b h l q. search rules) in
    let left =
    c.some_beside-left.ensures (λ j. differs f j (c.origin-at.result - 1))
    (rw c.left_block.ensures (if-there _ (ltb 0 a.x) o 1 (λ e k b h q. search rules)))
    in
    let above =
    c.some_beside-above.ensures (λ j. differs f j (c.origin-at.result - c.stride-stride.result))
    (rw c.above_block.ensures (if-there _ (ltb 0 a.y) o (4 * a.w) (λ e k b h q. search rules)))
    in
    (λ i. own i || left i || above i)
    ∙ (λ i.
    some 4 (λ r. some 4 (λ k. differs f ((c.own.ensures i).at + r * (c.own.ensures i).stride + k) (at i)))
    || beside (c.left_block.ensures i) (λ j. some 4 (λ k. differs f (j + k * stride i) (at i - 1)))
    || beside (c.above_block.ensures i) (λ j. some 4 (λ k. differs f (j + k * 1) (at i - stride i))))
    ∙ (λ i.
    some 4 (λ r. some 4 (λ k. differs f (own_block a.w a.x a.y r k) o))
    || beside-there (λ j. some 4 (λ k. differs f (j + k * (4 * a.w)) (o - 1))) (ltb 0 a.x) o 1 i
    || beside-there (λ j. some 4 (λ k. differs f (j + k * 1) (o - 4 * a.w))) (ltb 0 a.y) o (4 * a.w) i)
