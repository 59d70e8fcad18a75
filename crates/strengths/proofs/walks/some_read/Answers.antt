use Rattle.std.proofs.Common.{◌+◌, ◌*◌, ◌||◌, ltb, ltb-true, ◌∙◌}
use Rattle.laws.specs.Some.{some}
use Rattle.strengths.specs.Blocks.{origin, own_block, left_block, above_block, some_read}
use Rattle.strengths.specs.Inner.{beside}
use Rattle.strengths.specs.Reads.{own-block, left-block, above-block}
use Rattle.strengths.proofs.Neighbouring.{if-there, beside-there}
use Rattle.strengths.proofs.walks.some_read.Goals as goal

pub some_own-own-requires-clause-asked : goal.some_own-own-requires-clause-asked
some_own-own-requires-clause-asked g c =
    let a = c.args.blocks.place in
    rw c.own.ensures (λ r k h l. c.requires (own_block a.w a.x a.y r k) (own-block r k h l))

pub some_beside-left-requires-clause-asked : goal.some_beside-left-requires-clause-asked
some_beside-left-requires-clause-asked g c =
    let a = c.args.blocks.place in
    rw (c.left_block.ensures, c.stride.ensures)
    (if-there _ (ltb 0 a.x) (origin a.w a.x a.y) 1 (λ e k h. c.requires (left_block a.w a.x a.y k) (left-block (ltb-true 0 a.x e) k h)))

pub some_beside-above-requires-clause-asked : goal.some_beside-above-requires-clause-asked
some_beside-above-requires-clause-asked g c =
    let a = c.args.blocks.place in
    rw c.above_block.ensures
    (if-there _ (ltb 0 a.y) (origin a.w a.x a.y) (4 * a.w) (λ e k h. c.requires (above_block a.w a.x a.y k) (above-block (ltb-true 0 a.y e) k h)))

pub returns : goal.returns
unfolding some_read
returns g c =
    let a = c.args.blocks.place in
    let at = origin a.w a.x a.y in
    λ p told.
    let own = c.some_own-own.ensures p (rw c.own.ensures (λ r k b h l q. told (own_block a.w a.x a.y r k) b (own-block r k h l) q)) in
    let left =
    c.some_beside-left.ensures p
    (rw (c.left_block.ensures, c.stride.ensures)
    (if-there _ (ltb 0 a.x) at 1 (λ e k b h q. told (left_block a.w a.x a.y k) b (left-block (ltb-true 0 a.x e) k h) q)))
    in
    let above =
    c.some_beside-above.ensures p
    (rw c.above_block.ensures
    (if-there _ (ltb 0 a.y) at (4 * a.w) (λ e k b h q. told (above_block a.w a.x a.y k) b (above-block (ltb-true 0 a.y e) k h) q)))
    in
    (λ i. own i || left i || above i)
    ∙ (λ i.
    some 4 (λ r. some 4 (λ k. p ((c.own.ensures i).at + r * (c.own.ensures i).stride + k)))
    || beside (c.left_block.ensures i) (λ j. some 4 (λ k. p (j + k * c.stride.ensures i)))
    || beside (c.above_block.ensures i) (λ j. some 4 (λ k. p (j + k * 1))))
    ∙ (λ i.
    some 4 (λ r. some 4 (λ k. p (own_block a.w a.x a.y r k)))
    || beside-there (λ j. some 4 (λ k. p (j + k * (4 * a.w)))) (ltb 0 a.x) at 1 i
    || beside-there (λ j. some 4 (λ k. p (j + k * 1))) (ltb 0 a.y) at (4 * a.w) i)
