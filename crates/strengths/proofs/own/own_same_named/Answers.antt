use Rattle.std.proofs.Common.{◌+◌, ◌*◌, not, ap, ◌∙◌, rules}
use Rattle.laws.specs.Some.{every}
use Rattle.motion.specs.Grids.{blk_at}
use Rattle.motion.specs.Lent.{grids_of}
use Rattle.motion.specs.Motion.{same_motion}
use Rattle.strengths.proofs.OwnAlike.{no_own}
use Rattle.strengths.proofs.own.own_same_named.Goals as goal

pub returns : goal.returns
returns c =
    let a = c.args.square in
    let g = grids_of c.args.g.now in
    ap not (c.some_own.ensures (λ i. not (same_motion (blk_at g i) c.block-first.result)) (λ r k b h l q. search rules))
    ∙ no_own a.at a.stride (λ i. same_motion (blk_at g i) c.block-first.result)
    ∙ (λ i. every 4 (λ j. every 4 (λ k. same_motion (blk_at g (a.at + j * a.stride + k)) (c.block-first.ensures i))))
