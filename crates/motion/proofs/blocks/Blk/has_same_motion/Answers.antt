use Rattle.std.proofs.Common.{◌&&◌, ◌∙◌}
use Rattle.motion.specs.Motion.{same_motion}
use Rattle.motion.proofs.Laws.{derived_equal}
use Rattle.motion.proofs.blocks.Blk.has_same_motion.Goals as goal

pub returns : goal.returns
unfolding same_motion
returns c =
    let p = c.args.self in
    let q = c.args.q in
    (λ i. c.eq.ensures i && c.eq-2.ensures i) ∙ (λ i. derived_equal p.list0 q.list0 i && derived_equal p.list1 q.list1 i)
