use Rattle.std.proofs.Common.{[], ◌∙◌}
use Rattle.motion.specs.Grids.{motion_at}
use Rattle.motion.specs.Inner.{lone_strength}
use Rattle.motion.specs.Pictures.{named_by}
use Rattle.strengths.proofs.fours.MbEdge.by_one_list.Goals as goal

pub returns : goal.returns
unfolding named_by
returns c =
    let l = c.args.list.now in
    c.bs_lone.ensures
    ∙ (λ i. lone_strength c.args.limit (c.is_coded.ensures i)
    (motion_at [] l.references.now l.vectors.now (c.p.ensures.is i))
    (motion_at [] l.references.now l.vectors.now (c.q.ensures.is i)))
