use Rattle.std.proofs.Common.{not, ◌&&◌, ◌||◌, ◌∙◌}
use Rattle.motion.proofs.Differ.{by-list}
use Rattle.motion.proofs.blocks.Motion.is_unlike.Goals as goal

pub returns : goal.returns
returns c =
    (λ i. (c.is_used.ensures i || c.is_used-2.ensures i) && not (c.is_mate.ensures i))
    ∙ by-list c.args.vertical c.args.self c.args.other
