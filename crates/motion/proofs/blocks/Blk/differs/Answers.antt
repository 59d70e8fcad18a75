use Rattle.std.proofs.Common.{◌≡◌, ◌&&◌, ◌||◌, ◌∙◌}
use Rattle.motion.proofs.Differ.{by-lists}
use Rattle.motion.proofs.blocks.Blk.differs.Goals as goal

pub returns : goal.returns
returns c =
    (λ i. (c.is_unlike.ensures i || c.is_unlike-2.ensures i) && (c.is_unlike-3.ensures i || c.is_unlike-4.ensures i))
    ∙ by-lists c.args.vertical c.args.self c.args.q
