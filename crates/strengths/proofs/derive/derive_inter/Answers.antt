use Rattle.std.proofs.Common.{◌∙◌, arith}
use Rattle.laws.proofs.Loop.{up_to-end}
use Rattle.motion.specs.Lent.{grids_of}
use Rattle.strengths.specs.ByKind.{strength_by}
use Rattle.strengths.proofs.Edges.{edges-flat}
use Rattle.strengths.proofs.derive.derive_inter.Goals as goal

pub returns : goal.returns
returns c =
    let a = c.args in
    let p = a.blocks.place in
    up_to-end _ 8 _ _ c.loop-j.invariant (omega arith) (omega arith)
    ∙ edges-flat (strength_by a.kind a.mode (grids_of a.g.now) p.w a.t p.x p.y) a.to a.strengths.now
