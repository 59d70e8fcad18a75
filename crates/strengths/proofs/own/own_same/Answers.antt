use Rattle.std.proofs.Common.{sym, ◌∙◌}
use Rattle.motion.specs.Lent.{grids_of}
use Rattle.strengths.proofs.OwnAlike.{one-motion}
use Rattle.strengths.proofs.own.own_same.Goals as goal

pub returns-then-own_alike : goal.returns-then-own_alike
returns-then-own_alike c =
    let a = c.args.square in
    c.if-own_alike.true ∙ sym (one-motion (grids_of c.args.g.now) a.at a.stride (sym c.own_alike.ensures ∙ c.if-own_alike.true))
