-- `filter_unless_idle`: with all strengths 0 nothing would change. Assumes nothing.
use Rattle.std.proofs.Common.{sym, ◌∙◌}
use Rattle.edges.specs.Laid.{layout_of}
use Rattle.edges.proofs.Unchanged.{laid-still, all-zero}
use Rattle.pictures.specs.Checks.{held_of}
use Rattle.pictures.specs.Inner.{given_wide}
use Rattle.pictures.proofs.macroblocks.filter_unless_idle.Goals as goal

pub returns-then-all_zero-clause-is : goal.returns-then-all_zero-clause-is
returns-then-all_zero-clause-is c =
    let a = c.args in
    sym (laid-still (held_of (given_wide a.place.w a.lent.now)) a.place.x a.place.y (all-zero _ (sym (rw c.requires.strengths at (rw c.address.ensures at c.all_zero.ensures)) ∙ c.if-all_zero.true)) (layout_of a.part) _)
