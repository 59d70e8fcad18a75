-- `macroblock`: with all strengths 0 nothing would change. Assumes nothing.
use Rattle.std.proofs.Common.{sym, ◌∙◌}
use Rattle.edges.specs.Laid.{layout_of}
use Rattle.edges.specs.Alike.{held_as}
use Rattle.edges.specs.Picture.{entries}
use Rattle.edges.proofs.Unchanged.{laid-still, all-zero}
use Rattle.edges.proofs.picture.macroblock.Goals as goal

pub returns-then-all_zero-clause-is : goal.returns-then-all_zero-clause-is
returns-then-all_zero-clause-is c =
    let a = c.args in
    let d = a.grids.now in
    sym (laid-still (held_as a.place.w (entries d.strengths.now) d.qps.now d.t8s.now a.settings.offsets a.settings.on) a.place.x a.place.y (all-zero _ (sym (rw c.address.ensures at c.all_zero.ensures) ∙ c.if-all_zero.true)) (layout_of a.part) _)
