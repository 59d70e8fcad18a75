use Rattle.std.proofs.Common.{sym, ◌∙◌}
use Rattle.laws.proofs.Bools.{or-false}
use Rattle.strengths.specs.Strength.{border, skipped}
use Rattle.strengths.proofs.Edges.{outer-there}
use Rattle.strengths.proofs.asks.ask.Goals as goal

-- an outer edge that is no border has a block across it
pub overflow_sub-both : goal.overflow_sub-both
overflow_sub-both c =
    let a = c.args in
    let p = a.blocks.place in
    let b = (or-false (border p.x p.y a.k) (skipped a.t8 a.k) (sym c.no_edge.ensures ∙ c.if-no_edge.false)).0 in
    rw (c.by_way.ensures, c.stride.ensures, c.origin-at.ensures) (outer-there p.w p.x p.y a.k c.if-k-ne0.false b)
