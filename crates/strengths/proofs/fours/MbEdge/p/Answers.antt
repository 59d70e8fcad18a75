use Rattle.strengths.proofs.Edges.{located}
use Rattle.strengths.proofs.fours.MbEdge.p.Goals as goal

pub overflow_sub-result : goal.overflow_sub-result
overflow_sub-result c =
    let e = c.args.self in
    let h = e.is_edge in
    (located e.blocks.place.w e.blocks.place.x e.blocks.place.y e.k c.args.s e.way h.first h.byte c.requires e.blocks.is_small.column h.is h.inside).there
