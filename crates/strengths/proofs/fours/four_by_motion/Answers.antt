use Rattle.std.proofs.Common.{◌≡◌, ℕ, ◌+◌, length, sym, set, ap, ◌∙◌, rules}
use borrow.Author.Tests.{eqb-true}
use Rattle.laws.proofs.Bools.{and-true, not-not}
use Rattle.laws.proofs.Loop.{up_to-same}
use Rattle.motion.proofs.Lone.{lone_is}
use Rattle.strengths.specs.ByKind.{either_coded}
use Rattle.strengths.specs.Edges.{lone_by}
use Rattle.strengths.specs.Strength.{p_block, q_block}
use Rattle.strengths.proofs.fours.four_by_motion.Goals as goal

pub returns-then-two_lists-table0 : goal.returns-then-two_lists-table0
returns-then-two_lists-table0 c =
    let a = c.args in
    let e = a.edge in
    let p = e.blocks.place in
    let g = a.g.now in
    let b = and-true _ _ c.if-two_lists-table0.true in
    let r : length g.list1.references.now ≡ 0 = eqb-true _ _ (sym c.is_empty-two_lists.ensures ∙ sym (not-not _) ∙ b.0) in
    let t : length g.list0.pictures.now ≡ 0 = eqb-true _ _ (sym c.is_empty-table0.ensures ∙ sym (not-not _) ∙ b.1) in
    c.fill_four.ensures (λ s. lone_by a.limit g.nnz.now g.list0.references.now g.list0.vectors.now p.w e.t p.x p.y (e.k + s)) (λ s n h q. search rules)
    ∙ up_to-same 4 _ _ a.strengths.now (λ s u h. ap (λ (n : ℕ). set u (a.to + s) n)
    (lone_is a.limit (either_coded g.nnz.now p.w e.t p.x p.y (e.k + s)) g.inter.now g.list0.references.now g.list0.vectors.now g.list1.references.now g.list1.vectors.now g.list0.pictures.now g.list1.pictures.now
    (p_block p.w p.x p.y (e.k + s)) (q_block p.w p.x p.y (e.k + s)) r t))
