use Rattle.std.proofs.Common.{◌≡◌, ℕ, ◌+◌, ◌*◌, ◌%◌, cond, sym, ◌∙◌, arith, rules}
use Rattle.motion.specs.Lent.{grids_of}
use Rattle.strengths.specs.ByKind.{either_coded}
use Rattle.strengths.specs.declared.kinds.Asked.TheVariants.{Coded, Moving}
use Rattle.strengths.proofs.Edges.{four-by}
use Rattle.strengths.proofs.derive.derive_edge.Goals as goal

first : (j : ℕ) → 4 * j % 4 ≡ 0
first j = omega arith

pub returns-in-Same : goal.returns-in-Same
returns-in-Same c =
    let a = c.args in
    let p = a.blocks.place in
    let r = c.requires in
    c.fill_four.ensures (λ s. c.in-Same.v) (λ s n h q. search rules)
    ∙ four-by (grids_of a.g.now) p.w p.x p.y r.agree a.kind a.mode a.t (4 * a.j) (first a.j) (omega (arith, r.j_bound)) a.to a.strengths.now _ (sym c.ask.ensures ∙ c.in-Same.is)

pub returns-in-Coded : goal.returns-in-Coded
returns-in-Coded c =
    let a = c.args in
    let p = a.blocks.place in
    let r = c.requires in
    c.fill_four-in-Coded.ensures (λ s. cond (either_coded a.g.now.nnz.now p.w a.t p.x p.y (4 * a.j + s)) 2 0) (λ s n h q. search rules)
    ∙ four-by (grids_of a.g.now) p.w p.x p.y r.agree a.kind a.mode a.t (4 * a.j) (first a.j) (omega (arith, r.j_bound)) a.to a.strengths.now Coded (sym c.ask.ensures ∙ c.in-Coded.is)

pub returns-in-Moving : goal.returns-in-Moving
returns-in-Moving c =
    let a = c.args in
    let p = a.blocks.place in
    let r = c.requires in
    c.four_by_motion.ensures
    ∙ four-by (grids_of a.g.now) p.w p.x p.y r.agree a.kind a.mode a.t (4 * a.j) (first a.j) (omega (arith, r.j_bound)) a.to a.strengths.now Moving (sym c.ask.ensures ∙ c.in-Moving.is)
