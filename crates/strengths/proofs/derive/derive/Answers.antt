use Rattle.std.proofs.Common.{ℕ, ◌+◌, ◌*◌, sym, ap, ◌∙◌, set}
use Rattle.laws.proofs.Loop.{up_to-same}
use Rattle.motion.specs.Lent.{grids_of}
use Rattle.strengths.specs.Strength.{written}
use Rattle.strengths.proofs.Edges.{intra-edge}
use Rattle.strengths.proofs.derive.derive.Goals as goal

pub returns-then-is_intra : goal.returns-then-is_intra
unfolding written
returns-then-is_intra c =
    let a = c.args in
    let p = a.blocks.place in
    let r = c.requires in
    let i = sym c.is_intra.ensures ∙ c.if-is_intra.true in
    (rw c.address-to.ensures at c.derive_intra.ensures)
    ∙ up_to-same 32 _ _ a.strengths.now
    (λ k u h. ap (λ (n : ℕ). set u (32 * (p.y * p.w + p.x) + k) n) (intra-edge (grids_of a.g.now) p.w p.x p.y r.agree a.kind i r.kind_value a.mode a.t k))
