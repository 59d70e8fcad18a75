-- `normal`: what the lines are lent is the pass's. Assumes nothing.
use Rattle.std.proofs.Common.{rules}
use mathlib.Core.Path.{◌∙◌}
use native.Mathlib.Omega.{arith}
use Rattle.laws.proofs.Loop.{up_to-end}
use Rattle.lines.specs.Depth.{eight}
use Rattle.lines.specs.Inner.{cap_row}
use Rattle.batches.specs.Lines.{from_row}
use Rattle.batches.proofs.LanesPass.{short-weak, short-small}
use Rattle.batches.proofs.chroma_passes.normal.Goals as goal

pub chroma_capped-requires-clause-cap_bound : goal.chroma_capped-requires-clause-cap_bound
chroma_capped-requires-clause-cap_bound g c =
    let a = c.args in
    short-small eight a.e.s a.e.u a.e.v (from_row g.row.ROW) (c.two_each-caps.ensures (cap_row eight a.e.u.index) (cap_row eight a.e.v.index) (λ i x h p. search rules) (λ i x h p. search rules)) c.loop-k.k (omega arith)

pub returns : goal.returns
returns g c =
    let a = c.args in
    up_to-end _ 16 _ _ c.loop-k.invariant.1 (omega arith) (omega arith)
    ∙ short-weak eight a.e.s a.e.u a.e.v (from_row g.row.ROW) (c.two_each-caps.ensures (cap_row eight a.e.u.index) (cap_row eight a.e.v.index) (λ i x h p. search rules) (λ i x h p. search rules)) c.eight_each-al.ensures c.eight_each-be.ensures a.t
