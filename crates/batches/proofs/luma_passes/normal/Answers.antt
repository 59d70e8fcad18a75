-- `normal`: what the lines are lent is the pass's. Assumes nothing.
use Rattle.std.proofs.Common.{rules}
use mathlib.Core.Path.{◌∙◌}
use native.Mathlib.Omega.{arith}
use Rattle.laws.proofs.Loop.{up_to-end}
use Rattle.lines.specs.Depth.{eight}
use Rattle.lines.specs.Inner.{cap_row}
use Rattle.batches.proofs.LanesPass.{long-weak, long-small}
use Rattle.batches.proofs.luma_passes.normal.Goals as goal

pub luma_capped-requires-clause-cap_bound : goal.luma_capped-requires-clause-cap_bound
luma_capped-requires-clause-cap_bound c =
    let a = c.args in
    long-small eight a.e.s a.e.by a.e.by.index (c.four_each-caps.ensures (cap_row eight a.e.by.index) (λ i x h p. search rules)) c.loop-k.k (omega arith)

pub returns : goal.returns
returns c =
    let a = c.args in
    up_to-end _ 16 _ _ c.loop-k.invariant.1 (omega arith) (omega arith) ∙ long-weak eight a.e.s a.e.by (c.four_each-caps.ensures (cap_row eight a.e.by.index) (λ i x h p. search rules)) a.t
