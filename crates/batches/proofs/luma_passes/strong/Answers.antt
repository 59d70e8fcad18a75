-- `strong`: what the lines are lent is the pass's. Assumes nothing.
use Rattle.std.proofs.Common.{rules}
use mathlib.Core.Path.{◌∙◌}
use native.Mathlib.Omega.{arith}
use Rattle.laws.proofs.Loop.{up_to-end}
use Rattle.lines.specs.Depth.{eight}
use Rattle.batches.proofs.LanesPass.{long-strong}
use Rattle.batches.proofs.luma_passes.strong.Goals as goal

pub returns : goal.returns
returns c =
    let a = c.args in
    up_to-end _ 16 _ _ c.loop-k.invariant.1 (omega arith) (omega arith) ∙ long-strong eight a.e.s a.e.by c.strong_row-row.ensures (c.four_each-al.ensures _ (λ i x h p. search rules)) a.t
