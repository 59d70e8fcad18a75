-- `strong`: what the lines are lent is the pass's. Assumes nothing.
use Rattle.std.proofs.Common.{rules}
use mathlib.Core.Path.{◌∙◌}
use native.Mathlib.Omega.{arith}
use Rattle.laws.proofs.Loop.{up_to-end}
use Rattle.lines.specs.Depth.{eight}
use Rattle.batches.specs.Lines.{from_row}
use Rattle.batches.proofs.LanesPass.{short-strong}
use Rattle.batches.proofs.chroma_passes.strong.Goals as goal

pub returns : goal.returns
returns g c =
    let a = c.args in
    up_to-end _ 16 _ _ c.loop-k.invariant.1 (omega arith) (omega arith)
    ∙ short-strong eight a.e.s a.e.u a.e.v (from_row g.row.ROW) c.strong_row-u.ensures c.strong_row-v.ensures (c.two_each-al.ensures _ _ (λ i x h p. search rules) (λ i x h p. search rules)) c.eight_each-be.ensures a.t
