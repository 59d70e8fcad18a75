-- `of_edge`: the index of the definition lies in the tables. Assumes nothing.
use mathlib.Core.Path.{sym, subst}
use Prim.Native.Nat.{◌<◌}
use Rattle.lines.specs.Depth.{eight}
use Rattle.batches.specs.declared.lanes.Thresholds.{Thresholds}
use Rattle.edges.proofs.RulesByThresholds.{index_in}
use Rattle.edges.proofs.edge.of_edge.Goals as goal

pub returns-clause-within : goal.returns-clause-within
returns-clause-within c =
    subst (λ (t : Thresholds). t.index < 52) (sym (rw c.thresholds.ensures at c.from.ensures)) (index_in eight (record { qp = _; a = _; b = _ }))
