-- `store`: h rows are stored. Assumes nothing.
use mathlib.Core.Path.{◌∙◌}
use native.Mathlib.Omega.{arith}
use Rattle.laws.proofs.Loop.{up_to-end}
use Rattle.batches.proofs.MovedRows.{out-of-first}
use Rattle.batches.proofs.moves.store.Goals as goal

pub returns : goal.returns
returns g c =
    let a = c.args in
    up_to-end _ g.row.H _ _ c.loop-r.invariant (omega arith) (omega arith) ∙ out-of-first g.row.H g.row.N a.stride g.row.N a.t a.p.now a.at
