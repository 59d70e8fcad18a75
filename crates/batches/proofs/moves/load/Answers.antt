-- `load`: h rows are loaded. Assumes nothing.
use mathlib.Core.Path.{◌∙◌}
use native.Mathlib.Omega.{arith}
use Rattle.laws.proofs.Loop.{up_to-end}
use Rattle.batches.specs.Moves.{empty_batch}
use Rattle.batches.proofs.MovedRows.{into-first}
use Rattle.batches.proofs.moves.load.Goals as goal

pub returns : goal.returns
returns g c =
    let a = c.args in
    up_to-end _ g.row.H _ _ c.loop-r.invariant.1 (omega arith) (omega arith) ∙ into-first g.row.H g.row.N g.row.N a.stride a.p.now empty_batch a.at
