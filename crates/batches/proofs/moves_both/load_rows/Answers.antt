-- `moves_both::load_rows`: eight rows of both planes are loaded. Assumes nothing.
use Prim.Native.Nat.{◌+◌, ◌*◌, ◌%◌, ◌≤◌}
use mathlib.Core.Path.{refl, sym, ◌∙◌}
use native.Mathlib.Nat.{zero-add}
use native.Mathlib.Decide.{dec_le}
use native.Mathlib.Omega.{arith}
use Rattle.laws.proofs.Loop.{up_to-end}
use Rattle.batches.specs.Moves.{empty_batch}
use Rattle.batches.proofs.MovedRows.{rows-in-turn}
use Rattle.batches.proofs.moves_both.load_rows.Goals as goal

pub returns : goal.returns
returns c =
    let a = c.args in
    up_to-end _ 8 _ _ c.loop-r.invariant.1 (omega arith) (omega arith)
    ∙ rows-in-turn (λ p. 8 ≤ p % 16) (λ p. dec_le 8 (p % 16)) 8 8 16 a.at a.stride 8 0 a.v.now a.u.now empty_batch (λ r. 8 + r * 16) (λ r. r * 16) (λ r. refl) (λ r. sym (zero-add (r * 16)))
    (λ r k h l. omega arith) (λ r k h l p. omega arith)
