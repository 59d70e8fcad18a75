-- `moves_both::load_cols`: eight rows of both planes are loaded. Assumes nothing.
use Prim.Native.Nat.{◌+◌, ◌*◌, ◌<◌}
use mathlib.Core.Path.{refl, sym, ◌∙◌}
use native.Mathlib.Nat.{zero-add}
use native.Mathlib.Decide.{dec_lt}
use native.Mathlib.Omega.{arith}
use Rattle.laws.proofs.Loop.{up_to-end}
use Rattle.batches.specs.Moves.{empty_batch}
use Rattle.batches.proofs.MovedRows.{rows-in-turn}
use Rattle.batches.proofs.moves_both.load_cols.Goals as goal

pub returns : goal.returns
returns c =
    let a = c.args in
    up_to-end _ 8 _ _ c.loop-r.invariant.1 (omega arith) (omega arith)
    ∙ rows-in-turn (λ p. p < 64) (λ p. dec_lt p 64) 8 8 8 a.at a.stride 0 64 a.u.now a.v.now empty_batch (λ r. r * 8) (λ r. 64 + r * 8) (λ r. sym (zero-add (r * 8))) (λ r. refl)
    (λ r k h l. omega arith) (λ r k h l p. omega arith)
