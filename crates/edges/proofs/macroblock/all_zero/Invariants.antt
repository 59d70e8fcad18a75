-- `all_zero`: after a turn all strengths up to it were looked at. Assumes nothing.
use Prim.Native.Nat.{ℕ}
use mathlib.Core.Path.{◌≡◌}
use mathlib.Core.Bool.{Bool, true, ◌&&◌}
use lib.Dec.{eqb}
use Rattle.laws.specs.Loop.{up_to}
use Rattle.edges.specs.Macroblock.{after}
use Rattle.edges.specs.Picture.{entries}
use Rattle.edges.proofs.macroblock.all_zero.Given as goal

abbrev pub invariant-loop-s : goal.invariant-loop-s
invariant-loop-s l = l.all ≡ up_to l.s-index (λ (j : ℕ) (b : Bool). b && eqb (after l.base (entries l.strengths) j) 0) true
