-- Where an edge is no border of the picture, there is a block across it. Assumes nothing.
use mathlib.Core.Path.{◌≡◌}
use mathlib.Core.Bool.{Bool, true, false, cond, ◌&&◌, ◌||◌}
use mathlib.Core.Logic.{⊎_elim}
use Prim.Native.Nat.{ℕ, zero, suc, ◌+◌, ◌*◌, ◌≤◌, ◌<◌}
use native.Mathlib.Omega.{arith}
use lib.Dec.{eqb}
use Rattle.laws.proofs.Grid.{row-pos}
use Rattle.laws.proofs.Ints.{le-or-lt}
use Rattle.strengths.specs.Blocks.{own_block}
use Rattle.strengths.specs.Strength.{vertical, edge, segment, q_block, border, skipped}
use Rattle.laws.proofs.Bools.{or-false, true-false}

not-both : (a b : ℕ) → (eqb a 0 && eqb b 0) ≡ false → 0 < a + b
not-both zero zero e = absurd (true-false e)
not-both zero (suc b) e = omega arith
not-both (suc a) b e = omega arith

-- e rows down from row 4 * y there is a row above, unless both are 0
rows : (w x y e s : ℕ) → 0 < e + y → 4 * w ≤ own_block w x y e s
rows w x y e s h = ⊎_elim (λ l. omega (arith, row-pos e (4 * w) l)) (λ l. omega (arith, row-pos y w (omega arith))) (le-or-lt 1 e)

pub across-fits : (w x y k : ℕ) (t8 : Bool) → (border x y k || skipped t8 k) ≡ false → cond (vertical k) 1 (4 * w) ≤ q_block w x y k
across-fits w x y k t8 e = go (vertical k) (or-false (border x y k) (skipped t8 k) e).0
  where
    go : (b : Bool) → (eqb (edge k) 0 && eqb (cond b x y) 0) ≡ false
        → cond b 1 (4 * w) ≤ own_block w x y (cond b (segment k) (edge k)) (cond b (edge k) (segment k))
    go true f = omega (arith, not-both (edge k) x f)
    go false f = rows w x y (edge k) (segment k) (not-both (edge k) y f)
