-- Where rows a to b begin and end, in macroblocks. Assumes nothing.
use mathlib.Core.Bool.{Bool, true, false, cond, ◌&&◌}
use Prim.Native.Nat.{ℕ, ◌-◌, ◌*◌, ◌≤◌}
use native.Mathlib.Nat.{mul-le-mul_right}
use native.Mathlib.Omega.{arith}
use lib.Dec.{ltb}
use Rattle.pictures.specs.Rows.{qps_from}

pub first-le : (w a b : ℕ) → a ≤ b → a * w ≤ b * w
first-le w a b h = mul-le-mul_right w h

pub from_le : (w a b : ℕ) → a ≤ b → qps_from w a b ≤ b * w
from_le w a b h = go (ltb 0 a && ltb a b)
  where
    go : (t : Bool) → cond t (a * w - w) (a * w) ≤ b * w
    go true = let k = first-le w a b h in omega arith
    go false = first-le w a b h
