-- What is beside a macroblock, where there is a neighbour. Assumes nothing.
use mathlib.Core.Path.{◌≡◌, refl}
use mathlib.Core.Bool.{Bool, true, false, ◌&&◌}
use Prim.Native.Nat.{ℕ, ◌-◌}
use Rattle.std.specs.Prelude.{IfSome}
use Rattle.sizes.specs.Inner.{neighbour}
use Rattle.strengths.specs.Inner.{beside}

pub if-there : (P : ℕ → Type 0) (there : Bool) (i d : ℕ) → (there ≡ true → P (i - d)) → IfSome (neighbour there i d) P
if-there P true i d h = h refl
if-there P false i d h = tt

pub beside-there : (f : ℕ → Bool) (there : Bool) (i d : ℕ) → beside (neighbour there i d) f ≡ (there && f (i - d))
beside-there f true i d = refl
beside-there f false i d = refl
