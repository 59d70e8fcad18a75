-- An entry at a neighbour's number, where there is a neighbour. Assumes nothing.
use mathlib.Core.Path.{◌≡◌, refl}
use mathlib.Core.Bool.{Bool, true, false}
use Prim.Native.Nat.{ℕ}
use Rattle.std.proofs.Common.{List}
use Rattle.sizes.specs.Inner.{neighbour, is_at, is_before}

pub at-before : {X : Type 0} (p : X → Bool) (none : X) (there : Bool) (xs : List X) (i d : ℕ)
    → is_at p none xs (neighbour there i d) ≡ is_before p none there xs i d
at-before p none true xs i d = refl
at-before p none false xs i d = refl
