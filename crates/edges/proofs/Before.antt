-- The number of a neighbour, or of the macroblock itself where there is none, is the definition's. Assumes
-- nothing.
use mathlib.Core.Path.{◌≡◌, refl}
use mathlib.Core.Bool.{Bool, true, false}
use Prim.Native.Nat.{ℕ}
use Rattle.std.proofs.Common.{unwrap_or}
use Rattle.sizes.specs.Inner.{neighbour}
use Rattle.edges.specs.Picture.{before_of}

pub or-own : (there : Bool) (i d : ℕ) → unwrap_or (neighbour there i d) i ≡ before_of there i d
or-own true i d = refl
or-own false i d = refl
