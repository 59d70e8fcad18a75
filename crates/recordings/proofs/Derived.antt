-- A turn of `derive` is the turn of the definition, Assumes nothing.
use Prim.Native.Nat.{ℕ}
use mathlib.Core.Path.{◌≡◌, refl, sym}
use mathlib.Core.Bool.{Bool}
use mathlib.Core.List.{List}
use lib.Dec.{eqb}
use borrow.Author.Tests.{ne_eqb}
use Rattle.std.specs.Prelude.{Result, Ok, Err, is_ok}
use lib.ListN.{length}
use Rattle.refusals.proofs.Codes.{code-positive}
use Rattle.refusals.specs.Refusals.{code_of, number_of}
use Rattle.refusals.specs.declared.Refusal.{Refusal}
use Rattle.sizes.specs.declared.Size.{Size}
use Rattle.motion.specs.Grids.{Grids}
use Rattle.strengths.specs.Calls.{PlainOutcome}
use Rattle.recordings.specs.Grids.{served_at, derived_at}
use Rattle.recordings.specs.Places.{column_at, row_at}

-- an answer that is Ok has number 0, and no other has
pub ok-by-number : (r : Result Unit Refusal) → is_ok r ≡ eqb (number_of r) 0
ok-by-number (Ok u) = refl
ok-by-number (Err e) = sym (ne_eqb (code_of e) 0 (code-positive e))

module _ (size : Size) (field : Bool) (g : Grids) (t8s : List ℕ) where
  pub turn : (i k : ℕ) {x y m : ℕ} {s s' : List ℕ} → length s ≡ k → x ≡ column_at i size.w → y ≡ row_at i size.w
      → PlainOutcome size field x y t8s g s m s' → (eqb m 0 ≡ served_at size t8s g k i) × (s' ≡ derived_at size field g t8s i s)
  turn i k h p q o = (rw (o.says, p, q, h), rw (o.says, p, q) at o.leaves)
