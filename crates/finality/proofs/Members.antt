-- The three answers of `made_final`: each is the answer about its macroblock. Assumes nothing.
use mathlib.Core.Path.{◌≡◌, sym, ◌∙◌}
use mathlib.Core.Bool.{Bool, true, false}
use mathlib.Core.List.{List}
use Prim.Native.Nat.{ℕ, ◌-◌, ◌*◌, ◌<◌}
use native.Mathlib.Omega.{arith}
use borrow.Author.Tests.{eq-eqb, ltb-true, lt-ltb}
use lib.Dec.{ltb}
use lib.ListN.{length}
use Rattle.laws.proofs.Bools.{true-false}
use Rattle.laws.specs.Refusal.{or_else}
use Rattle.laws.proofs.Refusal.{or-else-0}
use Rattle.sizes.specs.Sizes.{bad_size}
use Rattle.sizes.specs.declared.Size.{Size}
use Rattle.visits.specs.Beyond.{Bits}
use Rattle.finality.specs.declared.Finality.{Finality}
use Rattle.finality.specs.Final.{finality_of, if_there, finals_of, Final}
use Rattle.finality.proofs.Exactly.{never-refused, yes-exactly, yes-tells}

-- ---- numbers and answers of the three
there-yes : (t : Bool) (f : Finality) → (if_there t f).yes ≡ true → (t ≡ true) × (f.yes ≡ true)
there-yes true f e = (λ i. true, e)
there-yes false f e = absurd (true-false (sym e))

there-said : (t : Bool) {f : Finality} → t ≡ true → (f.number ≡ 0 → f.yes ≡ true) → (if_there t f).number ≡ 0 → (if_there t f).yes ≡ true
there-said true e said n = said n
there-said false e said n = absurd (true-false (sym e))

module _ (size : Size) (ms : List ℕ) (x y : ℕ) where
  -- ---- no question about a macroblock of the picture is refused, with marks as visits make them
  pub made-never-refused : bad_size size ≡ false → x < size.w → y < size.h → length ms ≡ size.w * size.h → Bits ms → (finals_of size ms x y).number ≡ 0
  unfolding finals_of
  made-never-refused s a b l m =
      rw (never-refused size ms x y s a b l m, before (ltb 0 x) (x - 1) y (omega arith) b, before (ltb 0 y) x (y - 1) a (omega arith))
    where
      before : (t : Bool) (c r : ℕ) → c < size.w → r < size.h → (if_there t (finality_of size ms c r)).number ≡ 0
      before true c r h k = never-refused size ms c r s h k l m
      before false c r h k = λ i. 0

  module _ (z : (finals_of size ms x y).number ≡ 0) where
    abbrev left : Finality
    left = if_there (ltb 0 x) (finality_of size ms (x - 1) y)

    abbrev upper : Finality
    upper = if_there (ltb 0 y) (finality_of size ms x (y - 1))

    numbers : ((finality_of size ms x y).number ≡ 0) × (left.number ≡ 0) × (upper.number ≡ 0)
    unfolding finals_of
    numbers =
        let a = or-else-0 (finality_of size ms x y).number (or_else left.number upper.number) z in
        let b = or-else-0 left.number upper.number a.1 in
        (a.0, b.0, b.1)

    -- ---- each member is the answer about its macroblock
    own_is : (finals_of size ms x y).own ≡ (finality_of size ms x y).yes
    unfolding finals_of
    own_is = rw (eq-eqb _ 0 z)

    left_is : (finals_of size ms x y).left ≡ left.yes
    unfolding finals_of
    left_is = rw (eq-eqb _ 0 z)

    upper_is : (finals_of size ms x y).upper ≡ upper.yes
    unfolding finals_of
    upper_is = rw (eq-eqb _ 0 z)

    pub own-tells : (finals_of size ms x y).own ≡ true → Final size ms x y
    own-tells e = (yes-tells size ms x y (sym own_is ∙ e)).1

    pub own-said : Final size ms x y → (finals_of size ms x y).own ≡ true
    own-said f = own_is ∙ (yes-exactly size ms x y numbers.0).1 f

    pub left-tells : (finals_of size ms x y).left ≡ true → (0 < x) × Final size ms (x - 1) y
    left-tells e = let k = there-yes (ltb 0 x) (finality_of size ms (x - 1) y) (sym left_is ∙ e) in (ltb-true 0 x k.0, (yes-tells size ms (x - 1) y k.1).1)

    pub left-said : 0 < x → Final size ms (x - 1) y → (finals_of size ms x y).left ≡ true
    left-said h f = left_is ∙ there-said (ltb 0 x) (lt-ltb 0 x h) (λ n. (yes-exactly size ms (x - 1) y n).1 f) numbers.1

    pub upper-tells : (finals_of size ms x y).upper ≡ true → (0 < y) × Final size ms x (y - 1)
    upper-tells e = let k = there-yes (ltb 0 y) (finality_of size ms x (y - 1)) (sym upper_is ∙ e) in (ltb-true 0 y k.0, (yes-tells size ms x (y - 1) k.1).1)

    pub upper-said : 0 < y → Final size ms x (y - 1) → (finals_of size ms x y).upper ≡ true
    upper-said h f = upper_is ∙ there-said (ltb 0 y) (lt-ltb 0 y h) (λ n. (yes-exactly size ms x (y - 1) n).1 f) numbers.2
