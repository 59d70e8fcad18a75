-- Texts compared: the kit's test of equality is `same_text`. Assumes nothing.
use Prim.Native.Nat.{ℕ}
use mathlib.Core.Path.{◌≡◌, refl, sym, ap, ◌∙◌}
use mathlib.Core.Bool.{Bool, true, false}
use mathlib.Core.List.{List, [], ◌∷◌}
use borrow.Author.Tests.{eq-eqb, eqb-true}
use lib.Dec.{eqb}
use Rattle.laws.proofs.Bools.{and-true}
use Rattle.y4m.specs.Text.{same_text}

pub same_self : (a : List ℕ) → same_text a a ≡ true
same_self [] = refl
same_self (x ∷ xs) = rw (eq-eqb x x refl) (same_self xs)

pub same-equal : (a b : List ℕ) → same_text a b ≡ true → a ≡ b
same-equal [] [] e = refl
same-equal [] (y ∷ ys) e = let z : false ≡ true = e in cc
same-equal (x ∷ xs) [] e = let z : false ≡ true = e in cc
same-equal (x ∷ xs) (y ∷ ys) e =
    let p = and-true (eqb x y) (same_text xs ys) e in
    let h = eqb-true x y p.0 in
    let t = same-equal xs ys p.1 in
    cc

-- a test that holds exactly where two texts are equal
pub by-same : (r : Bool) (a b : List ℕ) → (r ≡ true → a ≡ b) × (a ≡ b → r ≡ true) → r ≡ same_text a b
by-same true a b f = sym (ap (same_text a) (sym (f.0 refl)) ∙ same_self a)
by-same false a b f = go (same_text a b) refl
  where
    go : (s : Bool) → same_text a b ≡ s → false ≡ s
    go true e = f.1 (same-equal a b e)
    go false e = refl
