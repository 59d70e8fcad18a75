-- Parts of a text that is put together: what is free of a byte is one part. Assumes nothing.
use Prim.Native.Nat.{ℕ, ◌<◌}
use mathlib.Core.Path.{◌≡◌, refl, ap}
use mathlib.Core.Bool.{Bool, true, not}
use mathlib.Core.List.{List, [], ◌∷◌, ◌++◌}
use borrow.Author.Tests.{eq-eqb, ne_eqb, leb-true, not-true}
use native.Mathlib.Omega.{arith}
use lib.Dec.{eqb, leb}
use Rattle.laws.proofs.Bools.{and-true}
use Rattle.y4m.specs.Text.{parts, on_first, all, is_digit}

-- b does not stand in a text
abbrev pub free : ℕ → List ℕ → Bool
free b l = all (λ x. not (eqb x b)) l

-- it ends at the first b
pub parts_cut : (b : ℕ) (a c : List ℕ) → free b a ≡ true → parts b (a ++ b ∷ c) ≡ a ∷ parts b c
parts_cut b [] c e = rw (eq-eqb b b refl)
parts_cut b (x ∷ xs) c e =
    let t = and-true (not (eqb x b)) (free b xs) e in
    rw (not-true (eqb x b) t.0) (ap (on_first x) (parts_cut b xs c t.1))

pub free-both : (b : ℕ) (a c : List ℕ) → free b a ≡ true → free b c ≡ true → free b (a ++ c) ≡ true
free-both b [] c e f = f
free-both b (x ∷ xs) c e f = let t = and-true (not (eqb x b)) (free b xs) e in rw t.0 (free-both b xs c t.1 f)

-- digits are free of spaces and newlines
pub free-digits : (b : ℕ) (ds : List ℕ) → b < 48 → all is_digit ds ≡ true → free b ds ≡ true
free-digits b [] h e = refl
free-digits b (d ∷ ds) h e =
    let t = and-true (is_digit d) (all is_digit ds) e in
    let u = leb-true 48 d (and-true (leb 48 d) (leb d 57) t.0).0 in
    let n = ne_eqb d b (λ k. omega arith) in
    rw n (free-digits b ds h t.1)
