-- Wrong answers that look right, each shown to break a promise. Assumes nothing.
use mathlib.Core.Path.{◌≡◌, sym, ap, ◌∙◌}
use mathlib.Core.Bool.{true, false}
use mathlib.Core.List.{[], ◌∷◌}
use Prim.Native.Nat.{ℕ}
use native.Mathlib.Omega.{arith}
use Rattle.laws.proofs.Bools.{true-false}
use Rattle.finality.specs.declared.Finality.{Finality}
use Rattle.finality.specs.declared.Finals.{Finals}
use Rattle.finality.specs.Final.{is_final, bad_asked, finality_of, finals_of}
use Rattle.finality.proofs.Examples.{by, only_one, no-mark, fourth-makes, left-refused}

says : (a b : Finality) → a ≡ b → a.yes ≡ true → b.yes ≡ false → ⊥
says a b e yes-said no-said = true-false (sym yes-said ∙ ap (λ (f : Finality). f.yes) e ∙ no-said)

-- without the own mark: yes before anything is visited, 1 by 1
pub own-unasked : (r : Finality) → r.yes ≡ true → r ≡ finality_of (by 1 1) (0 ∷ []) 0 0 → ⊥
unfolding finality_of is_final bad_asked
own-unasked r k e = says r (finality_of (by 1 1) (0 ∷ []) 0 0) e k (λ i. false)

-- without the right neighbour: 2 by 1
pub right-unasked : (r : Finality) → r.yes ≡ true → r ≡ finality_of (by 2 1) (1 ∷ 0 ∷ []) 0 0 → ⊥
unfolding finality_of is_final bad_asked
right-unasked r k e = says r (finality_of (by 2 1) (1 ∷ 0 ∷ []) 0 0) e k (λ i. false)

-- without the lower neighbour: 1 by 2
pub lower-unasked : (r : Finality) → r.yes ≡ true → r ≡ finality_of (by 1 2) (1 ∷ 0 ∷ []) 0 0 → ⊥
unfolding finality_of is_final bad_asked
lower-unasked r k e = says r (finality_of (by 1 2) (1 ∷ 0 ∷ []) 0 0) e k (λ i. false)

-- a neighbour that does not exist waited for: 1 by 1
pub waits-for-none : (r : Finality) → r.yes ≡ false → r ≡ finality_of (by 1 1) (1 ∷ []) 0 0 → ⊥
waits-for-none r k e = says (finality_of (by 1 1) (1 ∷ []) 0 0) r (sym e) (ap (λ (f : Finality). f.yes) only_one) k

-- 7 asked only where the own mark is set: 2 by 1, marks 0 and 9
pub seven-behind-own : (r : Finality) → r.number ≡ 0 → r ≡ finality_of (by 2 1) (0 ∷ 9 ∷ []) 0 0 → ⊥
seven-behind-own r k e = let z : ◌≡◌ {A = ℕ} 0 7 = sym k ∙ ap (λ (f : Finality). f.number) (e ∙ no-mark) in omega arith

-- the upper neighbour forgotten: the last visit of 2 by 2
pub upper-forgotten : (r : Finals) → r.upper ≡ false → r ≡ finals_of (by 2 2) (1 ∷ 1 ∷ 1 ∷ 1 ∷ []) 1 1 → ⊥
upper-forgotten r k e = true-false (sym (ap (λ (f : Finals). f.upper) (e ∙ fourth-makes)) ∙ k)

-- a refusal of the question about the left neighbour dropped
pub left-refusal-dropped : (r : Finals) → r.number ≡ 0 → r ≡ finals_of (by 2 2) (1 ∷ 1 ∷ 9 ∷ 0 ∷ []) 1 0 → ⊥
left-refusal-dropped r k e = let z : ◌≡◌ {A = ℕ} 0 7 = sym k ∙ ap (λ (f : Finals). f.number) (e ∙ left-refused) in omega arith
