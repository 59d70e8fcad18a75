-- Wrong verdicts that look right, each shown to break the promise on a small picture. Assumes nothing.
use Prim.Native.Nat.{ℕ}
use mathlib.Core.Path.{◌≡◌, refl, sym, ap, ◌∙◌}
use mathlib.Core.Bool.{Bool, true, false≢true}
use mathlib.Core.List.{List, [], ◌∷◌}
use mathlib.Core.Logic.{◌↔◌}
use native.Mathlib.Omega.{arith}
use lib.ListN.{length, get_or}
use Rattle.edges.specs.Picture.{Planes, planes}
use Rattle.recordings.specs.Bytes.{ones}
use Rattle.recordings.specs.Orders.{visited_all}

-- one sample of V, 0 and 1
abbrev none : Planes
none = planes [] [] (0 ∷ [])

abbrev one : Planes
one = planes [] [] (1 ∷ [])

-- a comparison that keeps the contract of `same`
abbrev Compares : (Planes → Planes → Bool) → Type 0
Compares f = (p q : Planes) → (f p q ≡ true) ↔ (p ≡ q)

differ : none ≡ one → ⊥
differ e = let size : ◌≡◌ {A = ℕ} 0 1 = ap (λ (p : Planes). get_or p.v 0 0) e in omega arith

-- it does not look at the lengths alone
pub by_length : (f : Planes → Planes → Bool) → Compares f
    → ((p q : Planes) → length p.luma ≡ length q.luma → length p.u ≡ length q.u → length p.v ≡ length q.v → f p q ≡ true) → ⊥
by_length f says alike = differ ((says none one).0 (alike none one refl refl refl))

-- nor does it leave V out
pub without-v : (f : Planes → Planes → Bool) → Compares f → ((p q : Planes) → p.luma ≡ q.luma → p.u ≡ q.u → f p q ≡ true) → ⊥
without-v f says alike = differ ((says none one).0 (alike none one refl refl))

-- ---- two fields: whether each macroblock of each was visited is not told by the marks of the top field
-- alone
abbrev Visited : (List ℕ → List ℕ → Bool) → Type 0
Visited f = (marks marks₂ : List ℕ) → f marks marks₂ ≡ visited_all marks marks₂

pub top-alone : (f : List ℕ → List ℕ → Bool) → Visited f → ((marks marks₂ : List ℕ) → ones marks ≡ true → f marks marks₂ ≡ true) → ⊥
top-alone f says alike = false≢true (sym (says (1 ∷ []) (0 ∷ [])) ∙ alike (1 ∷ []) (0 ∷ []) refl)
