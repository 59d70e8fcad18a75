-- Apart: no promise rests on it. A plane seen through a list of places: sample i of the small plane stands at
-- the i-th of the places in the large one.
use Rattle.std.specs.Prelude.{ℕ, ◌<◌, ◌≡◌, List, [], ◌∷◌, length, get_or}
use Rattle.laws.specs.Local.{Among}
use Rattle.laws.specs.Places.{Plane, gets}

-- the places are different, and within a plane of m samples
pub record View (m : ℕ) (L : List ℕ) : Type 0 where
  pub apart : (i j : ℕ) → i < length L → j < length L → get_or L i 0 ≡ get_or L j 0 → i ≡ j
  pub within : (i : ℕ) → i < length L → get_or L i 0 < m

-- the place i of the small plane is the place j of the large one
abbrev pub Sits : List ℕ → ℕ → ℕ → Type 0
Sits L i j = (i < length L) × (get_or L i 0 ≡ j)

-- one by one
abbrev pub Match : List ℕ → List ℕ → List ℕ → Type 0
Match L [] [] = Unit {0}
Match L [] (j ∷ js) = ⊥
Match L (i ∷ is) [] = ⊥
Match L (i ∷ is) (j ∷ js) = Sits L i j × Match L is js

-- f does to the large plane, through L, what g does to the small one; the rest stays
pub record Carried (m : ℕ) (L : List ℕ) (g f : Plane → Plane) : Type 0 where
  pub len : (s : Plane) → length (f s) ≡ length s
  pub inn : (s : Plane) → length s ≡ m → gets L (f s) ≡ g (gets L s)
  pub out : (s : Plane) (q : ℕ) → (Among L q → ⊥) → get_or (f s) q 0 ≡ get_or s q 0
