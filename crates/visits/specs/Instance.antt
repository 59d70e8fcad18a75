-- Apart: no promise rests on it. What the proof of demand 3 asks of a filter and of the checks before 13.
use Rattle.std.specs.Prelude.{ℕ, ◌*◌, ◌<◌, ◌≡◌, length}
use Rattle.laws.specs.Order.{Dep}
use Rattle.visits.specs.Beyond.{Bits}
use Rattle.visits.specs.Visit.{At, State}

-- check 2, outside the picture, is among the earlier ones
abbrev pub AsksPlace : ℕ → ℕ → {S : Type 0} → (State S → At → ℕ) → Type 0
AsksPlace W H {S} early = (s : State S) (r : At) → early s r ≡ 0 → (r.0 < W) × (r.1 < H)

-- two macroblocks may be filtered in either order unless the later one in raster order waits for the earlier
abbrev pub Commutes : ℕ → {S : Type 0} → (ℕ → S → S) → Type 0
Commutes W {S} step = (a b : ℕ) → a < b → (Dep W a b → ⊥) → (s : S) → step a (step b s) ≡ step b (step a s)

-- "with the same valid size, buffer lengths, strengths, QPs, 8x8 flags and offsets throughout": no earlier
-- check applies inside the picture. Valid is what the checks ask of the planes, as their lengths
abbrev pub Passes : ℕ → ℕ → {S : Type 0} → (State S → At → ℕ) → (S → Type 0) → Type 0
Passes W H {S} early Valid = (s : State S) → Valid s.0 → length s.1 ≡ W * H → Bits s.1 → (x y : ℕ) → x < W → y < H → early s (x, y) ≡ 0
