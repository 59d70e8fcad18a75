-- Apart: no promise to a caller of the public calls rests on it. What functions ask of the place, and what a
-- test that is given as a closure tells.
use Rattle.std.specs.Prelude.{ℕ, ◌+◌, ◌-◌, ◌*◌, ◌<◌, ◌≡◌, Bool, false, cond, ◌&&◌, ◌||◌, List, Option, None, Some, ltb, get_or}

-- (x, y) is a macroblock of a picture w wide, and one of the first n
pub record InPicture (w x y n : ℕ) : Type 0 where
  pub column : x < w
  pub index : y * w + x < n

-- the number of a neighbour, d before i, where it is there
abbrev pub neighbour : Bool → ℕ → ℕ → Option ℕ
neighbour there i d = cond there (Some (i - d)) None

-- a closure answers what p says
abbrev pub Tells : {X : Type 0} → (X → Bool → Type 0) → (X → Bool) → Type 0
Tells {X} post p = (x : X) (b : Bool) → post x b → b ≡ p x

-- an entry, where there is one, is what p says; `none` is never read
abbrev pub is_at : {X : Type 0} → (X → Bool) → X → List X → Option ℕ → Bool
is_at p none xs None = false
is_at p none xs (Some i) = p (get_or xs i none)

-- `bad_before` and `bad_near` of entries of any type; `none` is never read
abbrev pub is_before : {X : Type 0} → (X → Bool) → X → Bool → List X → ℕ → ℕ → Bool
is_before p none there xs i d = there && p (get_or xs (i - d) none)

abbrev pub is_near : {X : Type 0} → (X → Bool) → X → List X → ℕ → ℕ → ℕ → Bool
is_near p none xs w x y = p (get_or xs (y * w + x) none) || is_before p none (ltb 0 x) xs (y * w + x) 1 || is_before p none (ltb 0 y) xs (y * w + x) w
