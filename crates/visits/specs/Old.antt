-- Apart: no promise rests on it. The rule of the old release: it waited for the left and the upper neighbour,
-- never for the upper right one.
use Rattle.std.specs.Prelude.{ℕ, Bool, cond, ◌||◌, List, [], ◌∷◌}
use Rattle.laws.specs.Refusal.{or_else}
use Rattle.visits.specs.Visit.{At, State, Call, marked, lacks_left, lacks_upper, serve}

unfoldable pub old_waiting : ℕ → List ℕ → ℕ → ℕ → Bool
old_waiting W ms x y = lacks_left W ms x y || lacks_upper W ms x y

-- all else as in `answer` and `visit`
unfoldable pub old_answer : ℕ → {S : Type 0} → (State S → At → ℕ) → State S → At → ℕ
old_answer W early s r = or_else (early s r) (cond (marked W s.1 r.0 r.1) 13 (cond (old_waiting W s.1 r.0 r.1) 14 0))

unfoldable pub old_visit : ℕ → {S : Type 0} → (ℕ → S → S) → (State S → At → ℕ) → Call ℕ S
old_visit W step early s r = (old_answer W early s r, serve W step (old_answer W early s r) s r)

-- an order that it allows on a picture of 2 by 2: the lower left macroblock before the upper right one, whose
-- left edge shares samples with its top edge
abbrev pub old_order : List At
old_order = (0, 0) ∷ (0, 1) ∷ (1, 0) ∷ (1, 1) ∷ []

abbrev pub raster_order : List At
raster_order = (0, 0) ∷ (1, 0) ∷ (0, 1) ∷ (1, 1) ∷ []
