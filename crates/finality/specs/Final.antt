-- When a macroblock is final, and what the two calls that tell it promise: docs/RULES.md, "Final
-- macroblocks". The marks are a picture's, a frame's or a field's, as visits set them.
use Rattle.std.specs.Prelude.{ℕ, ◌+◌, ◌-◌, ◌*◌, ◌<◌, Bool, false, cond, not, ◌&&◌, ◌||◌, List, [], ◌∷◌, ◌++◌, Result, Ok, Err, eqb, ltb, length, get_or}
use Rattle.laws.specs.Refusal.{refusal, or_else}
use Rattle.refusals.specs.Refusals.{code_of}
use Rattle.refusals.specs.declared.Refusal.{Refusal}
use Rattle.sizes.specs.Sizes.{bad_size, outside_of}
use Rattle.sizes.specs.declared.Size.{Size}
use Rattle.visits.specs.AnyOrder.{Visited}
use Rattle.visits.specs.Checks.{bad_mark}
use Rattle.visits.specs.Visit.{marked}
use Rattle.finality.specs.declared.Finality.{Finality}
use Rattle.finality.specs.declared.Finals.{Finals}
use Rattle.finality.specs.declared.MadeFinal.{MadeFinal}

-- a macroblock of column x has a right neighbour, one of row y a lower one
abbrev pub has_right : Size → ℕ → Bool
has_right size x = ltb (x + 1) size.w

abbrev pub has_lower : Size → ℕ → Bool
has_lower size y = ltb (y + 1) size.h

-- "it, its right neighbour and its lower neighbour are marked, as far as they exist"
unfoldable pub is_final : Size → List ℕ → ℕ → ℕ → Bool
is_final size ms x y =
    marked size.w ms x y && (not (has_right size x) || marked size.w ms (x + 1) y) && (not (has_lower size y) || marked size.w ms x (y + 1))

-- 7: of the same three
unfoldable pub bad_asked : Size → List ℕ → ℕ → ℕ → Bool
bad_asked size ms x y =
    bad_mark (get_or ms (y * size.w + x) 0)
    || (has_right size x && bad_mark (get_or ms (y * size.w + (x + 1)) 0))
    || (has_lower size y && bad_mark (get_or ms ((y + 1) * size.w + x) 0))

-- the checks in their order; `marks` is the number of marks
abbrev pub place_checks : Size → ℕ → ℕ → ℕ → List (ℕ × Bool)
place_checks size marks x y = (1, bad_size size) ∷ (2, outside_of size x y) ∷ (4, not (eqb marks (size.w * size.h))) ∷ []

abbrev pub final_checks : Size → List ℕ → ℕ → ℕ → List (ℕ × Bool)
final_checks size ms x y = place_checks size (length ms) x y ++ ((7, bad_asked size ms x y) ∷ [])

-- "yes exactly when": the same as a statement (law `yes-exactly`)
pub record Final (size : Size) (ms : List ℕ) (x y : ℕ) : Type 0 where
  pub own : Visited size.w ms x y
  pub right : x + 1 < size.w → Visited size.w ms (x + 1) y
  pub lower : y + 1 < size.h → Visited size.w ms x (y + 1)

-- a number, and with 0 whether it is final
abbrev pub finality : ℕ → Bool → Finality
finality n b = record { number = n; yes = eqb n 0 && b }

-- .. as a call answers it
abbrev pub finality_answered : Result Bool Refusal → Finality
finality_answered (Ok b) = finality 0 b
finality_answered (Err r) = record { number = code_of r; yes = false }

-- ---- is (x, y) final?
unfoldable pub finality_of : Size → List ℕ → ℕ → ℕ → Finality
finality_of size ms x y = finality (refusal (final_checks size ms x y)) (is_final size ms x y)

-- ---- which of those are final that a visit of (x, y) can have made so: itself, its left, its upper
-- neighbour? Each is asked about where it exists
abbrev pub if_there : Bool → Finality → Finality
if_there there f = cond there f (finality 0 false)

abbrev pub finals : ℕ → Bool → Bool → Bool → Finals
finals n own left upper = record { number = n; own = eqb n 0 && own; left = eqb n 0 && left; upper = eqb n 0 && upper }

-- .. as a call answers it
abbrev pub all_answered : Result MadeFinal Refusal → Finals
all_answered (Ok m) = finals 0 m.own m.left m.upper
all_answered (Err r) = record { number = code_of r; own = false; left = false; upper = false }

abbrev pub joined : Finality → Finality → Finality → Finals
joined own left upper = finals (or_else own.number (or_else left.number upper.number)) own.yes left.yes upper.yes

unfoldable pub finals_of : Size → List ℕ → ℕ → ℕ → Finals
finals_of size ms x y = joined (finality_of size ms x y) (if_there (ltb 0 x) (finality_of size ms (x - 1) y)) (if_there (ltb 0 y) (finality_of size ms x (y - 1)))
