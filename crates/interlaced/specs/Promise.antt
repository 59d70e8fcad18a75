-- What the call of this crate promises: requests to both fields replayed one after the other. Each is a visit
-- of the field that it names.
use Rattle.std.specs.Prelude.{ℕ, ◌≡◌, Bool, cond, not, ◌||◌, eqb, length}
use mathlib.Core.List.{List, zip}
use Rattle.sizes.specs.declared.Size.{Size}
use Rattle.visits.specs.Promise.{requests}
use Rattle.visits.specs.Visit.{run, answers}
use Rattle.interlaced.specs.Both.{Arrival, OfField, Both, both_visit}

-- parities ps, columns xs, rows ys, and room `out` for the answers
abbrev pub arrivals : List ℕ → List ℕ → List ℕ → List Arrival
arrivals ps xs ys = zip ps (requests xs ys)

abbrev pub uneven_arrivals : List ℕ → List ℕ → List ℕ → List ℕ → Bool
uneven_arrivals ps xs ys out = not (eqb (length ps) (length xs)) || not (eqb (length ys) (length xs)) || not (eqb (length out) (length xs))

-- lists of different lengths are refused with 4 and change no byte
pub record FieldsOutcome (size : Size) (top bottom : OfField) (ps xs ys : List ℕ) (u : Both) (out : List ℕ) (n : ℕ) (u' : Both) (out' : List ℕ) : Type 0 where
  pub says : n ≡ cond (uneven_arrivals ps xs ys out) 4 0
  pub leaves : u' ≡ cond (uneven_arrivals ps xs ys out) u (run (both_visit size top bottom) (arrivals ps xs ys) u)
  pub writes : out' ≡ cond (uneven_arrivals ps xs ys out) out (answers (both_visit size top bottom) (arrivals ps xs ys) u)
