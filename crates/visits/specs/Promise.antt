-- What the calls of this crate promise: a visit, and requests replayed one after the other. The numbers are
-- those of docs/RULES.md, "Answers"; demands 1 to 3.
use Rattle.std.specs.Prelude.{ℕ, ◌≡◌, Bool, cond, not, ◌||◌, eqb, length}
use mathlib.Core.List.{List, zip}
use Rattle.edges.specs.Fields.{on_part}
use Rattle.edges.specs.Picture.{Planes, step_of}
use Rattle.sizes.specs.declared.Part.{Part}
use Rattle.sizes.specs.declared.Part.TheVariants.{Frame}
use Rattle.visits.specs.Visit.{At, State, Call, VisitOutcomeOf, fresh, visit, run, answers}
use Rattle.pictures.specs.Checks.{Lent, held_of}
use Rattle.visits.specs.Checks.{early_in}

-- the visit of the theory, with the filter of demand 2 and the checks of every filtering call: of a part of
-- the planes, which are a frame's; of a frame
abbrev pub step_in : Part → Lent → ℕ → Planes → Planes
step_in part d i = on_part part d.size (step_of (held_of d) i)

abbrev pub visit_in : Part → Lent → Call ℕ Planes
visit_in part d = visit d.size.w (step_in part d) (early_in part d)

abbrev pub visit_of : Lent → Call ℕ Planes
visit_of d = visit_in Frame d

-- a picture with nothing visited
abbrev pub unvisited : Lent → Planes → State Planes
unvisited d start = (start, fresh d.size.w d.size.h)

-- the answer n and the state t that a visit of r in the state s comes to
abbrev pub VisitOutcome : Part → Lent → State Planes → At → ℕ → State Planes → Type 0
VisitOutcome part d = VisitOutcomeOf d.size.w (step_in part d) (early_in part d)

-- ---- replay: columns xs and rows ys, and room `out` for the answers
abbrev pub requests : List ℕ → List ℕ → List At
requests xs ys = zip xs ys

abbrev pub uneven : List ℕ → List ℕ → List ℕ → Bool
uneven xs ys out = not (eqb (length ys) (length xs)) || not (eqb (length out) (length xs))

-- lists of different lengths are refused with 4 and change no byte
pub record ReplayOutcome (part : Part) (d : Lent) (xs ys : List ℕ) (s : State Planes) (out : List ℕ) (n : ℕ) (t : State Planes) (out' : List ℕ) : Type 0 where
  pub says : n ≡ cond (uneven xs ys out) 4 0
  pub leaves : t ≡ cond (uneven xs ys out) s (run (visit_in part d) (requests xs ys) s)
  pub writes : out' ≡ cond (uneven xs ys out) out (answers (visit_in part d) (requests xs ys) s)
