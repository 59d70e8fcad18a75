-- Apart: no call's promise rests on it. What shows that a mark cannot be left out of the question whether a
-- macroblock is final.
use Rattle.std.specs.Prelude.{ℕ, ◌≡◌, List}
use Rattle.edges.specs.Picture.{Planes}
use Rattle.pictures.specs.Checks.{Lent}
use Rattle.visits.specs.Checks.{Sound, Fit}
use Rattle.visits.specs.Promise.{visit_of, unvisited}
use Rattle.visits.specs.Visit.{At, run}
use Rattle.finality.specs.Settled.{SameMacroblock}

-- with valid data, from nothing visited, requests lead to the marks ms; a visit of r is done then, and it
-- changes a sample of macroblock (0, 0)
pub record StillChanges (d : Lent) (start : Planes) (rs : List At) (ms : List ℕ) (r : At) : Type 0 where
  pub sound : Sound d
  pub fit : Fit d start
  pub marks : (run (visit_of d) rs (unvisited d start)).1 ≡ ms
  pub done : (visit_of d (run (visit_of d) rs (unvisited d start)) r).0 ≡ 0
  pub changed : let now = run (visit_of d) rs (unvisited d start) in SameMacroblock d.size.w 0 0 now.0 (visit_of d now r).1.0 → ⊥
