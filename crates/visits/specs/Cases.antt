-- Apart: no promise rests on it. P12 of docs/RULES.md, "Worked cases", of the visit with the real filter and
-- checks, on the picture of Fault.antt and on its left column; and all twelve cases, joined.
use Rattle.std.specs.Prelude.{ℕ, List, [], ◌∷◌, ◌++◌, replicate}
use Rattle.laws.specs.Cases.{Case}
use Rattle.lines.specs.Cases as lines
use Rattle.motion.specs.Cases as motion
use Rattle.edges.specs.Picture.{Planes, planes}
use Rattle.pictures.specs.Checks.{Lent}
use Rattle.visits.specs.Fault.{fault_luma, fault_lent}
use Rattle.visits.specs.Promise.{visit_of, unvisited}
use Rattle.visits.specs.Smallest.{column_lent, column_planes}
use Rattle.visits.specs.Visit.{answers}

-- 2 by 2
abbrev pub square_planes : Planes
square_planes = planes fault_luma (replicate 256 128) (replicate 256 128)

-- the answers of visits of (0, 0), then (0, 1)
abbrev pub asked : Lent → Planes → List ℕ
asked d p = answers (visit_of d) ((0, 0) ∷ (0, 1) ∷ []) (unvisited d p)

unfoldable pub visit_cases : List Case
visit_cases = record { number = 12; given = asked fault_lent square_planes ++ asked column_lent column_planes; paper = 0 ∷ 14 ∷ 0 ∷ 0 ∷ [] } ∷ []

-- P1 to P8, P9 to P11, P12
abbrev pub twelve : List Case
twelve = lines.line_cases ++ motion.motion_cases ++ visit_cases
