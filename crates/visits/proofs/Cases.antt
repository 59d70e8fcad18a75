-- The twelve cases of docs/RULES.md, "Worked cases", hold of the definitions, as one statement. P1 to P11 are
-- computed, in the crates of their definitions; P12 goes through the checks of a real visit. Assumes nothing.
use mathlib.Core.Path.{◌≡◌, refl}
use mathlib.Core.List.{List, [], ◌∷◌, ◌++◌, map}
use Prim.Native.Nat.{ℕ}
use lib.ListN.{replicate}
use Rattle.laws.specs.Cases.{Case, Holds}
use Rattle.lines.specs.Cases as lines
use Rattle.lines.proofs.Cases as lines-proved
use Rattle.motion.specs.Cases as motion
use Rattle.motion.proofs.Cases as motion-proved
use Rattle.edges.specs.Picture.{step_of}
use Rattle.visits.specs.Checks.{early_of}
use Rattle.visits.specs.Fault.{fault_lent, fault_held}
use Rattle.visits.specs.Smallest.{column_lent, column_planes}
use Rattle.visits.specs.Cases.{square_planes, asked, visit_cases, twelve}
use Rattle.visits.proofs.Fault.{old-clear}
use Rattle.visits.proofs.Instance.{fit-kept}
use Rattle.visits.proofs.Old.{ours-refuses}
use Rattle.visits.proofs.Smallest.{column-fit, column-first, column-second}

holds-join : (cs ds : List Case) → Holds cs → Holds ds → Holds (cs ++ ds)
holds-join [] ds h k = k
holds-join (c ∷ cs) ds h k = (h.0, holds-join cs ds h.1 k)

-- ---- P12. 2 by 2: (0, 1) is refused, since its upper right neighbour is unvisited
square-asked : asked fault_lent square_planes ≡ 0 ∷ 14 ∷ []
square-asked = ours-refuses (step_of fault_held) (early_of fault_lent) square_planes (old-clear (replicate 256 128) (replicate 256 128) refl refl)

-- 1 by 2: there is none
column-asked : asked column_lent column_planes ≡ 0 ∷ 0 ∷ []
column-asked = rw (column-first, column-second _ (fit-kept column_lent 0 column_planes column-fit))

visit-cases-hold : Holds visit_cases
unfolding visit_cases
visit-cases-hold = (λ i. square-asked i ++ column-asked i, tt)

pub twelve-hold : Holds twelve
unfolding lines.line_cases visit_cases
twelve-hold = holds-join lines.line_cases (motion.motion_cases ++ visit_cases) lines-proved.line-cases-hold (holds-join motion.motion_cases visit_cases motion-proved.cases-hold visit-cases-hold)

-- none is missing
abbrev pub number_of_case : Case → ℕ
number_of_case c = c.number

pub all-twelve : map number_of_case twelve ≡ 1 ∷ 2 ∷ 3 ∷ 4 ∷ 5 ∷ 6 ∷ 7 ∷ 8 ∷ 9 ∷ 10 ∷ 11 ∷ 12 ∷ []
unfolding lines.line_cases visit_cases
all-twelve = refl
