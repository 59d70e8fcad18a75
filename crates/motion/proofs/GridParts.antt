-- What is read of the grids. Assumes nothing.
use Rattle.std.proofs.Common.{◌≡◌, ℕ, ◌+◌, ◌*◌, ◌≤◌, List, length, ℤ, pos, sym, ap, ◌∙◌, arith}
use lib.ListN.{get_or-eq_default}
use Rattle.motion.specs.Grids.{motion_at}
use Rattle.motion.specs.Pictures.{none, named_by}
use Rattle.motion.proofs.Pictures.{none_named}

-- ---- empty grids hold no reference and the vector 0, whatever the table
pub motion-none : (pictures refs mvs : List ℤ) (i : ℕ) → length refs ≤ 0 → length mvs ≤ 0
    → record { reference = none; x = pos 0; y = pos 0 } ≡ motion_at pictures refs mvs i
motion-none pictures refs mvs i h k =
    sym
    (λ j. record {
      reference = (ap (named_by pictures) (get_or-eq_default refs none {n = i} (omega arith)) ∙ none_named pictures) j;
      x = get_or-eq_default mvs (pos 0) {n = 2 * i} (omega arith) j;
      y = get_or-eq_default mvs (pos 0) {n = 2 * i + 1} (omega arith) j;
    })
