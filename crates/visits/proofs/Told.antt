-- The checks before 13 of a visit that is told what its slices come to are those of the rules. Assumes
-- nothing.
use mathlib.Core.Path.{◌≡◌, refl}
use mathlib.Core.List.{List}
use Prim.Native.Nat.{ℕ}
use Rattle.edges.specs.Picture.{Planes}
use Rattle.sizes.specs.declared.Part.{Part}
use Rattle.slices.specs.Inner.{survey_of_slices}
use Rattle.slices.specs.Slicing.{bad_slice_mode}
use Rattle.pictures.specs.Checks.{Lent}
use Rattle.visits.specs.Checks.{early_in}
use Rattle.visits.specs.Inner.{visit_entry_checks, told_entry_checks, early_by}
use Rattle.visits.specs.Visit.{At, State}

pub told-entries : (d : Lent) (ms : List ℕ) (r : At) → told_entry_checks (bad_slice_mode d.slicing) d ms r ≡ visit_entry_checks d ms r
told-entries d ms r = refl

pub told-early : (part : Part) (d : Lent) (s : State Planes) (r : At) → early_by (survey_of_slices d.slicing) part d s r ≡ early_in part d s r
unfolding early_by early_in
told-early part d s r = refl
