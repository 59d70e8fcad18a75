-- P9, P10 and P11 hold of the definitions, by computing. Assumes nothing.
use Rattle.std.proofs.Common.{refl}
use Rattle.laws.specs.Cases.{Holds}
use Rattle.motion.specs.Cases.{motion_cases}
use Rattle.motion.specs.Far.{outside}
use Rattle.motion.specs.Motion.{used, mismatched, differ, inter_strength}

pub cases-hold : Holds motion_cases
unfolding inter_strength differ mismatched used outside
cases-hold = (refl, (refl, (refl, tt)))
