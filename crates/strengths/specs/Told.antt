-- Apart: no promise to a caller of the public calls rests on it. What a call is told of macroblocks (`Told`),
-- as what is known of each where there are no numbers of kinds, and those numbers.
use Rattle.std.specs.Prelude.{◌*◌, ◌≡◌, false, List, [], ℕ, length}
use Rattle.sizes.specs.Entries.{bad_flag_count}
use Rattle.sizes.specs.declared.Size.{Size}
use Rattle.strengths.specs.declared.kinds.Known.{Known}
use Rattle.strengths.specs.declared.kinds.Known.TheVariants.{Flags}
use Rattle.strengths.specs.declared.kinds.Told.{Told}
use Rattle.strengths.specs.declared.kinds.Told.TheVariants.{Same, Kinds}

abbrev pub known_of : Told → Known
known_of (Same known) = known
known_of (Kinds kinds) = Flags false false

abbrev pub kinds_of : Told → List ℕ
kinds_of (Same known) = []
kinds_of (Kinds kinds) = kinds.now

-- the numbers are those of all macroblocks of the picture, or none
abbrev pub ToldFits : Size → Told → Type 0
ToldFits size told = bad_flag_count (size.w * size.h) (length (kinds_of told)) ≡ false
