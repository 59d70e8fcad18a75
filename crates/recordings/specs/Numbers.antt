-- Apart: no promise to a caller rests on it, but what this program says of itself. The numbers that two bytes
-- each stand for, the lower one first.
use Rattle.std.specs.Prelude.{ℕ, zero, suc, ◌+◌, ◌*◌, List, [], ◌∷◌, ℤ, get_or}
use Rattle.std.specs.Int.{w16}
use Rattle.std.proofs.Common.{to_z}

-- number k
abbrev pub number_at : List ℕ → ℕ → ℕ
number_at rs k = get_or rs (2 * k) 0 + 256 * get_or rs (2 * k + 1) 0

-- n of them, from k on
unfoldable pub numbers_from : List ℕ → ℕ → ℕ → List ℕ
numbers_from rs k zero = []
numbers_from rs k (suc n) = number_at rs k ∷ numbers_from rs (k + 1) n

unfoldable pub numbers_read : ℕ → List ℕ → List ℕ
numbers_read n rs = numbers_from rs 0 n

-- the number from -32768 to 32767 that a number's sixteen bits stand for: 65535 is -1
abbrev pub signed_number : ℕ → ℤ
signed_number n = to_z w16 n
