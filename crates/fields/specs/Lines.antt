-- A field: every second line of a frame's plane, as a plane of its own (ITU-T H.264, clause 3, "field"). A
-- line is a row of n samples. Of four lines of three samples the field of parity 1 is the second and the
-- fourth (proofs/TwoFields).
use Rattle.std.specs.Prelude.{ℕ, zero, suc, ◌+◌, ◌*◌, List, [], ◌++◌}
use Rattle.laws.specs.Places.{Plane, places, gets, puts}

-- the places of k lines of n samples: the first line begins at `base`, each next one `far` after it
unfoldable pub lines_at : ℕ → ℕ → ℕ → ℕ → List ℕ
lines_at base far n zero = []
lines_at base far n (suc k) = places base 1 n ++ lines_at (base + far) far n k

-- the field of parity p has the lines p, p + 2, p + 4, .. of the frame: k of them
abbrev pub field_lines : ℕ → ℕ → ℕ → List ℕ
field_lines n p k = lines_at (p * n) (2 * n) n k

-- taken out of the frame's plane, and put back into it
abbrev pub field_of : ℕ → ℕ → ℕ → Plane → Plane
field_of n p k s = gets (field_lines n p k) s

abbrev pub woven : ℕ → ℕ → ℕ → Plane → Plane → Plane
woven n p k f s = puts (field_lines n p k) f s
