-- Apart: no promise to a caller rests on it, but what this program says of itself. Lists of bytes: zeros, one
-- copied over another, all of them 1.
use Rattle.std.specs.Prelude.{ℕ, Bool, cond, List, eqb, length, replicate}
use Rattle.std.specs.List.{list_all}

-- n zeros. Shut, since thousands written out would stand in every goal
unfoldable pub zeros : ℕ → List ℕ
zeros n = replicate n 0

-- what `to` holds after `from` was copied over it: `from`, or what it held where their lengths differ
abbrev pub copied : List ℕ → List ℕ → List ℕ
copied to from = cond (eqb (length to) (length from)) from to

-- every one is 1
abbrev pub ones : List ℕ → Bool
ones s = list_all (λ m. eqb m 1) s
