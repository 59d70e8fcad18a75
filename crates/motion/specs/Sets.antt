-- Lists of whole numbers compared as sets: order and repetition do not count.
use Rattle.std.specs.Prelude.{Bool, true, false, ◌&&◌, ◌||◌, List, [], ◌∷◌, ℤ}
use Rattle.laws.specs.Equal.{eq_z}

abbrev pub among : ℤ → List ℤ → Bool
among r [] = false
among r (s ∷ l) = eq_z r s || among r l

abbrev pub all_among : List ℤ → List ℤ → Bool
all_among [] l = true
all_among (r ∷ k) l = among r l && all_among k l

abbrev pub same_set : List ℤ → List ℤ → Bool
same_set k l = all_among k l && all_among l k
