-- Apart: no promise to a caller rests on it, but what this program says of itself. The strengths of a
-- picture, derived macroblock by macroblock from grids g: of a field where `field` is true, else of a frame.
use Rattle.std.specs.Prelude.{ℕ, ◌+◌, ◌*◌, ◌≤◌, ◌<◌, ◌≡◌, Bool, false, cond, List, eqb, ℤ, length}
use Rattle.laws.specs.Loop.{up_to}
use Rattle.laws.specs.Some.{every}
use Rattle.sizes.specs.declared.Size.{Size}
use Rattle.motion.specs.Grids.{Grids}
use Rattle.sizes.specs.Entries.{flag_at}
use Rattle.strengths.specs.Calls.{answer_of}
use Rattle.strengths.specs.Strength.{mode_of, strength_at, written}
use Rattle.recordings.specs.Places.{column_at, row_at}

-- the call of macroblock i is not refused; m is the length of the strengths
abbrev pub served_at : Size → List ℕ → Grids → ℕ → ℕ → Bool
served_at size t8s g m i = eqb (answer_of size (column_at i size.w) (row_at i size.w) t8s g false m) 0

module _ (size : Size) (field : Bool) (g : Grids) (t8s : List ℕ) where
  -- and leaves its strengths
  abbrev pub derived_at : ℕ → List ℕ → List ℕ
  derived_at i s =
      cond
      (served_at size t8s g (length s) i)
      (written
      (row_at i size.w * size.w + column_at i size.w)
      (strength_at (mode_of field) g size.w (flag_at t8s) (column_at i size.w) (row_at i size.w))
      s)
      s

  abbrev pub derived_to : ℕ → List ℕ → List ℕ
  derived_to n s = up_to n derived_at s

-- what is left of the strengths s, and what the answer says: whether no call was refused
pub record DerivedAll (size : Size) (field : Bool) (g : Grids) (t8s : List ℕ) (n : ℕ) (s : List ℕ) (r : Bool) (s' : List ℕ) : Type 0 where
  pub all : r ≡ every n (served_at size t8s g (length s))
  pub leaves : s' ≡ derived_to size field g t8s n s

-- .. of grids that were read from a file, with tables that are lent: no contract can say which grids they
-- are, but some they are. More than 120 macroblocks are not read
pub record FromFile (size : Size) (field : Bool) (pictures0 pictures1 : List ℤ) (t8s : List ℕ) (n : ℕ) (s : List ℕ) (r : Bool) (s' : List ℕ) : Type 0 where
  pub too_large : 120 < n → (r ≡ false) × (s' ≡ s)
  pub derived : n ≤ 120 → (g : Grids) × (g.pictures0 ≡ pictures0) × (g.pictures1 ≡ pictures1) × DerivedAll size field g t8s n s r s'
