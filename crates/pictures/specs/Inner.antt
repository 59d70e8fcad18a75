-- Apart: no promise to a caller of the public calls rests on it. What is asked of grids that are read, what
-- is lent of a macroblock, and the checks of a row call that read grids.
use Rattle.std.specs.Prelude.{ℕ, ◌*◌, ◌≡◌, ◌≤◌, Bool, false, List, ◌++◌, eqb, length}
use Rattle.edges.specs.Picture.{Planes}
use Rattle.slices.specs.Inner.{NumbersHold}
use Rattle.pictures.specs.Checks.{Lent, Reads, entry_checks, slice_checks}
use Rattle.pictures.specs.LentData.{given}
use Rattle.pictures.specs.Rows.{row_reads}
use Rattle.pictures.specs.declared.Lent.{Lent as DataLent}

-- planes have samples for the first n macroblocks
pub record PlanesHold (n : ℕ) (p : Planes) : Type 0 where
  pub luma : 256 * n ≤ length p.luma
  pub u : 64 * n ≤ length p.u
  pub v : 64 * n ≤ length p.v

-- what is lent has entries for them
pub record GridsHold (n : ℕ) (d : Lent) : Type 0 where
  pub strengths : 32 * n ≤ length d.strengths
  pub qps : n ≤ length d.qps
  pub t8s : eqb (length d.t8s) 0 ≡ false → n ≤ length d.t8s
  pub numbers : NumbersHold n d.slicing

-- what is lent of a picture that is w wide: how high it is, is nothing to a macroblock
abbrev pub given_wide : ℕ → DataLent → Lent
given_wide w d = given (record { w = w; h = 0 }) d

-- 7, 8, 9, 20 and 21
abbrev pub row_entry_checks : Lent → ℕ → ℕ → List (ℕ × Bool)
row_entry_checks d a b = entry_checks d.qps r ++ slice_checks d.slicing r
  where
    r : Reads
    r = row_reads d.size.w a b d.strengths d.t8s
