-- What every filtering call knows once its checks of lengths have passed. Assumes nothing.
use Rattle.std.proofs.Common.{◌≡◌, ℕ, ◌*◌, ◌≤◌, false, eqb, length, arith}
use Rattle.laws.proofs.Bools.{or-false, equal, full}
use Rattle.sizes.specs.Sizes.{bad_size, bad_parity, frame_of_part, bad_planes}
use Rattle.sizes.specs.declared.Part.{Part}
use Rattle.sizes.proofs.Sized.{Sized, sized, planes-fit}
use Rattle.slices.specs.Inner.{NumbersHold}
use Rattle.slices.specs.Slicing.{Slicing, single, sliced, bad_number_count}
use Rattle.pictures.specs.Checks.{Lent, bad_lent}
use Rattle.pictures.specs.Inner.{GridsHold}

-- ly, lu, lv are the lengths of the planes
pub record Fitting (part : Part) (d : Lent) (ly lu lv : ℕ) : Type 0 where
  pub sides : Sized d.size
  pub parity : bad_parity part ≡ false
  pub luma : ly ≡ 256 * frame_of_part part (d.size.w * d.size.h)
  pub u : lu ≡ 64 * frame_of_part part (d.size.w * d.size.h)
  pub v : lv ≡ 64 * frame_of_part part (d.size.w * d.size.h)
  pub strengths : length d.strengths ≡ 32 * (d.size.w * d.size.h)
  pub qps : length d.qps ≡ d.size.w * d.size.h
  pub t8s : eqb (length d.t8s) 0 ≡ false → length d.t8s ≡ d.size.w * d.size.h

-- checks 1, 19, 3 and 4
pub fitting : (part : Part) (d : Lent) (ly lu lv : ℕ) → bad_size d.size ≡ false → bad_parity part ≡ false
    → bad_planes (frame_of_part part (d.size.w * d.size.h)) ly lu lv ≡ false
    → bad_lent (d.size.w * d.size.h) (length d.strengths) (length d.qps) (length d.t8s) ≡ false → Fitting part d ly lu lv
fitting part d ly lu lv one nineteen three four =
    let planes = planes-fit _ ly lu lv three in
    let grids = or-false _ _ four in
    let first = or-false _ _ grids.0 in
    record {
      sides = sized d.size one;
      parity = nineteen;
      luma = planes.luma-is;
      u = planes.u-is;
      v = planes.v-is;
      strengths = equal _ _ first.0;
      qps = equal _ _ first.1;
      t8s = full (length d.t8s) (d.size.w * d.size.h) grids.1;
    }

-- .. and of the slice numbers: what is lent has entries for all macroblocks
numbers-hold : (sl : Slicing) (m n : ℕ) → bad_number_count sl n ≡ false → m ≤ n → NumbersHold m sl
numbers-hold (single o) m n four h = tt
numbers-hold (sliced c t ns) m n four h = omega (arith, equal (length ns) n four, h)

pub grids-hold : (part : Part) (d : Lent) (ly lu lv m : ℕ) → Fitting part d ly lu lv → bad_number_count d.slicing (d.size.w * d.size.h) ≡ false → m ≤ d.size.w * d.size.h → GridsHold m d
grids-hold part d ly lu lv m f four h = record {
  strengths = omega (arith, f.strengths, h);
  qps = omega (arith, f.qps, h);
  t8s = λ e. omega (arith, f.t8s e, h);
  numbers = numbers-hold d.slicing m (d.size.w * d.size.h) four h;
}
