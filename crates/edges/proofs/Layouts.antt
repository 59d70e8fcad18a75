-- Where a part of the planes lies: what the checks of a part say of its layout, and that a window's numbers
-- fit. Assumes nothing.
use mathlib.Core.Path.{◌≡◌}
use mathlib.Core.Bool.{false}
use Prim.Native.Nat.{ℕ, ◌+◌, ◌*◌, ◌<◌, ◌≤◌}
use native.Mathlib.Nat.{mul-le-mul_left, mul-le-mul_right}
use native.Mathlib.Omega.{arith}
use borrow.Author.Tests.{ltb-false}
use Rattle.sizes.specs.Sizes.{bad_parity, frame_of_part}
use Rattle.sizes.specs.declared.Part.{Part}
use Rattle.sizes.specs.declared.Part.TheVariants.{Frame, Field}
use Rattle.edges.specs.Inner.{SmallWindow}
use Rattle.edges.specs.Laid.{layout_of}
use Rattle.edges.specs.declared.plan.Layout.{Layout}

pub skip-lt : (part : Part) → bad_parity part ≡ false → (layout_of part).skip < (layout_of part).times
skip-lt Frame e = omega arith
skip-lt (Field p) e = let h = ltb-false 1 p e in omega arith

pub frame-times : (part : Part) (n : ℕ) → frame_of_part part n ≡ (layout_of part).times * n
frame-times Frame n = omega arith
frame-times (Field p) n = omega arith

-- the numbers of a window fit where the luma places of the macroblock's row do
module _ (l : Layout) (w x y : ℕ) (turn : l.skip < l.times) (column : x < w) (room : 256 * (l.times * (y * w + w)) < 18446744073709551616) where
  once : 1 ≤ l.times
  once = omega arith

  wide : 1 ≤ w
  wide = omega arith

  pub luma-window : SmallWindow l 16 w x y
  luma-window = record {
    line = omega (arith, mul-le-mul_right w once);
    rows = omega (arith, mul-le-mul_left y wide, mul-le-mul_right (y * w) once);
    far = omega arith;
    origin = omega (arith, mul-le-mul_right w turn);
  }

  pub chroma-window : SmallWindow l 8 w x y
  chroma-window = record {
    line = omega (arith, mul-le-mul_right w once);
    rows = omega (arith, mul-le-mul_left y wide, mul-le-mul_right (y * w) once);
    far = omega arith;
    origin = omega (arith, mul-le-mul_right w turn);
  }
