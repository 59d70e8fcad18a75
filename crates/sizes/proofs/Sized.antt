-- What checks 1 and 3 say when they do not apply, and how large the planes of a part's frame are then.
-- Assumes nothing.
use mathlib.Core.Path.{◌≡◌}
use mathlib.Core.Bool.{false, not, ◌||◌}
use Prim.Native.Nat.{ℕ, ◌*◌, ◌≤◌, ◌<◌}
use native.Mathlib.Nat.{mul-le-mul}
use native.Mathlib.Omega.{arith}
use borrow.Author.Tests.{eq-eqb, eqb-false, ltb-false}
use lib.Dec.{eqb, ltb}
use Rattle.laws.proofs.Bools.{or-false, equal}
use Rattle.sizes.specs.Sizes.{bad_size, bad_planes, frame_of_part}
use Rattle.sizes.specs.declared.Part.{Part}
use Rattle.sizes.specs.declared.Part.TheVariants.{Frame, Field}
use Rattle.sizes.specs.declared.Size.{Size}

-- both sides are 1 to 256
pub record Sides (w h : ℕ) : Type 0 where
  pub wide : 0 < w
  pub w-most : w ≤ 256
  pub high : 0 < h
  pub h-most : h ≤ 256
  pub area : w * h ≤ 65536

pub sides : (w h : ℕ) → (eqb w 0 || ltb 256 w || eqb h 0 || ltb 256 h) ≡ false → Sides w h
sides w h e =
    let a = or-false (eqb w 0 || ltb 256 w || eqb h 0) (ltb 256 h) e in
    let b = or-false (eqb w 0 || ltb 256 w) (eqb h 0) a.0 in
    let c = or-false (eqb w 0) (ltb 256 w) b.0 in
    let p = ltb-false 256 w c.1 in
    let q = ltb-false 256 h a.1 in
    let m = mul-le-mul p q in
    record {
      wide = positive w (eqb-false w 0 c.0);
      w-most = p;
      high = positive h (eqb-false h 0 b.1);
      h-most = q;
      area = omega arith;
    }
  where
    positive : (n : ℕ) → (n ≡ 0 → ⊥) → 0 < n
    positive n h = omega arith

-- .. and the product is at most 36,864
pub record Sized (size : Size) : Type 0 where
  pub both : Sides size.w size.h
  pub most : size.w * size.h ≤ 36864

pub sized : (size : Size) → bad_size size ≡ false → Sized size
sized size e =
    let a = or-false (eqb size.w 0 || ltb 256 size.w || eqb size.h 0 || ltb 256 size.h) (ltb 36864 (size.w * size.h)) e in
    record { both = sides size.w size.h a.0; most = ltb-false 36864 (size.w * size.h) a.1 }

-- planes that are not refused have their lengths
pub record PlanesFit (n luma u v : ℕ) : Type 0 where
  pub luma-is : luma ≡ 256 * n
  pub u-is : u ≡ 64 * n
  pub v-is : v ≡ 64 * n

pub planes-fit : (n luma u v : ℕ) → bad_planes n luma u v ≡ false → PlanesFit n luma u v
planes-fit n luma u v e =
    let p = or-false (not (eqb luma (256 * n)) || not (eqb u (64 * n))) (not (eqb v (64 * n))) e in
    let q = or-false (not (eqb luma (256 * n))) (not (eqb u (64 * n))) p.0 in
    record { luma-is = equal luma (256 * n) q.0; u-is = equal u (64 * n) q.1; v-is = equal v (64 * n) p.1 }

-- .. and planes that have them are not refused
pub fits-planes : {n luma u v : ℕ} → PlanesFit n luma u v → bad_planes n luma u v ≡ false
fits-planes {n} {luma} {u} {v} f = rw (eq-eqb luma (256 * n) f.luma-is, eq-eqb u (64 * n) f.u-is, eq-eqb v (64 * n) f.v-is)

-- the planes of a part's frame: at most two pictures
pub frame-most : (part : Part) {n : ℕ} → n ≤ 36864 → frame_of_part part n ≤ 73728
frame-most Frame h = omega arith
frame-most (Field p) h = omega arith

-- more macroblocks want more room
pub frame-of-part-le : (part : Part) {n m : ℕ} → n ≤ m → frame_of_part part n ≤ frame_of_part part m
frame-of-part-le Frame h = h
frame-of-part-le (Field p) h = omega arith
