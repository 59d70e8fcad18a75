-- The places of a macroblock's samples: filtering a macroblock that is not marked reaches none of a final
-- one's. Assumes nothing.
use mathlib.Core.Path.{◌≡◌, sym, ap, subst, ◌∙◌}
use mathlib.Core.List.{List}
use Prim.Native.Nat.{ℕ, ◌+◌, ◌*◌, ◌/◌, ◌%◌, ◌<◌}
use native.Mathlib.Nat.{mod-lt, div-add-mod', div-lt_iff_lt-mul, mul-le-mul_left}
use native.Mathlib.Omega.{arith}
use lib.Arith.{digits_div, digits_mod}
use Rattle.laws.specs.Foot.{touch-own, touch-left, touch-upper, Touch}
use Rattle.laws.specs.Raster.{Marked}
use Rattle.edges.specs.Picture.{Planes, origin_of}
use Rattle.sizes.specs.declared.Size.{Size}
use Rattle.visits.specs.Late.{SameAt, OffFoot}
use Rattle.finality.specs.Final.{Final}
use Rattle.finality.specs.Settled.{SameMacroblock}

-- place k of a plane of N by N samples a macroblock, in a picture W wide, is of macroblock (x, y)
abbrev pub OfMacroblock : ℕ → ℕ → ℕ → ℕ → ℕ → Type 0
OfMacroblock W x y N k = (k % (N * W) / N ≡ x) × (k / (N * W) / N ≡ y)

of-macroblock : (N W x y c r : ℕ) → x < W → c < N → r < N → OfMacroblock W x y N (origin_of N W x y + r * (N * W) + c)
of-macroblock N W x y c r hx hc hr = (column, row)
  where
    place : origin_of N W x y + r * (N * W) + c ≡ (y * N + r) * (N * W) + (x * N + c)
    place = omega arith

    inside : x * N + c < N * W
    inside = omega (arith, mul-le-mul_left N hx)

    column : (origin_of N W x y + r * (N * W) + c) % (N * W) / N ≡ x
    column = ap (λ (k : ℕ). k % (N * W) / N) place ∙ ap (λ (k : ℕ). k / N) (digits_mod (y * N + r) inside) ∙ digits_div x hc

    row : (origin_of N W x y + r * (N * W) + c) / (N * W) / N ≡ y
    row = ap (λ (k : ℕ). k / (N * W) / N) place ∙ ap (λ (k : ℕ). k / N) (digits_div (y * N + r) inside) ∙ digits_div y hr

pub same-macroblock : (W x y : ℕ) (p q : Planes) → x < W → SameAt (OfMacroblock W x y) p q → SameMacroblock W x y p q
same-macroblock W x y p q h a = record {
  luma = λ c r hc hr. a.luma.samples _ (of-macroblock 16 W x y c r h hc hr);
  u = λ c r hc hr. a.u.samples _ (of-macroblock 8 W x y c r h hc hr);
  v = λ c r hc hr. a.v.samples _ (of-macroblock 8 W x y c r h hc hr);
}

module _ (size : Size) (ms : List ℕ) (x y : ℕ) (f : Final size ms x y) (i : ℕ) (inside : i < size.w * size.h) (wide : 0 < size.w) (unmarked : Marked ms i → ⊥) where
  abbrev W : ℕ
  W = size.w

  -- were i the macroblock, its right or its lower neighbour, it would be marked
  not_at : (bx by : ℕ) → bx ≡ i % W → by ≡ i / W → Marked ms (by * W + bx) → ⊥
  not_at bx by e g m = unmarked (subst (Marked ms) (omega (arith, div-add-mod' i W, ap (λ (k : ℕ). k * W) g)) m)

  pub out-of-reach : (N k : ℕ) → OfMacroblock W x y N k → OffFoot W i N k
  out-of-reach N k o t = go t
    where
      go : Touch (i % W) (i / W) (k % (N * W) / N) (k / (N * W) / N) → ⊥
      go (touch-own e g) = not_at x y (sym o.0 ∙ e) (sym o.1 ∙ g) f.own
      go (touch-left e g) =
          let at : x + 1 ≡ i % W = ap (λ (c : ℕ). c + 1) (sym o.0) ∙ e in
          not_at (x + 1) y at (sym o.1 ∙ g) (f.right (omega (arith, mod-lt i wide)))
      go (touch-upper e g) =
          let at : y + 1 ≡ i / W = ap (λ (r : ℕ). r + 1) (sym o.1) ∙ g in
          let below : i / W < size.h = (div-lt_iff_lt-mul wide).1 (omega arith) in
          not_at x (y + 1) (sym o.0 ∙ e) at (f.lower (omega arith))
