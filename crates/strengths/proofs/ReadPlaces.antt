-- The blocks that a macroblock's strengths read lie in grids that hold its blocks, as four rows of four lie
-- where the last of them does; and a turn of a walk over them. Assumes nothing.
use Rattle.std.proofs.Common.{◌≡◌, ℕ, ◌+◌, ◌*◌, ◌<◌, ◌≤◌, Bool, ◌||◌, refl, ap, ◌∙◌, arith}
use mathlib.Core.Bool.{or_assoc}
use native.Mathlib.Nat.{mul-le-mul_right}
use Rattle.laws.specs.Some.{some}
use Rattle.laws.proofs.Some.{some_more}
use Rattle.strengths.specs.Blocks.{origin, own_block}
use Rattle.strengths.specs.Inner.{InGrids}
use Rattle.strengths.specs.Reads.{Beside, own-block, left-block, above-block}

pub square_within : (at stride : ℕ) {n : ℕ} → at + 3 * stride + 3 < n → (r c : ℕ) → r < 4 → c < 4 → at + r * stride + c < n
square_within at stride last r c h l =
    let m : r * stride ≤ 3 * stride = mul-le-mul_right stride (omega arith) in
    omega (arith, m, last)

pub own_within : {w x y n : ℕ} → InGrids w x y n → (r c : ℕ) → r < 4 → c < 4 → own_block w x y r c < n
own_within {w} {x} {y} g = square_within (origin w x y) (4 * w) g.last

pub beside_within : {w x y n i : ℕ} → InGrids w x y n → Beside w x y i → i < n
beside_within g (own-block r c h l) = own_within g r c h l
beside_within {w} {x} {y} g (left-block h k l) =
    let m : k * (4 * w) ≤ 3 * (4 * w) = mul-le-mul_right (4 * w) (omega arith) in
    omega (arith, m, g.last)
beside_within {w} {x} {y} g (above-block h k l) = omega (arith, g.last)

-- one more of a row, after what was found before it
pub some-within : (a : Bool) (n : ℕ) (f : ℕ → Bool) {b t : Bool} → b ≡ (a || some n f) → t ≡ f n → (b || t) ≡ (a || some (n + 1) f)
some-within a n f e h = (λ i. e i || h i) ∙ or_assoc a (some n f) (f n) ∙ ap (λ (s : Bool). a || s) (some_more n f refl refl)
