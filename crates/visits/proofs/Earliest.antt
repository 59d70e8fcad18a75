-- The rounds of macroblocks: what (x, y) waits for has an earlier round, and one of them the round just
-- before. Assumes nothing.
use mathlib.Core.Path.{◌≡◌, refl}
use mathlib.Core.Logic.{◌≢◌}
use Prim.Native.Nat.{ℕ, ◌+◌, ◌-◌, ◌*◌, ◌/◌, ◌%◌, ◌<◌}
use native.Mathlib.Nat.{mod-lt, div-add-mod'}
use native.Mathlib.Decide.{ℕ_discrete}
use native.Mathlib.Omega.{arith}
use borrow.Author.Tests.{eq-eqb, ne_eqb}
use lib.Arith.{digits_div, digits_mod}
use Rattle.laws.specs.Grid.{Near, is-left, is_up, is-up-right}
use Rattle.laws.specs.Order.{Dep}
use Rattle.visits.specs.Rounds.{earliest, rounds_for}
use Rattle.visits.proofs.Neighbours.{near→dep}

narrow : (W x y : ℕ) → W ≡ 1 → earliest W x y ≡ y
unfolding earliest
narrow W x y e = rw (eq-eqb W 1 e)

broad : (W x y : ℕ) → W ≢ 1 → earliest W x y ≡ x + 2 * y
unfolding earliest
broad W x y h = rw (ne_eqb W 1 h)

narrow-all : (W H : ℕ) → W ≡ 1 → rounds_for W H ≡ H
unfolding rounds_for
narrow-all W H e = rw (eq-eqb W 1 e)

broad-all : (W H : ℕ) → W ≢ 1 → rounds_for W H ≡ W + 2 * (H - 1)
unfolding rounds_for
broad-all W H h = rw (ne_eqb W 1 h)

-- the last macroblock has the last round
pub earliest-within : (W H x y : ℕ) → x < W → y < H → earliest W x y < rounds_for W H
earliest-within W H x y hx hy = go (ℕ_discrete W 1)
  where
    go : Dec (W ≡ 1) → earliest W x y < rounds_for W H
    go (yes e) = omega (arith, narrow W x y e, narrow-all W H e)
    go (no n) = omega (arith, broad W x y n, broad-all W H n)

pub last-round : (W H : ℕ) → 0 < W → 0 < H → earliest W (W - 1) (H - 1) + 1 ≡ rounds_for W H
last-round W H w h = go (ℕ_discrete W 1)
  where
    go : Dec (W ≡ 1) → earliest W (W - 1) (H - 1) + 1 ≡ rounds_for W H
    go (yes e) = omega (arith, narrow W (W - 1) (H - 1) e, narrow-all W H e)
    go (no n) = omega (arith, broad W (W - 1) (H - 1) n, broad-all W H n)

near-earlier : (W nx ny x y : ℕ) → nx < W → x < W → Near nx ny x y → earliest W nx ny < earliest W x y
near-earlier W nx ny x y hn hx n = go (ℕ_discrete W 1) n
  where
    go : Dec (W ≡ 1) → Near nx ny x y → earliest W nx ny < earliest W x y
    go (yes e) (is-left p q) = omega (arith, narrow W nx ny e, narrow W x y e)
    go (yes e) (is_up p q) = omega (arith, narrow W nx ny e, narrow W x y e)
    go (yes e) (is-up-right p q) = omega (arith, narrow W nx ny e, narrow W x y e)
    go (no h) (is-left p q) = omega (arith, broad W nx ny h, broad W x y h)
    go (no h) (is_up p q) = omega (arith, broad W nx ny h, broad W x y h)
    go (no h) (is-up-right p q) = omega (arith, broad W nx ny h, broad W x y h)

-- a neighbour of the round just before
record Before (W x y : ℕ) : Type 0 where
  nx : ℕ
  ny : ℕ
  column : nx < W
  near : Near nx ny x y
  just : earliest W nx ny + 1 ≡ earliest W x y

before : (W x y : ℕ) → x < W → 0 < earliest W x y → Before W x y
before W x y hx l = go (ℕ_discrete W 1) (ℕ_discrete x 0)
  where
    go : Dec (W ≡ 1) → Dec (x ≡ 0) → Before W x y
    go (yes e) d =
        let a = narrow W x y e in
        record { nx = x; ny = y - 1; column = hx; near = is_up refl (omega arith); just = omega (arith, narrow W x (y - 1) e) }
    go (no h) (yes z) =
        let a = broad W x y h in
        record { nx = x + 1; ny = y - 1; column = omega arith; near = is-up-right refl (omega arith); just = omega (arith, broad W (x + 1) (y - 1) h) }
    go (no h) (no z) =
        record { nx = x - 1; ny = y; column = omega arith; near = is-left (omega arith) refl; just = omega (arith, broad W (x - 1) y h, broad W x y h) }

-- ---- by index
abbrev pub round_of : ℕ → ℕ → ℕ
round_of W i = earliest W (i % W) (i / W)

pub round-at : (W x y : ℕ) → x < W → round_of W (y * W + x) ≡ earliest W x y
round-at W x y h = rw (digits_mod y h, digits_div y h)

pub dep-earlier : (W a b : ℕ) → 0 < W → Dep W a b → round_of W a < round_of W b
dep-earlier W a b w d = near-earlier W (a % W) (a / W) (b % W) (b / W) (mod-lt a w) (mod-lt b w) d

pub dep-just : (W b : ℕ) → 0 < W → 0 < round_of W b → (a : ℕ) × Dep W a b × (round_of W a + 1 ≡ round_of W b)
dep-just W b w l =
    let p = before W (b % W) (b / W) (mod-lt b w) l in
    let d = near→dep W p.nx p.ny (b % W) (b / W) p.column (mod-lt b w) p.near in
    (p.ny * W + p.nx, rw (div-add-mod' b W) at d, rw (round-at W p.nx p.ny p.column) p.just)
