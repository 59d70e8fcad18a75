-- Where the blocks beside an edge stand: q in the macroblock, p in it too across an inner edge, else in the
-- left or in the upper neighbour. What is so of every block of a macroblock: its row and column in the
-- picture, and the 8x8 block that holds it. Assumes nothing.
use mathlib.Core.Path.{◌≡◌, refl, sym, ap, ◌∙◌}
use mathlib.Core.Bool.{Bool, true, false, cond}
use Prim.Native.Nat.{ℕ, suc, ◌+◌, ◌-◌, ◌*◌, ◌/◌, ◌%◌, ◌≤◌, ◌<◌}
use native.Mathlib.Nat.{mul-le-mul_right}
use native.Mathlib.Omega.{arith}
use lib.Arith.{digits_div, digits_mod}
use Rattle.laws.proofs.Cond.{cond_both}
use Rattle.laws.proofs.Some.{every-at}
use Rattle.strengths.specs.Blocks.{own_block, block_row, block_column, macroblock_of, in_eight}
use Rattle.strengths.specs.Eights.{eight_from}
use Rattle.strengths.specs.Kinds.{every_own}
use Rattle.strengths.specs.Strength.{vertical, edge, segment, q_row, q_column, q_block, p_block}

-- block i is the one of macroblock (x, y) in row r and column c
pub record Own (w x y r c i : ℕ) : Type 0 where
  pub row : r < 4
  pub col : c < 4
  pub is : i ≡ own_block w x y r c

-- what is true of every own block is true of each
pub at : (w x y i : ℕ) {r c : ℕ} (f : ℕ → Bool) → every_own w x y f ≡ true → Own w x y r c i → f i ≡ true
at w x y i {r} {c} f e o = ap f o.is ∙ every-at 4 c _ (every-at 4 r _ e o.row) o.col

-- ---- q and p
four : (n : ℕ) → n % 4 < 4
four n = omega arith

pub q-own : (w x y k : ℕ) → Own w x y (q_row k) (q_column k) (q_block w x y k)
q-own w x y k =
    record {
      row = cond_both (λ (n : ℕ). n < 4) (vertical k) (four k) (four (k / 4));
      col = cond_both (λ (n : ℕ). n < 4) (vertical k) (four (k / 4)) (four k);
      is = refl;
    }

-- across an inner edge
pub p-own : (w x y k : ℕ) → (edge k ≡ 0 → ⊥) → Own w x y (cond (vertical k) (segment k) (edge k - 1)) (cond (vertical k) (edge k - 1) (segment k)) (p_block w x y k)
p-own w x y k n =
    record {
      row = cond_both (λ (n : ℕ). n < 4) (vertical k) (four k) (omega (arith, four (k / 4)));
      col = cond_both (λ (n : ℕ). n < 4) (vertical k) (omega (arith, four (k / 4))) (four k);
      is = go (vertical k);
    }
  where
    up : edge k * (4 * w) ≡ (edge k - 1) * (4 * w) + 4 * w
    up = let f : edge k ≡ suc (edge k - 1) = omega arith in ap (λ (m : ℕ). m * (4 * w)) f ∙ omega arith

    go : (b : Bool) → own_block w x y (cond b (segment k) (edge k)) (cond b (edge k) (segment k)) - cond b 1 (4 * w)
        ≡ own_block w x y (cond b (segment k) (edge k - 1)) (cond b (edge k - 1) (segment k))
    go true = omega arith
    go false = omega (arith, up)

-- across the left edge, and across the upper one
pub left-own : (w x y k : ℕ) → edge k ≡ 0 → vertical k ≡ true → 0 < x → Own w (x - 1) y (segment k) 3 (p_block w x y k)
left-own w x y k e v h = record { row = four k; col = omega arith; is = go (vertical k) v (edge k) e }
  where
    go : (b : Bool) → b ≡ true → (n : ℕ) → n ≡ 0 → own_block w x y (cond b (segment k) n) (cond b n (segment k)) - cond b 1 (4 * w) ≡ own_block w (x - 1) y (segment k) 3
    go b p n z = rw (p, z) (omega arith)

pub upper-own : (w x y k : ℕ) → edge k ≡ 0 → vertical k ≡ false → 0 < y → Own w x (y - 1) 3 (segment k) (p_block w x y k)
upper-own w x y k e v h = record { row = omega arith; col = four k; is = go (vertical k) v (edge k) e }
  where
    up : y * w ≡ (y - 1) * w + w
    up = let f : y ≡ suc (y - 1) = omega arith in ap (λ (m : ℕ). m * w) f ∙ omega arith

    go : (b : Bool) → b ≡ false → (n : ℕ) → n ≡ 0 → own_block w x y (cond b (segment k) n) (cond b n (segment k)) - cond b 1 (4 * w) ≡ own_block w x (y - 1) 3 (segment k)
    go b p n z = rw (p, z) (omega (arith, up))

-- ---- places in the picture
module _ {w x y r c i : ℕ} (inside : x < w) (o : Own w x y r c i) where
  place : i ≡ (4 * y + r) * (4 * w) + (4 * x + c)
  place = o.is ∙ omega arith

  fits : 4 * x + c < 4 * w
  fits = omega (arith, o.col)

  pub own_row : block_row w i ≡ 4 * y + r
  own_row = ap (λ (n : ℕ). n / (4 * w)) place ∙ digits_div (4 * y + r) fits

  pub own-column : block_column w i ≡ 4 * x + c
  own-column = ap (λ (n : ℕ). n % (4 * w)) place ∙ digits_mod (4 * y + r) fits

  pub own-macroblock : macroblock_of w i ≡ y * w + x
  own-macroblock =
      let a : block_row w i / 4 ≡ y = omega (arith, own_row, o.row) in
      let b : block_column w i / 4 ≡ x = omega (arith, own-column, o.col) in
      λ j. a j * w + b j

  -- its 8x8 block is the macroblock's
  pub own-eight : (a b : ℕ) → in_eight w i a b ≡ own_block w x y (r / 2 * 2 + a) (c / 2 * 2 + b)
  own-eight a b =
      let e : block_row w i / 2 * 2 + a ≡ 4 * y + (r / 2 * 2 + a) = omega (arith, own_row) in
      let f : block_column w i / 2 * 2 + b ≡ 4 * x + (c / 2 * 2 + b) = omega (arith, own-column) in
      (λ j. e j * (4 * w) + f j) ∙ omega arith

  pub eight-own : (a b : ℕ) → a < 2 → b < 2 → Own w x y (r / 2 * 2 + a) (c / 2 * 2 + b) (in_eight w i a b)
  eight-own a b h k = record { row = omega (arith, o.row); col = omega (arith, o.col); is = own-eight a b }

  -- .. from the block in its first row and column on
  halved : r * (4 * w) ≡ r / 2 * 2 * (4 * w) + r % 2 * (4 * w)
  halved = let e : r ≡ r / 2 * 2 + r % 2 = omega arith in ap (λ (n : ℕ). n * (4 * w)) e ∙ omega arith

  pub eight-from : (a b : ℕ) → eight_from (4 * w) (r % 2) i + a * (4 * w) + b ≡ in_eight w i a b
  eight-from a b = omega (arith, o.is, halved) ∙ sym (own-eight a b)

  pub eight-below : r % 2 * (4 * w) + i % 2 ≤ i
  eight-below = omega (arith, o.is, halved)

  -- and it ends with the macroblock
  pub own-last : i ≤ own_block w x y 3 3
  own-last = let m = mul-le-mul_right {m = r} {n = 3} (4 * w) (omega (arith, o.row)) in omega (arith, o.is, o.col)

  pub eight-last : eight_from (4 * w) (r % 2) i + 4 * w + 1 ≤ own_block w x y 3 3
  eight-last =
      let m = mul-le-mul_right {m = r / 2 * 2 + 1} {n = 3} (4 * w) (omega (arith, o.row)) in
      omega (arith, eight-from 1 1, own-eight 1 1, m, o.col)
