-- Across an edge that is no border there is a block p: its macroblock, that one's flag, and what is read of
-- it. Assumes nothing.
use mathlib.Core.Path.{◌≡◌, refl, sym, ap, subst, ◌∙◌}
use mathlib.Core.Bool.{Bool, true, false, cond, ◌&&◌}
use Prim.Native.Nat.{ℕ, zero, suc, ◌+◌, ◌-◌, ◌*◌, ◌/◌, ◌%◌, ◌≤◌, ◌<◌}
use native.Mathlib.Nat.{le_refl}
use native.Mathlib.Omega.{arith}
use borrow.Author.Tests.{eqb-true, eqb-false, lt-ltb}
use lib.Dec.{eqb}
use Rattle.strengths.specs.Blocks.{own_block, above_block, in_eight}
use Rattle.strengths.specs.Eights.{transforms_of, across_flag, p_odd}
use Rattle.strengths.specs.Reads.{Beside, own-block, left-block, above-block, CountRead, near, next-left, next-above}
use Rattle.strengths.specs.Strength.{vertical, edge, segment, p_block, border}
use Rattle.strengths.proofs.OwnBlocks.{Own, p-own, left-own, upper-own, own-eight, eight-own}

pub record Across (w : ℕ) (t8s : ℕ → Bool) (x y k : ℕ) : Type 0 where
  pub column : ℕ
  pub row : ℕ
  pub inside : column < w
  pub line : ℕ
  pub place : ℕ
  pub own : Own w column row line place (p_block w x y k)
  pub odd : p_odd k ≡ line % 2
  pub flag : across_flag (transforms_of t8s w x y) k ≡ t8s (row * w + column)
  pub last : own_block w column row 3 3 ≤ own_block w x y 3 3
  pub beside : Beside w x y (p_block w x y k)
  pub eight : across_flag (transforms_of t8s w x y) k ≡ true → (a b : ℕ) → a < 2 → b < 2 → CountRead t8s w x y (in_eight w (p_block w x y k) a b)

pub own-beside : {w x y r c i : ℕ} → Own w x y r c i → Beside w x y i
own-beside {w} {x} {y} {r} {c} {i} o = subst (Beside w x y) (sym o.is) (own-block r c o.row o.col)

module _ (w : ℕ) (t8s : ℕ → Bool) (x y k : ℕ) (inside : x < w) where
  inner : eqb (edge k) 0 ≡ false → Across w t8s x y k
  inner e =
      record {
        column = x;
        row = y;
        inside = inside;
        line = cond (vertical k) (segment k) (edge k - 1);
        place = cond (vertical k) (edge k - 1) (segment k);
        own = o;
        odd = up (vertical k);
        flag = ap (λ (b : Bool). cond b (cond (vertical k) (transforms_of t8s w x y).left (transforms_of t8s w x y).above) (t8s (y * w + x))) e;
        last = le_refl _;
        beside = own-beside o;
        eight = λ f a b h l. near (own-beside (eight-own inside o a b h l));
      }
    where
      o : Own w x y (cond (vertical k) (segment k) (edge k - 1)) (cond (vertical k) (edge k - 1) (segment k)) (p_block w x y k)
      o = p-own w x y k (eqb-false (edge k) 0 e)

      up : (b : Bool) → cond b (segment k) (edge k + 1) % 2 ≡ cond b (segment k) (edge k - 1) % 2
      up true = refl
      up false = let n = eqb-false (edge k) 0 e in omega arith

  module _ (e : eqb (edge k) 0 ≡ true) (v : vertical k ≡ true) (h : 0 < x) where
    of_left : Own w (x - 1) y (segment k) 3 (p_block w x y k)
    of_left = left-own w x y k (eqb-true (edge k) 0 e) v h

    left-flag : across_flag (transforms_of t8s w x y) k ≡ t8s (y * w + x - 1)
    left-flag = λ j. cond (e j) (cond (v j) (lt-ltb 0 x h j && t8s (y * w + x - 1)) (transforms_of t8s w x y).above) (t8s (y * w + x))

    -- the second column of an 8x8 block there is next to the macroblock
    left-eight : t8s (y * w + x - 1) ≡ true → (a b : ℕ) → a < 2 → b < 2 → CountRead t8s w x y (in_eight w (p_block w x y k) a b)
    left-eight f a zero m l =
        subst (CountRead t8s w x y) (sym (own-eight (omega arith) of_left a 0 ∙ omega arith)) (next-left h f (segment k / 2 * 2 + a) (omega (arith, of_left.row)))
    left-eight f a (suc b) m l =
        subst (CountRead t8s w x y) (sym (own-eight (omega arith) of_left a (suc b) ∙ omega arith)) (near (left-block h (segment k / 2 * 2 + a) (omega (arith, of_left.row))))

    left : Across w t8s x y k
    left =
        let i : y * w + x - 1 ≡ y * w + (x - 1) = omega arith in
        record {
          column = x - 1;
          row = y;
          inside = omega arith;
          line = segment k;
          place = 3;
          own = of_left;
          odd = ap (λ (b : Bool). cond b (segment k) (edge k + 1) % 2) v;
          flag = left-flag ∙ ap t8s i;
          last = omega arith;
          beside = subst (Beside w x y) (sym (of_left.is ∙ omega (arith, of_left.row))) (left-block h (segment k) of_left.row);
          eight = λ f. left-eight (sym left-flag ∙ f);
        }

  module _ (e : eqb (edge k) 0 ≡ true) (v : vertical k ≡ false) (h : 0 < y) where
    of-upper : Own w x (y - 1) 3 (segment k) (p_block w x y k)
    of-upper = upper-own w x y k (eqb-true (edge k) 0 e) v h

    upper-flag : across_flag (transforms_of t8s w x y) k ≡ t8s (y * w + x - w)
    upper-flag = λ j. cond (e j) (cond (v j) (transforms_of t8s w x y).left (lt-ltb 0 y h j && t8s (y * w + x - w))) (t8s (y * w + x))

    row_back : y * w ≡ (y - 1) * w + w
    row_back = let f : y ≡ y - 1 + 1 = omega arith in ap (λ (n : ℕ). n * w) f ∙ omega arith

    -- the second row of one there is
    upper-eight : t8s (y * w + x - w) ≡ true → (a b : ℕ) → a < 2 → b < 2 → CountRead t8s w x y (in_eight w (p_block w x y k) a b)
    upper-eight f zero b m l =
        subst (CountRead t8s w x y) (sym (own-eight inside of-upper 0 b ∙ omega (arith, row_back))) (next-above h f (segment k / 2 * 2 + b) (omega (arith, of-upper.col)))
    upper-eight f (suc a) b m l =
        subst (CountRead t8s w x y) (sym (own-eight inside of-upper (suc a) b ∙ second a (omega arith))) (near (above-block h (segment k / 2 * 2 + b) (omega (arith, of-upper.col))))
      where
        second : (n : ℕ) → n ≡ 0 → own_block w x (y - 1) (3 / 2 * 2 + suc n) (segment k / 2 * 2 + b) ≡ above_block w x y (segment k / 2 * 2 + b)
        second n z = rw z (omega (arith, row_back))

    upper : Across w t8s x y k
    upper =
        let i : y * w + x - w ≡ (y - 1) * w + x = omega (arith, row_back) in
        record {
          column = x;
          row = y - 1;
          inside = inside;
          line = 3;
          place = segment k;
          own = of-upper;
          odd = λ j. cond (v j) (segment k) (eqb-true (edge k) 0 e j + 1) % 2;
          flag = upper-flag ∙ ap t8s i;
          last = omega (arith, row_back);
          beside = subst (Beside w x y) (sym (of-upper.is ∙ omega (arith, row_back))) (above-block h (segment k) of-upper.col);
          eight = λ f. upper-eight (sym upper-flag ∙ f);
        }

  pub across : border x y k ≡ false → Across w t8s x y k
  across b = go (eqb (edge k) 0) refl (vertical k) refl
    where
      go : (e : Bool) → eqb (edge k) 0 ≡ e → (v : Bool) → vertical k ≡ v → Across w t8s x y k
      go false e v h = inner e
      go true e true v =
          let z : eqb x 0 ≡ false = sym (λ j. e j && eqb (cond (v j) x y) 0) ∙ b in
          let n = eqb-false x 0 z in
          left e v (omega arith)
      go true e false v =
          let z : eqb y 0 ≡ false = sym (λ j. e j && eqb (cond (v j) x y) 0) ∙ b in
          let n = eqb-false y 0 z in
          upper e v (omega arith)
