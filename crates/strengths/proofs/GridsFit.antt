-- What a strength call knows once checks 1 to 5 have passed: its blocks lie in the grids. Assumes nothing.
use mathlib.Core.Path.{◌≡◌}
use mathlib.Core.Bool.{true, false, ◌&&◌, ◌||◌}
use mathlib.Core.List.{List}
use mathlib.Core.Logic.{◌⊎◌, inl, inr, ⊎_elim}
use Prim.Native.Nat.{ℕ, ◌+◌, ◌*◌, ◌≤◌, ◌<◌}
use native.Mathlib.Omega.{arith}
use borrow.Author.Tests.{eqb-true, leb-false, not-false}
use lib.Dec.{eqb, leb}
use lib.ListN.{length}
use Rattle.laws.proofs.Bools.{and-true, or-false, or-true, equal, full}
use Rattle.laws.specs.Refusal.{refusal}
use Rattle.laws.proofs.Grid.{row_fits, index-lt}
use Rattle.laws.proofs.Refusal.{passes}
use Rattle.motion.specs.Grids.{Grids}
use Rattle.motion.specs.Inner.{Optional, Hold}
use Rattle.strengths.specs.Blocks.{own_block}
use Rattle.strengths.specs.Inner.{InGrids, GridsReach}
use Rattle.strengths.specs.Calls.{length_checks}
use Rattle.strengths.specs.Checks.{bad_grids}
use Rattle.sizes.specs.Inner.{InPicture}
use Rattle.sizes.specs.declared.Size.{Size}
use Rattle.sizes.proofs.Sized.{Sized, sized}

pub record GridsFit (size : Size) (x y : ℕ) (t8s : List ℕ) (g : Grids) (n : ℕ) : Type 0 where
  pub sides : Sized size
  pub column : x < size.w
  pub line : y < size.h
  pub strengths : n ≡ 32 * (size.w * size.h)
  pub flags : eqb (length t8s) 0 ≡ false → length t8s ≡ size.w * size.h
  pub inters : length g.inter ≡ 16 * (size.w * size.h)
  pub counts : length g.nnz ≡ 16 * (size.w * size.h)
  pub refs : length g.ref0 ≡ 16 * (size.w * size.h)
  pub vectors : length g.mv0 ≡ 2 * (16 * (size.w * size.h))
  pub list1 : ((length g.ref1 ≡ 0) × (length g.mv1 ≡ 0)) ⊎ ((length g.ref1 ≡ 16 * (size.w * size.h)) × (length g.mv1 ≡ 2 * (16 * (size.w * size.h))))

pub grids-fit : (size : Size) (x y : ℕ) (t8s : List ℕ) (g : Grids) (n : ℕ) → refusal (length_checks size x y t8s g n) ≡ 0 → GridsFit size x y t8s g n
grids-fit size x y t8s g n e =
    let o = or-false (leb size.w x) (leb size.h y) (passes 2 (length_checks size x y t8s g n) tt e) in
    let f = or-false _ _ (passes 4 (length_checks size x y t8s g n) tt e) in
    let l = or-false (bad_grids (16 * (size.w * size.h)) g) _ (passes 5 (length_checks size x y t8s g n) tt e) in
    let a = or-false _ _ l.0 in
    let b = or-false _ _ a.0 in
    let c = or-false _ _ b.0 in
    let d = or-false _ _ c.0 in
    record {
      sides = sized size (passes 1 (length_checks size x y t8s g n) tt e);
      column = leb-false size.w x o.0;
      line = leb-false size.h y o.1;
      strengths = equal _ _ f.0;
      flags = full (length t8s) (size.w * size.h) f.1;
      inters = equal _ _ d.0;
      counts = equal _ _ d.1;
      refs = equal _ _ c.1;
      vectors = equal _ _ b.1;
      list1 = list (length g.ref1) (length g.mv1) (16 * (size.w * size.h)) (not-false _ a.1);
    }
  where
    list : (r m k : ℕ) → ((eqb r 0 && eqb m 0) || (eqb r k && eqb m (2 * k))) ≡ true → ((r ≡ 0) × (m ≡ 0)) ⊎ ((r ≡ k) × (m ≡ 2 * k))
    list r m k f =
        ⊎_elim
        (λ h. let q = and-true (eqb r 0) (eqb m 0) h in inl (eqb-true r 0 q.0, eqb-true m 0 q.1))
        (λ h. let q = and-true (eqb r k) (eqb m (2 * k)) h in inr (eqb-true r k q.0, eqb-true m (2 * k) q.1))
        (or-true (eqb r 0 && eqb m 0) (eqb r k && eqb m (2 * k)) f)

module _ (size : Size) (x y : ℕ) (t8s : List ℕ) (g : Grids) (n : ℕ) (h : GridsFit size x y t8s g n) where
  last : own_block size.w x y 3 3 < 16 * (size.w * size.h)
  last = let c = h.column in let f = row_fits y size.w size.h h.line in omega arith

  inside_of : (k : ℕ) → 16 * (size.w * size.h) ≤ k → InGrids size.w x y k
  inside_of k l = record { column = h.column; last = omega (arith, last) }

  small : InGrids size.w x y 589824
  small = inside_of 589824 (omega (arith, h.sides.most))

  holds : Hold g.inter g.ref0 g.mv0 g.ref1 g.mv1 (own_block size.w x y 3 3 + 1)
  holds =
      let a = h.inters in
      let c = h.refs in
      let d = h.vectors in
      let l = last in
      record { inters = omega arith; refs = omega arith; vectors = omega arith; list1 = ⊎_elim none full h.list1 }
    where
      none : (length g.ref1 ≡ 0) × (length g.mv1 ≡ 0) → Optional g.ref1 g.mv1 (own_block size.w x y 3 3 + 1)
      none e = record { empty = λ k. e.1; full = λ k. absurd (no e.0 k) }
        where
          no : length g.ref1 ≡ 0 → 0 < length g.ref1 → ⊥
          no p q = omega arith

      full : (length g.ref1 ≡ 16 * (size.w * size.h)) × (length g.mv1 ≡ 2 * (16 * (size.w * size.h))) → Optional g.ref1 g.mv1 (own_block size.w x y 3 3 + 1)
      full e = record { empty = λ k. absurd (no e.0 k last); full = λ k. (omega (arith, e.0, last), omega (arith, e.1, last)) }
        where
          no : length g.ref1 ≡ 16 * (size.w * size.h) → length g.ref1 ≡ 0 → own_block size.w x y 3 3 < 16 * (size.w * size.h) → ⊥
          no p q r = omega arith

  -- the macroblock in grids by macroblock
  in-picture : (k : ℕ) → size.w * size.h ≤ k → InPicture size.w x y k
  in-picture k l = record { column = h.column; index = omega (arith, index-lt size.w size.h x y h.column h.line) }

-- ---- what the walks and the derivation ask
pub record Derivable (size : Size) (x y : ℕ) (t8s : List ℕ) (g : Grids) (n : ℕ) : Type 0 where
  pub within : GridsReach g size.w x y
  pub place : InGrids size.w x y 589824
  pub flags : eqb (length t8s) 0 ≡ false → InPicture size.w x y (length t8s)
  pub index : InPicture size.w x y 36864
  pub room : 32 * (y * size.w + x) + 32 ≤ n

pub derivable : (size : Size) (x y : ℕ) (t8s : List ℕ) (g : Grids) (n : ℕ) → GridsFit size x y t8s g n → Derivable size x y t8s g n
derivable size x y t8s g n h =
    record {
      within = record { hold = holds size x y t8s g n h; counts = inside_of size x y t8s g n h _ (omega (arith, h.counts)) };
      place = small size x y t8s g n h;
      flags = λ e. in-picture size x y t8s g n h (length t8s) (omega (arith, h.flags e));
      index = in-picture size x y t8s g n h 36864 (omega (arith, h.sides.most));
      room = omega (arith, index-lt size.w size.h x y h.column h.line, h.strengths);
    }
