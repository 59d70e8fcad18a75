-- Two inputs that agree on what a strength call reads: its checks are the same of both, and it cannot tell
-- them apart. Assumes nothing.
use mathlib.Core.Path.{◌≡◌, sym, ap, subst, ◌∙◌}
use mathlib.Core.Bool.{Bool, false, not, ◌&&◌, ◌||◌}
use mathlib.Core.List.{List, [], ◌∷◌}
use Prim.Native.Nat.{ℕ, ◌-◌, ◌*◌, ◌<◌}
use native.Mathlib.Omega.{arith}
use borrow.Author.Tests.{lt-ltb}
use lib.Dec.{eqb, ltb, lit≤}
use lib.IntN.{ℤ}
use lib.ListN.{length}
use lib.Signed.{lt_z}
use Rattle.laws.specs.Some.{some}
use Rattle.laws.proofs.Bools.{or-false}
use Rattle.laws.proofs.Some.{some-not, some_same}
use Rattle.motion.specs.Grids.{Grids, ref_at, block_of, block_read, blk_at}
use Rattle.motion.specs.Motion.{differ, same_motion}
use Rattle.motion.specs.Pictures.{none, named_by}
use Rattle.motion.specs.declared.blocks.Blk.{Blk}
use Rattle.motion.specs.declared.blocks.Motion.{Motion}
use Rattle.sizes.specs.Entries.{bad_flag}
use Rattle.sizes.specs.Sizes.{bad_size, outside_of}
use Rattle.sizes.specs.declared.Size.{Size}
use Rattle.strengths.specs.Blocks.{origin, own_block, left_block, above_block, some_read}
use Rattle.strengths.specs.Calls.{derive_checks}
use Rattle.strengths.specs.Checks.{bad_by_macroblock, bad_lengths, one_table, bad_flags, below_none, bad_table, differs, disagree}
use Rattle.strengths.specs.Reads.{Beside, own-block, left-block, above-block, SameReads}
use Rattle.strengths.proofs.Alike.{Alike, where-there, first-own}

-- ---- a test of the blocks that are read
pub read_same : (w x y : ℕ) (f h : ℕ → Bool) → ((i : ℕ) → Beside w x y i → f i ≡ h i) → some_read w x y f ≡ some_read w x y h
unfolding some_read
read_same w x y f h same =
    λ i. some_same 4 _ (λ r. some 4 (λ c. h (own_block w x y r c))) (λ r k. some_same 4 _ (λ c. h (own_block w x y r c)) (λ c l. same _ (own-block r c k l))) i
    || where-there x (λ t. some_same 4 _ (λ k. h (left_block w x y k)) (λ k l. same _ (left-block t k l))) i
    || where-there y (λ t. some_same 4 _ (λ k. h (above_block w x y k)) (λ k l. same _ (above-block t k l))) i

-- one that none passes
there : (n : ℕ) {t : Bool} → (ltb 0 n && t) ≡ false → 0 < n → t ≡ false
there n {t} e h = sym (ap (λ (p : Bool). p && t) (lt-ltb 0 n h)) ∙ e

pub not-read : (w x y : ℕ) (f : ℕ → Bool) → some_read w x y f ≡ false → (i : ℕ) → Beside w x y i → f i ≡ false
unfolding some_read
not-read w x y f e = go
  where
    own : Bool
    own = some 4 (λ r. some 4 (λ c. f (own_block w x y r c)))

    left : Bool
    left = some 4 (λ k. f (left_block w x y k))

    above : Bool
    above = some 4 (λ k. f (above_block w x y k))

    first : (own ≡ false) × ((ltb 0 x && left) ≡ false)
    first = or-false own (ltb 0 x && left) (or-false (own || (ltb 0 x && left)) (ltb 0 y && above) e).0

    go : (i : ℕ) → Beside w x y i → f i ≡ false
    go i (own-block r c k l) =
        some-not 4 c (λ c. f (own_block w x y r c)) (some-not 4 r (λ r. some 4 (λ c. f (own_block w x y r c))) first.0 k) l
    go i (left-block h k l) = some-not 4 k (λ k. f (left_block w x y k)) (there x first.1 h) l
    go i (above-block h k l) =
        some-not 4 k (λ k. f (above_block w x y k)) (there y (or-false (own || (ltb 0 x && left)) (ltb 0 y && above) e).1 h) l

refs-same : (w x y : ℕ) (refs refs' : List ℤ) → ((i : ℕ) → Beside w x y i → ref_at refs i ≡ ref_at refs' i)
    → some_read w x y (below_none refs) ≡ some_read w x y (below_none refs')
refs-same w x y refs refs' h = read_same w x y _ _ (λ i b. ap (λ (r : ℤ). lt_z r none) (h i b))

module _ {w x y : ℕ} {t8s t8s' : List ℕ} {g g' : Grids} (same : SameReads w x y t8s t8s' g g') where
  -- ---- checks 7 and 11
  bad-flags-same : bad_flags t8s w x y ≡ bad_flags t8s' w x y
  bad-flags-same =
      λ j. not (eqb (same.long.flags j) 0)
      && (bad_flag (same.flag j)
      || where-there x (λ h. ap bad_flag (same.flag-left h)) j
      || where-there y (λ h. ap bad_flag (same.flag-above h)) j)

  differs-same : (i j : ℕ) → Beside w x y i → Beside w x y j → differs g.inter i j ≡ differs g'.inter i j
  differs-same i j b c = λ k. not (eqb ((same.block i b).inter k) ((same.block j c).inter k))

  disagree-same : disagree g.inter w x y ≡ disagree g'.inter w x y
  unfolding disagree
  disagree-same =
      λ j. some_same 4 _ (λ r. some 4 (λ c. differs g'.inter (own_block w x y r c) (origin w x y))) (λ r k. some_same 4 _ _ (λ c l. differs-same _ _ (own-block r c k l) (first-own w x y))) j
      || where-there x (λ h. some_same 4 _ (λ k. differs g'.inter (left_block w x y k) (origin w x y - 1)) (λ k l. differs-same _ _ (left-block h k l) (subst (Beside w x y) (omega arith) (left-block h 0 (lit≤ tt))))) j
      || where-there y (λ h. some_same 4 _ (λ k. differs g'.inter (above_block w x y k) (origin w x y - 4 * w)) (λ k l. differs-same _ _ (above-block h k l) (subst (Beside w x y) (omega arith) (above-block h 0 (lit≤ tt))))) j

  -- ---- a block
  blk-same : (i : ℕ) → Beside w x y i → blk_at g i ≡ blk_at g' i
  unfolding block_read
  blk-same i b =
      let s = same.block i b in
      λ j. block_of (eqb (s.inter j) 1)
      (record { reference = named_by (same.table0 j) (s.list0 j).reference; x = (s.list0 j).x; y = (s.list0 j).y })
      (record { reference = named_by (same.table1 j) (s.list1 j).reference; x = (s.list1 j).x; y = (s.list1 j).y })

  pub reads-alike : Alike w x y t8s t8s' g g'
  reads-alike = record {
    long = same.long.flags;
    flag = same.flag;
    flag-left = same.flag-left;
    flag-above = same.flag-above;
    count = same.count;
    inter = λ i b. ap (λ (q : Blk). q.inter) (blk-same i b);
    same = λ i j b c k. same_motion (blk-same i b k) (blk-same j c k);
    apart = λ v i j b c k. differ v (blk-same i b k) (blk-same j c k);
  }

-- ---- all checks but 12
pub checks-same : (size : Size) (x y : ℕ) {t8s t8s' : List ℕ} {g g' : Grids} → SameReads size.w x y t8s t8s' g g' → (n : ℕ)
    → derive_checks size x y t8s g n ≡ derive_checks size x y t8s' g' n
checks-same size x y {t8s} {t8s'} {g} {g'} same n =
    let l = same.long in
    let inter = read_same size.w x y _ _ (λ i b. ap (ltb 1) (same.block i b).inter) in
    let r0 = refs-same size.w x y g.ref0 g'.ref0 (λ i b. ap (λ (m : Motion). m.reference) (same.block i b).list0) in
    let r1 = refs-same size.w x y g.ref1 g'.ref1 (λ i b. ap (λ (m : Motion). m.reference) (same.block i b).list1) in
    λ j. (1, bad_size size)
    ∷ (2, outside_of size x y)
    ∷ (4, bad_by_macroblock (size.w * size.h) n (l.flags j))
    ∷ (
      5,
      bad_lengths (16 * (size.w * size.h)) (l.inters j) (l.counts j) (l.refs0 j) (l.mvs0 j) (l.refs1 j) (l.mvs1 j)
          || one_table (l.refs1 j) (length (same.table0 j)) (length (same.table1 j)),
    )
    ∷ (7, inter j || bad-flags-same same j)
    ∷ (10, r0 j || r1 j)
    ∷ (22, bad_table (same.table0 j) || bad_table (same.table1 j))
    ∷ (11, disagree-same same j)
    ∷ []
