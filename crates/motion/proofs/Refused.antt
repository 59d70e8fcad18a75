-- Wrong rules, each shown to differ from the right one at a small input. Assumes nothing.
use Rattle.std.proofs.Common.{◌≡◌, ℕ, suc, Bool, false, not, ◌||◌, eqb, List, [], ◌∷◌, get_or, ℤ, pos, negsuc, ◌-ℤ◌, neg_ℤ, ap, true≢false, w16, to_z, of_z}
use mathlib.Core.Bool.{false≢true}
use lib.Signed.{lt_z}
use Rattle.motion.specs.Cases.{moving, no_motion, inter_block, straight, crossed, twice}
use Rattle.motion.specs.Far.{outside}
use Rattle.motion.specs.Grids.{Grids, grids, motion_at, block_of, block_read, blk_at}
use Rattle.motion.specs.Motion.{motion0, motion1, is_used, if_used, used, mate, in_order, references, mismatched, differ}
use Rattle.motion.specs.Pictures.{named_by}
use Rattle.motion.specs.Sets.{same_set}
use Rattle.motion.specs.declared.blocks.Blk.{Blk}
use Rattle.motion.specs.declared.blocks.Motion.{Motion}

-- far on one side only: -4
abbrev one_side : ℕ → ℤ → Bool
one_side m d = lt_z (pos m) d

pub not-one-side : one_side 3 (negsuc 3) ≡ outside 3 (negsuc 3) → ⊥
unfolding outside
not-one-side = false≢true

-- far above from m + 2 on: 4
abbrev late : ℕ → ℤ → Bool
late m d = lt_z d (neg_ℤ (pos m)) || lt_z (pos (suc m)) d

pub not_late : late 3 (pos 4) ≡ outside 3 (pos 4) → ⊥
unfolding outside
not_late = false≢true

-- a difference that wraps as an i16 does: -32,768 against 32,767
abbrev wrapped : ℕ → ℤ → Bool
wrapped m d = outside m (to_z w16 (of_z w16 d))

pub not-wrapped : wrapped 3 (negsuc 32767 -ℤ pos 32767) ≡ outside 3 (negsuc 32767 -ℤ pos 32767) → ⊥
unfolding outside
not-wrapped = false≢true

-- the crossed pairing dropped: P10
abbrev uncrossed : ℕ → Blk → Blk → Bool
uncrossed v p q = not (in_order v (used p) (used q))

pub not-uncrossed : uncrossed 3 straight crossed ≡ differ 3 straight crossed → ⊥
unfolding differ mismatched used outside
not-uncrossed = true≢false

-- list 1 ignored: second references with vectors apart
abbrev list0_only : ℕ → Blk → Blk → Bool
list0_only v p q = mismatched v (if_used (motion0 p)) (if_used (motion0 q))

pub not-list0-only :
    list0_only 3 straight (inter_block (moving 5 (pos 0)) (moving 7 (pos 0))) ≡ differ 3 straight (inter_block (moving 5 (pos 0)) (moving 7 (pos 0))) → ⊥
unfolding differ mismatched used outside
not-list0-only = false≢true

-- list 0's motion read for list 1's too: a block that uses list 1 alone
abbrev list0_twice : Grids → ℕ → Blk
list0_twice g i =
    block_of (eqb (get_or g.inter i 0) 1) (motion_at g.pictures0 g.ref0 g.mv0 i) (motion_at g.pictures0 g.ref0 g.mv0 i)

abbrev list1_alone : Grids
list1_alone = grids (1 ∷ []) (0 ∷ []) (negsuc 0 ∷ []) (pos 0 ∷ pos 0 ∷ []) (pos 3 ∷ []) (pos 0 ∷ pos 0 ∷ []) [] []

pub not-list0-twice : list0_twice list1_alone 0 ≡ blk_at list1_alone 0 → ⊥
unfolding block_read named_by
not-list0-twice e = false≢true (ap (λ (b : Blk). is_used (motion1 b)) e)

-- the number of used references ignored: one against the same and another
abbrev uncounted : ℕ → List Motion → List Motion → Bool
uncounted v [] q = false
uncounted v (a ∷ p) [] = false
uncounted v (a ∷ p) (b ∷ q) = not (mate v a b) || uncounted v p q

pub not-uncounted : uncounted 3 (used (inter_block (moving 5 (pos 0)) no_motion)) (used straight) ≡ differ 3 (inter_block (moving 5 (pos 0)) no_motion) straight → ⊥
unfolding differ mismatched used outside
not-uncounted = false≢true

-- sets of references compared and vectors not: P11
abbrev sets_only : ℕ → Blk → Blk → Bool
sets_only v p q = not (same_set (references (used p)) (references (used q)))

pub not-sets-only : sets_only 3 (twice (pos 0) (pos 8)) (twice (pos 8) (pos 4)) ≡ differ 3 (twice (pos 0) (pos 8)) (twice (pos 8) (pos 4)) → ⊥
unfolding differ mismatched used outside
not-sets-only = false≢true
