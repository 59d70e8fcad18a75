-- The numbers of pictures stored in the grids and no tables lent, in the place of indices and tables: a
-- strength call does the same. It is what a caller does whose slices have lists of their own. Assumes
-- nothing.
use mathlib.Core.Path.{◌≡◌, refl, sym, ap, ◌∙◌}
use mathlib.Core.Bool.{Bool, false, ◌||◌, true≢false}
use mathlib.Core.List.{List, [], ◌∷◌, map}
use Prim.Native.Nat.{ℕ, ◌*◌, ◌<◌}
use native.Mathlib.Decide.{dec_lt}
use native.Mathlib.Omega.{arith}
use lib.Dec.{eqb}
use lib.IntN.{ℤ, pos, negsuc}
use lib.ListN.{length, get_or, length-map, get_or-map, get_or-eq_default}
use lib.Signed.{lt_z}
use Rattle.laws.specs.Refusal.{refusal}
use Rattle.laws.proofs.Bools.{or-false}
use Rattle.laws.proofs.Lists.{within-any}
use Rattle.laws.proofs.Some.{some-not}
use Rattle.motion.specs.Grids.{Grids, grids, ref_at, vector_at, block_of, block_read, blk_at}
use Rattle.motion.specs.Pictures.{none, named_by}
use Rattle.motion.proofs.Pictures.{none_named}
use Rattle.sizes.specs.declared.Size.{Size}
use Rattle.strengths.specs.Blocks.{some_read}
use Rattle.strengths.specs.Calls.{derive_checks}
use Rattle.strengths.specs.Checks.{bad_lengths, below_none, bad_refs, not_picture, bad_table, bad_pictures}
use Rattle.strengths.proofs.Alike.{SameCalls, equal-blocks, alike-calls}
use Rattle.strengths.proofs.SameReads.{read_same, not-read}
use Rattle.strengths.proofs.Tables.{checks_by, tables_fit, empty-good}

abbrev pub stored_pictures : Grids → Grids
stored_pictures g =
    grids g.inter g.nnz (map (named_by g.pictures0) g.ref0) g.mv0 (map (named_by g.pictures1) g.ref1) g.mv1 [] []

-- the number that is stored for a reference
stored_at : (t refs : List ℤ) (i : ℕ) → ref_at (map (named_by t) refs) i ≡ named_by t (ref_at refs i)
stored_at t refs i =
    ap (get_or (map (named_by t) refs) i) (sym (none_named t)) ∙ get_or-map (named_by t) refs i none

-- it is none or a number, where the reference and the table are good
entry-good : (p : ℤ) → not_picture p ≡ false → lt_z p none ≡ false
entry-good (pos i) e = refl
entry-good (negsuc i) e = absurd (true≢false e)

named-good : (t : List ℤ) (r : ℤ) → bad_table t ≡ false → lt_z r none ≡ false → lt_z (named_by t r) none ≡ false
unfolding named_by bad_table
named-good [] r e h = h
named-good (p ∷ t) (pos i) e h = go (dec_lt i (length (p ∷ t)))
  where
    go : Dec (i < length (p ∷ t)) → lt_z (get_or (p ∷ t) i none) none ≡ false
    go (yes l) = entry-good (get_or (p ∷ t) i none) (ap not_picture (within-any (p ∷ t) i none (pos 0) l) ∙ some-not (length (p ∷ t)) i (λ i. not_picture (get_or (p ∷ t) i (pos 0))) e l)
    go (no m) = ap (λ (z : ℤ). lt_z z none) (get_or-eq_default (p ∷ t) none {n = i} (omega arith))
named-good (p ∷ t) (negsuc i) e h = refl

-- so check 10 passes as it did
ten-stored : (w x y : ℕ) (t refs : List ℤ) → bad_table t ≡ false → some_read w x y (below_none refs) ≡ false
    → some_read w x y (below_none refs) ≡ some_read w x y (below_none (map (named_by t) refs))
ten-stored w x y t refs good e =
    read_same w x y (below_none refs) (below_none (map (named_by t) refs))
    (λ i b. let h = not-read w x y (below_none refs) e i b in h ∙ sym (ap (λ (z : ℤ). lt_z z none) (stored_at t refs i) ∙ named-good t (ref_at refs i) good h))

module _ (size : Size) (field : Bool) (x y : ℕ) (t8s : List ℕ) (g : Grids) (s : List ℕ) (fit : tables_fit g) (ten : bad_refs g size.w x y ≡ false)
    (good : bad_pictures g ≡ false) where
  blk-stored : (i : ℕ) → blk_at g i ≡ blk_at (stored_pictures g) i
  unfolding block_read named_by
  blk-stored i =
      λ j. block_of (eqb (get_or g.inter i 0) 1)
      (vector_at (sym (stored_at g.pictures0 g.ref0 i) j) g.mv0 i)
      (vector_at (sym (stored_at g.pictures1 g.ref1 i) j) g.mv1 i)

  checks-stored : refusal (derive_checks size x y t8s g (length s)) ≡ refusal (derive_checks size x y t8s (stored_pictures g) (length s))
  checks-stored =
      let a = or-false (bad_table g.pictures0) (bad_table g.pictures1) good in
      let r = or-false (some_read size.w x y (below_none g.ref0)) (some_read size.w x y (below_none g.ref1)) ten in
      λ i. refusal (checks_by size x y t8s g (length s)
      (bad_lengths (16 * (size.w * size.h)) (length g.inter) (length g.nnz) (sym (length-map g.ref0 (named_by g.pictures0)) i) (length g.mv0) (sym (length-map g.ref1 (named_by g.pictures1)) i) (length g.mv1) || fit i)
      (ten-stored size.w x y g.pictures0 g.ref0 a.0 r.0 i || ten-stored size.w x y g.pictures1 g.ref1 a.1 r.1 i)
      ((a.0 ∙ sym empty-good) i || (a.1 ∙ sym empty-good) i))

  pub stored_same : SameCalls size field x y t8s t8s g (stored_pictures g) s
  stored_same =
      alike-calls size field x y s checks-stored (λ e. equal-blocks size.w x y t8s g (stored_pictures g) refl (λ i b. blk-stored i))
