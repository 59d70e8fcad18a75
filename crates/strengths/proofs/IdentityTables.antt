-- A table that names each index by itself tells a strength call nothing: for indices inside it all is as with
-- no tables. Assumes nothing.
use mathlib.Core.Path.{◌≡◌, refl, sym, ap, ◌∙◌}
use mathlib.Core.Bool.{Bool, true, false, ◌||◌, true≢false}
use mathlib.Core.List.{List, []}
use Prim.Native.Nat.{ℕ, zero, suc, ◌*◌, ◌<◌, ◌≤◌, zero-le}
use native.Mathlib.Omega.{arith}
use borrow.Author.Tests.{ltb-true, lt-ltb, le-ltb}
use lib.Dec.{eqb}
use lib.IntN.{ℤ, pos, negsuc}
use lib.ListN.{length, get_or}
use lib.Signed.{lt_z}
use Rattle.laws.specs.Refusal.{refusal}
use Rattle.laws.proofs.Bools.{or-false}
use Rattle.laws.proofs.Lists.{within-any}
use Rattle.laws.proofs.Refusal.{passes}
use Rattle.laws.proofs.Some.{some_same, some-idle}
use Rattle.motion.specs.Grids.{Grids, ref_at, vector_at, block_of, block_read, blk_at}
use Rattle.motion.specs.Pictures.{none, named_by}
use Rattle.motion.proofs.Pictures.{none_named, by_entry}
use Rattle.sizes.specs.declared.Size.{Size}
use Rattle.strengths.specs.Blocks.{some_read}
use Rattle.strengths.specs.Calls.{derive_checks}
use Rattle.strengths.specs.Checks.{bad_grids, one_table, below_none, bad_refs, not_picture, bad_table}
use Rattle.strengths.specs.Reads.{Beside}
use Rattle.strengths.proofs.Alike.{SameCalls, equal-blocks, alike-calls}
use Rattle.strengths.proofs.SameReads.{not-read}
use Rattle.strengths.proofs.Tables.{with_tables, checks_by, empty-good}

-- index i names picture i, as far as the table goes, which is no further than check 22 allows
pub record Itself (t : List ℤ) : Type 0 where
  pub each : (i : ℕ) → i < length t → get_or t i none ≡ pos i
  pub numbers : length t ≤ 65536

itself-good : (t : List ℤ) → Itself t → bad_table t ≡ false
unfolding bad_table
itself-good t o =
    some_same (length t) _ (λ i. false)
    (λ i h. ap not_picture (within-any t i (pos 0) none h ∙ o.each i h) ∙ λ j. le-ltb i 0 zero-le j || le-ltb 65535 i (omega (arith, o.numbers)) j)
    ∙ some-idle (length t) (λ i. false) (λ i. refl)

itself-named : (t : List ℤ) → Itself t → (r : ℤ) → lt_z r (pos (length t)) ≡ true → lt_z r none ≡ false → r ≡ named_by t r
itself-named t o (pos i) h k =
    let l = ltb-true i (length t) h in
    sym (o.each i l) ∙ by_entry t (pos i) (λ e. omega arith)
itself-named t o (negsuc zero) h k = sym (none_named t)
itself-named t o (negsuc (suc i)) h k = absurd (true≢false (sym (lt-ltb 0 (suc i) (omega arith)) ∙ k))

-- all references that are read are below the length of their list's table
pub record Inside (w x y : ℕ) (g : Grids) (p q : List ℤ) : Type 0 where
  pub list0 : (i : ℕ) → Beside w x y i → lt_z (ref_at g.ref0 i) (pos (length p)) ≡ true
  pub list1 : (i : ℕ) → Beside w x y i → lt_z (ref_at g.ref1 i) (pos (length q)) ≡ true

module _ (size : Size) (field : Bool) (x y : ℕ) (t8s : List ℕ) (g : Grids) (p q : List ℤ) (s : List ℕ) (own0 : Itself p) (own1 : Itself q)
    (fit : one_table (length g.ref1) (length p) (length q) ≡ false) (inside : Inside size.w x y g p q) where
  abbrev plain : Grids
  plain = with_tables g [] []

  checks-itself : refusal (derive_checks size x y t8s plain (length s)) ≡ refusal (derive_checks size x y t8s (with_tables g p q) (length s))
  checks-itself =
      λ i. refusal (checks_by size x y t8s g (length s)
      (bad_grids (16 * (size.w * size.h)) g || sym fit i)
      (bad_refs g size.w x y)
      ((empty-good ∙ sym (itself-good p own0)) i || (empty-good ∙ sym (itself-good q own1)) i))

  module _ (e : refusal (derive_checks size x y t8s plain (length s)) ≡ 0) (i : ℕ) (b : Beside size.w x y i) where
    ten : (below_none g.ref0 i ≡ false) × (below_none g.ref1 i ≡ false)
    ten =
        let r = or-false (some_read size.w x y (below_none g.ref0)) _ (passes 10 (derive_checks size x y t8s plain (length s)) tt e) in
        (not-read size.w x y (below_none g.ref0) r.0 i b, not-read size.w x y (below_none g.ref1) r.1 i b)

    blk-itself : blk_at plain i ≡ blk_at (with_tables g p q) i
    unfolding block_read named_by
    blk-itself =
        λ j. block_of (eqb (get_or g.inter i 0) 1)
        (vector_at (itself-named p own0 (ref_at g.ref0 i) (inside.list0 i b) ten.0 j) g.mv0 i)
        (vector_at (itself-named q own1 (ref_at g.ref1 i) (inside.list1 i b) ten.1 j) g.mv1 i)

  pub itself-same : SameCalls size field x y t8s t8s plain (with_tables g p q) s
  itself-same =
      alike-calls size field x y s checks-itself (λ e. equal-blocks size.w x y t8s plain (with_tables g p q) refl (blk-itself e))
