-- Strengths and calls where 8x8 flags tell nothing new: none is set, or the four counts of every 8x8 block
-- tell the same. There they are what they were when strengths looked at own counts alone. Assumes nothing.
use mathlib.Core.Path.{◌≡◌, refl, sym, ap, ◌∙◌}
use mathlib.Core.Bool.{Bool, true, false, cond, not, ◌||◌, or-false, true≢false}
use mathlib.Core.List.{List, [], ◌∷◌}
use Prim.Native.Nat.{ℕ, ◌+◌, ◌-◌, ◌*◌, ◌<◌}
use lib.Dec.{eqb, ltb}
use lib.ListN.{length, get_or}
use Rattle.laws.specs.Refusal.{refusal}
use Rattle.laws.specs.Some.{some}
use Rattle.laws.proofs.Bools.{and-false}
use Rattle.laws.proofs.Cond.{cond_both}
use Rattle.laws.proofs.Some.{some_same}
use Rattle.motion.specs.Grids.{Grids, counted, blk_at}
use Rattle.sizes.specs.Entries.{flag_at, bad_flag_count, bad_flag}
use Rattle.sizes.specs.Sizes.{bad_size, outside_of}
use Rattle.sizes.specs.declared.Size.{Size}
use Rattle.strengths.specs.Blocks.{macroblock_of, in_eight}
use Rattle.strengths.specs.Calls.{answer_of, DeriveOutcome}
use Rattle.strengths.specs.Checks.{bad_blocks, bad_inter, bad_flags, bad_refs, bad_pictures, disagree}
use Rattle.strengths.specs.Strength.{q_block, p_block, border, skipped, mode_of, intra_strength, coded, between, strength_at, written}
use Rattle.strengths.specs.declared.kinds.Mode.{Mode}

-- ---- strengths by own counts, told of the own flag alone, as they were before 8x8 blocks were asked
abbrev pub own_strength : Mode → Grids → ℕ → Bool → ℕ → ℕ → ℕ → ℕ
own_strength mode g w t8 x y k =
    cond
    (border x y k || skipped t8 k)
    0
    (between mode.limit (intra_strength mode k) (counted g.nnz (p_block w x y k) || counted g.nnz (q_block w x y k)) (blk_at g (p_block w x y k)) (blk_at g (q_block w x y k)))

-- where all four blocks of an 8x8 block tell the same, and so where no flag is set
pub spread-before : (mode : Mode) (g : Grids) (w : ℕ) (t8s : ℕ → Bool) (x y k : ℕ)
    → ((i : ℕ) → t8s (macroblock_of w i) ≡ true → (r c : ℕ) → r < 2 → c < 2 → counted g.nnz (in_eight w i r c) ≡ counted g.nnz i)
    → strength_at mode g w t8s x y k ≡ own_strength mode g w (t8s (y * w + x)) x y k
unfolding strength_at coded some
spread-before mode g w t8s x y k h =
    λ j. cond
    (border x y k || skipped (t8s (y * w + x)) k)
    0
    (between mode.limit (intra_strength mode k) (each (p_block w x y k) (t8s (macroblock_of w (p_block w x y k))) refl j || each (q_block w x y k) (t8s (macroblock_of w (q_block w x y k))) refl j) (blk_at g (p_block w x y k)) (blk_at g (q_block w x y k)))
  where
    four : (b : Bool) → some 2 (λ r. some 2 (λ c. b)) ≡ b
    four true = refl
    four false = refl

    each : (i : ℕ) (t : Bool) → t8s (macroblock_of w i) ≡ t → cond t (some 2 (λ r. some 2 (λ c. counted g.nnz (in_eight w i r c)))) (counted g.nnz i) ≡ counted g.nnz i
    each i true e = some_same 2 _ _ (λ r l. some_same 2 _ _ (λ c m. h i e r c l m)) ∙ four (counted g.nnz i)
    each i false e = refl

pub unset-before : (mode : Mode) (g : Grids) (w : ℕ) (t8s : ℕ → Bool) (x y k : ℕ) → ((i : ℕ) → t8s i ≡ false) → strength_at mode g w t8s x y k ≡ own_strength mode g w false x y k
unset-before mode g w t8s x y k h =
    spread-before mode g w t8s x y k (λ i e r c l m. absurd (true≢false (sym e ∙ h (macroblock_of w i))))
    ∙ ap (λ (b : Bool). own_strength mode g w b x y k) (h (y * w + x))

-- ---- what a call promised when it was told of a 4x4 transform: checks 4 and 7 knew no flags
abbrev own_answer : Size → ℕ → ℕ → Grids → Bool → Bool → Bool → ℕ
own_answer size x y g untrue four seven =
    refusal
    ((1, bad_size size)
    ∷ (2, outside_of size x y)
    ∷ (4, four)
    ∷ (5, bad_blocks (16 * (size.w * size.h)) g)
    ∷ (7, seven)
    ∷ (10, bad_refs g size.w x y)
    ∷ (22, bad_pictures g)
    ∷ (11, disagree g.inter size.w x y)
    ∷ (12, untrue)
    ∷ [])

pub record OwnCall (size : Size) (field : Bool) (x y : ℕ) (g : Grids) (untrue : Bool) (s : List ℕ) (n : ℕ) (s' : List ℕ) : Type 0 where
  pub says : n ≡ own_answer size x y g untrue (not (eqb (length s) (32 * (size.w * size.h)))) (bad_inter g size.w x y)
  pub leaves : s' ≡ cond (eqb n 0) (written (y * size.w + x) (own_strength (mode_of field) g size.w false x y) s) s

-- flags of n macroblocks of which none is set: an empty grid, or zeros
pub record Unset (n : ℕ) (t8s : List ℕ) : Type 0 where
  pub fits : bad_flag_count n (length t8s) ≡ false
  pub zeros : (i : ℕ) → get_or t8s i 0 ≡ 0

pub empty-unset : (n : ℕ) → Unset n []
empty-unset n = record { fits = refl; zeros = λ i. refl }

unset-flag : (t8s : List ℕ) → ((i : ℕ) → get_or t8s i 0 ≡ 0) → (i : ℕ) → flag_at t8s i ≡ false
unfolding flag_at
unset-flag t8s h i = cond_both (λ (b : Bool). b ≡ false) (eqb (length t8s) 0) refl (ap (λ (n : ℕ). not (eqb n 0)) (h i))

unset-fine : (t8s : List ℕ) → ((i : ℕ) → get_or t8s i 0 ≡ 0) → (w x y : ℕ) → bad_flags t8s w x y ≡ false
unset-fine t8s h w x y =
    let f : (i : ℕ) → bad_flag (get_or t8s i 0) ≡ false = λ i. ap bad_flag (h i) in
    and-false (not (eqb (length t8s) 0))
    (λ j. f (y * w + x) j || and-false (ltb 0 x) (f (y * w + x - 1)) j || and-false (ltb 0 y) (f (y * w + x - w)) j)

module _ (size : Size) (field : Bool) (x y : ℕ) (t8s : List ℕ) (g : Grids) (untrue : Bool) (s : List ℕ) (n : ℕ) (s' : List ℕ) (unset : Unset (size.w * size.h) t8s) where
  four-seven : answer_of size x y t8s g untrue (length s) ≡ own_answer size x y g untrue (not (eqb (length s) (32 * (size.w * size.h)))) (bad_inter g size.w x y)
  unfolding answer_of
  four-seven =
      let long = not (eqb (length s) (32 * (size.w * size.h))) in
      let inter = bad_inter g size.w x y in
      let a = ap (λ (b : Bool). long || b) unset.fits ∙ or-false long in
      let b = ap (λ (b : Bool). inter || b) (unset-fine t8s unset.zeros size.w x y) ∙ or-false inter in
      λ i. own_answer size x y g untrue (a i) (b i)

  plainly : cond (eqb n 0) (written (y * size.w + x) (strength_at (mode_of field) g size.w (flag_at t8s) x y) s) s
      ≡ cond (eqb n 0) (written (y * size.w + x) (own_strength (mode_of field) g size.w false x y) s) s
  plainly = λ i. cond (eqb n 0) (written (y * size.w + x) (λ (k : ℕ). unset-before (mode_of field) g size.w (flag_at t8s) x y k (unset-flag t8s unset.zeros) i) s) s

  pub unset-call-before : (DeriveOutcome size field x y t8s g untrue s n s' → OwnCall size field x y g untrue s n s')
      × (OwnCall size field x y g untrue s n s' → DeriveOutcome size field x y t8s g untrue s n s')
  unset-call-before =
      (λ r. record { says = r.says ∙ four-seven; leaves = r.leaves ∙ plainly }, λ r. record { says = r.says ∙ sym four-seven; leaves = r.leaves ∙ sym plainly })
