-- What holds of two inputs for each macroblock of a row holds for the row: so the row call reads what the
-- single calls read, and of kinds its row's. Assumes nothing.
use mathlib.Core.Path.{◌≡◌, refl, sym, ap, ◌∙◌}
use mathlib.Core.Bool.{Bool, true, false, cond}
use mathlib.Core.List.{List, [], ◌∷◌}
use Prim.Native.Nat.{ℕ, zero, suc, ◌+◌, ◌*◌, ◌≤◌, ◌<◌}
use native.Mathlib.Decide.{ℕ_discrete}
use native.Mathlib.Nat.{le_refl}
use native.Mathlib.Omega.{arith}
use borrow.Author.Tests.{eq-eqb, ne_eqb}
use lib.Dec.{eqb}
use lib.ListN.{length, get_or}
use Rattle.laws.specs.Loop.{up_to}
use Rattle.laws.specs.Refusal.{refusal, or_else}
use Rattle.laws.proofs.Loop.{up_to-same, up_to-keeps}
use Rattle.motion.specs.Grids.{Grids}
use Rattle.sizes.specs.Entries.{flag_at, bad_flag_count}
use Rattle.sizes.specs.Sizes.{bad_size, outside_of}
use Rattle.sizes.specs.declared.Size.{Size}
use Rattle.strengths.specs.Calls.{derive_checks, answer_of, untrue_known, answer_at, derive_row_checks, derive_row_answer, DeriveOutcome, DeriveRowOutcome}
use Rattle.strengths.specs.Kinds.{known_number, known_at}
use Rattle.strengths.specs.Reads.{SameReads}
use Rattle.strengths.specs.Strength.{mode_of, strength_at, written}
use Rattle.strengths.specs.declared.kinds.Known.{Known}
use Rattle.strengths.specs.declared.kinds.Known.TheVariants.{Stated, Flags, NoKind}
use Rattle.strengths.proofs.Alike.{SameCalls}
use Rattle.strengths.proofs.DeriveOutcomes.{answer-cut}
use Rattle.strengths.proofs.ReadsAlone.{reads-alone}
use Rattle.strengths.proofs.RowOutcomes.{each}
use Rattle.strengths.proofs.Written.{written-length}

module _ (size : Size) (field : Bool) (y : ℕ) {t8s t8s' : List ℕ} {g g' : Grids}
    (same : (x : ℕ) → x < size.w → (t : List ℕ) → SameCalls size field x y t8s t8s' g g' t) where
  -- the only outcome of a single call on t
  abbrev left_by : List ℕ → Grids → Bool → ℕ → List ℕ → List ℕ
  left_by fs h untrue x t = cond (eqb (answer_of size x y fs h untrue (length t)) 0) (written (y * size.w + x) (strength_at (mode_of field) h size.w (flag_at fs) x y) t) t

  outcome : (said : Bool) (x : ℕ) (t : List ℕ) → DeriveOutcome size field x y t8s g said t (answer_of size x y t8s g said (length t)) (left_by t8s g said x t)
  outcome said x t = record { says = refl; leaves = refl }

  -- ---- whatever is known of a macroblock, both answer the same
  refusals-same : (x : ℕ) → x < size.w → (t : List ℕ) → refusal (derive_checks size x y t8s g (length t)) ≡ refusal (derive_checks size x y t8s' g' (length t))
  refusals-same x l t =
      sym (unless (refusal (derive_checks size x y t8s g (length t))))
      ∙ sym (answer-cut size x y t8s g (length t) false)
      ∙ ((same x l t).plain _ _ (outcome false x t)).says
      ∙ answer-cut size x y t8s' g' (length t) false
      ∙ unless (refusal (derive_checks size x y t8s' g' (length t)))
    where
      unless : (r : ℕ) → cond (eqb r 0) 0 r ≡ r
      unless r = go (ℕ_discrete r 0)
        where
          go : Dec (r ≡ 0) → cond (eqb r 0) 0 r ≡ r
          go (yes e) = rw (eq-eqb r 0 e) (sym e)
          go (no h) = rw (ne_eqb r 0 h)

  answers-same : (x : ℕ) → x < size.w → (t : List ℕ) (k : Known) → answer_of size x y t8s g (untrue_known k g size.w x y) (length t) ≡ answer_of size x y t8s' g' (untrue_known k g' size.w x y) (length t)
  answers-same x l t (Stated kind) = ((same x l t).kind kind _ _ (outcome (untrue_known (Stated kind) g size.w x y) x t)).says
  answers-same x l t (Flags f u) = ((same x l t).flags f u _ _ (outcome (untrue_known (Flags f u) g size.w x y) x t)).says
  answers-same x l t NoKind =
      answer-cut size x y t8s g (length t) true
      ∙ ap (λ (r : ℕ). cond (eqb r 0) 12 r) (refusals-same x l t)
      ∙ sym (answer-cut size x y t8s' g' (length t) true)

  -- ---- and write the same
  written_same : (x : ℕ) → x < size.w → (t : List ℕ) → answer_of size x y t8s g false (length t) ≡ 0
      → written (y * size.w + x) (strength_at (mode_of field) g size.w (flag_at t8s) x y) t ≡ written (y * size.w + x) (strength_at (mode_of field) g' size.w (flag_at t8s') x y) t
  written_same x l t z =
      let a : ℕ = answer_of size x y t8s g false (length t) in
      let f : List ℕ = written (y * size.w + x) (strength_at (mode_of field) g size.w (flag_at t8s) x y) t in
      let f' : List ℕ = written (y * size.w + x) (strength_at (mode_of field) g' size.w (flag_at t8s') x y) t in
      sym (ap (λ (n : ℕ). cond (eqb n 0) f t) z) ∙ ((same x l t).plain a (left_by t8s g false x t) (outcome false x t)).leaves ∙ ap (λ (n : ℕ). cond (eqb n 0) f' t) z

  module _ (kinds kinds' : List ℕ) (long : length kinds ≡ length kinds')
      (told : (x : ℕ) → x < size.w → get_or kinds (y * size.w + x) 0 ≡ get_or kinds' (y * size.w + x) 0) (s : List ℕ) where
    row-answers : derive_row_answer size y kinds t8s g (length s) ≡ derive_row_answer size y kinds' t8s' g' (length s)
    unfolding derive_row_answer
    row-answers =
        ap (λ (m : ℕ). up_to size.w (λ x a. or_else a (answer_at size y (Flags false false) kinds t8s g (length s) x))
        (refusal ((1, bad_size size) ∷ (2, outside_of size 0 y) ∷ (4, bad_flag_count (size.w * size.h) m) ∷ []))) long
        ∙ up_to-same size.w _ _ (refusal (derive_row_checks size y kinds')) (λ x a l. ap (or_else a) (at x l))
      where
        at : (x : ℕ) → x < size.w → answer_at size y (Flags false false) kinds t8s g (length s) x ≡ answer_at size y (Flags false false) kinds' t8s' g' (length s) x
        at x l =
            answers-same x l s (known_at (Flags false false) kinds (y * size.w + x))
            ∙ (λ i. answer_of size x y t8s' g' (untrue_known (cond (eqb (long i) 0) (Flags false false) (known_number (told x l i))) g' size.w x y) (length s))

    rows_written : derive_row_answer size y kinds t8s g (length s) ≡ 0 → (m : ℕ) → m ≤ size.w
        → up_to m (λ x. written (y * size.w + x) (strength_at (mode_of field) g size.w (flag_at t8s) x y)) s ≡ up_to m (λ x. written (y * size.w + x) (strength_at (mode_of field) g' size.w (flag_at t8s') x y)) s
    unfolding up_to
    rows_written e zero h = refl
    rows_written e (suc m) h =
        let t = up_to m (λ x. written (y * size.w + x) (strength_at (mode_of field) g' size.w (flag_at t8s') x y)) s in
        let kept : length t ≡ length s = up_to-keeps (λ (u : List ℕ). length u ≡ length s) m _ s (λ x u l k. written-length _ _ u ∙ k) refl in
        ap (written (y * size.w + m) (strength_at (mode_of field) g size.w (flag_at t8s) m y)) (rows_written e m (omega arith))
        ∙ written_same m (omega arith) t (ap (answer_of size m y t8s g false) kept ∙ each size field y kinds t8s g s e m (omega arith))

    pub row_same : (n : ℕ) (s' : List ℕ) → DeriveRowOutcome size field y kinds t8s g s n s' → DeriveRowOutcome size field y kinds' t8s' g' s n s'
    row_same n s' r = record { says = r.says ∙ row-answers; leaves = r.leaves ∙ go (ℕ_discrete n 0) }
      where
        done : Grids → List ℕ → List ℕ
        done h fs = up_to size.w (λ x. written (y * size.w + x) (strength_at (mode_of field) h size.w (flag_at fs) x y)) s

        go : Dec (n ≡ 0) → cond (eqb n 0) (done g t8s) s ≡ cond (eqb n 0) (done g' t8s') s
        go (yes z) = ap (λ (t : List ℕ). cond (eqb n 0) t s) (rows_written (sym r.says ∙ z) size.w (le_refl _))
        go (no h) = rw (ne_eqb n 0 h)

-- ---- so of two inputs that agree on what the row's macroblocks read, and on its kinds
pub row-reads-alone : (size : Size) (field : Bool) (y : ℕ) (kinds kinds' : List ℕ) {t8s t8s' : List ℕ} {g g' : Grids} (s : List ℕ) (n : ℕ) (s' : List ℕ)
    → length kinds ≡ length kinds' → ((x : ℕ) → x < size.w → get_or kinds (y * size.w + x) 0 ≡ get_or kinds' (y * size.w + x) 0)
    → ((x : ℕ) → x < size.w → SameReads size.w x y t8s t8s' g g')
    → DeriveRowOutcome size field y kinds t8s g s n s' → DeriveRowOutcome size field y kinds' t8s' g' s n s'
row-reads-alone size field y kinds kinds' s n s' long told reads = row_same size field y (λ x l t. reads-alone size field x y t (reads x l)) kinds kinds' long told s n s'
