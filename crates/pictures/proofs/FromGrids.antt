-- From the grids to the picture: strengths that the flagless call writes for every macroblock make the
-- whole-picture call give the standard's picture straight from the grids, of a frame and of a field.
-- Assumes nothing.
use mathlib.Core.Path.{◌≡◌, sym, ap, ◌∙◌}
use mathlib.Core.Bool.{Bool, cond}
use mathlib.Core.List.{List}
use mathlib.Core.Logic.{inl, ⊎_elim}
use Prim.Native.Nat.{ℕ, zero, suc, ◌+◌, ◌*◌, ◌/◌, ◌%◌, ◌≤◌, ◌<◌}
use native.Mathlib.Nat.{div-add-mod', not-suc-le-zero, eq-or-lt_of_le, le_of_suc-le-suc, le_refl}
use native.Mathlib.Omega.{arith}
use borrow.Author.Tests.{le-ltb, lt-ltb}
use native.Mathlib.Decide.{dec_lt}
use lib.Dec.{ltb}
use lib.ListN.{length, get_or}
use Rattle.laws.proofs.Lists.{past}
use Rattle.motion.specs.Grids.{Grids}
use Rattle.edges.specs.Fields.{on_part}
use Rattle.edges.specs.Picture.{Planes, entries, frame_of}
use Rattle.slices.specs.Slicing.{Slicing, held_in}
use Rattle.sizes.specs.declared.Part.{Part}
use Rattle.sizes.specs.declared.Size.{Size}
use Rattle.strengths.specs.Calls.{PlainOutcome}
use Rattle.pictures.specs.Checks.{lent_by}
use Rattle.pictures.specs.Rows.{WholeOutcome}
use Rattle.pictures.specs.Standard.{is_field, of_index, strengths_of, picture_of, Derived}
use Rattle.strengths.specs.Strength.{written}
use Rattle.pictures.proofs.Left.{whole}
use Rattle.strengths.proofs.Written.{written-length, written_at, written-beside}

module _ (field : Bool) (g : Grids) (size : Size) (t8s : List ℕ) where
  -- a derived grid holds the standard's strengths, and nothing past them
  pub derived-strengths : (s : List ℕ) → Derived field g size t8s s → entries s ≡ strengths_of field g size t8s
  unfolding strengths_of
  derived-strengths s d = λ i k. at k (dec_lt k (32 * (size.w * size.h))) i
    where
      at : (k : ℕ) → Dec (k < 32 * (size.w * size.h)) → get_or s k 0 ≡ cond (ltb k (32 * (size.w * size.h))) (of_index field g size t8s (k / 32) (k % 32)) 0
      at k (yes h) =
          let e : k ≡ 32 * (k / 32) + k % 32 = omega arith in
          ap (λ (n : ℕ). get_or s n 0) e
          ∙ d.each (k / 32) (k % 32) (omega arith) (omega arith)
          ∙ sym (ap (λ (b : Bool). cond b (of_index field g size t8s (k / 32) (k % 32)) 0) (lt-ltb k (32 * (size.w * size.h)) h))
      at k (no h) =
          past s k (omega (arith, d.full))
          ∙ sym (ap (λ (b : Bool). cond b (of_index field g size t8s (k / 32) (k % 32)) 0) (le-ltb k (32 * (size.w * size.h)) (omega arith)))

  -- a picture filtered by a derived grid is the standard's
  pub derived-picture : (qps s : List ℕ) (sl : Slicing) (p : Planes) → Derived field g size t8s s
      → frame_of (held_in sl size.w (entries s) qps t8s) size.h p ≡ picture_of field g size qps t8s sl p
  unfolding picture_of
  derived-picture qps s sl p d = λ i. frame_of (held_in sl size.w (derived-strengths s d i) qps t8s) size.h p

  -- ---- a derived grid is what one flagless call a macroblock leaves, in raster order, each served: s 0
  -- before the first, s n after the last. The flags are those that filtering is lent
  module _ (s : ℕ → List ℕ) (room : length (s 0) ≡ 32 * (size.w * size.h))
      (calls : (i : ℕ) → i < size.w * size.h → PlainOutcome size field (i % size.w) (i / size.w) t8s g (s i) 0 (s (i + 1))) where
    step : (i : ℕ) → i < size.w * size.h → s (suc i) ≡ written i (of_index field g size t8s i) (s i)
    step i h =
        let e = div-add-mod' i size.w in
        ap s (omega arith)
        ∙ (calls i h).leaves
        ∙ ap (λ (n : ℕ). written n (of_index field g size t8s i) (s i)) e

    filled : (n : ℕ) → n ≤ size.w * size.h → length (s n) ≡ 32 * (size.w * size.h)
    filled zero h = room
    filled (suc n) h = ap length (step n h) ∙ written-length n (of_index field g size t8s n) (s n) ∙ filled n (omega arith)

    holds : (n : ℕ) → n ≤ size.w * size.h → (i k : ℕ) → i < n → k < 32 → get_or (s n) (32 * i + k) 0 ≡ of_index field g size t8s i k
    holds zero h i k l m = absurd (not-suc-le-zero l)
    holds (suc n) h i k l m =
        ap (λ (t : List ℕ). get_or t (32 * i + k) 0) (step n h)
        ∙ ⊎_elim last (λ b. before b (holds n (omega arith) i k b m)) (eq-or-lt_of_le (le_of_suc-le-suc l))
      where
        last : i ≡ n → get_or (written n (of_index field g size t8s n) (s n)) (32 * i + k) 0 ≡ of_index field g size t8s i k
        last e =
            ap (λ (j : ℕ). get_or (written n (of_index field g size t8s n) (s n)) (32 * j + k) 0) e
            ∙ written_at n (of_index field g size t8s n) (s n) k m (omega (arith, filled n (omega arith)))
            ∙ ap (λ (j : ℕ). of_index field g size t8s j k) (sym e)

        before : i < n → get_or (s n) (32 * i + k) 0 ≡ of_index field g size t8s i k → get_or (written n (of_index field g size t8s n) (s n)) (32 * i + k) 0 ≡ of_index field g size t8s i k
        before b e = written-beside n (of_index field g size t8s n) (s n) (32 * i + k) (inl (omega arith)) ∙ e

    pub derived : Derived field g size t8s (s (size.w * size.h))
    derived = record { full = filled (size.w * size.h) (le_refl _); each = holds (size.w * size.h) (le_refl _) }

-- what the whole-picture call leaves, of a frame or a field, with strengths derived for it: the standard's
-- picture straight from the grids, on the lines of the part
pub from-grids : (part : Part) (g : Grids) (size : Size) (qps t8s s : List ℕ) (sl : Slicing) (p p' : Planes) → Derived (is_field part) g size t8s s
    → WholeOutcome part (lent_by size sl s qps t8s) p 0 p' → p' ≡ on_part part size (picture_of (is_field part) g size qps t8s sl) p
from-grids part g size qps t8s s sl p p' d r =
    whole part (lent_by size sl s qps t8s) p p' r ∙ (λ i. on_part part size (λ t. derived-picture (is_field part) g size t8s qps s sl t d i) p)
