-- One slice of mode 0 for the whole picture is one pair of offsets: what is held, and what the checks say.
-- Assumes nothing.
use mathlib.Core.Path.{◌≡◌, refl, ap}
use mathlib.Core.Bool.{Bool, true, false, not, ◌&&◌, ◌||◌}
use mathlib.Core.List.{List, [], ◌∷◌}
use Prim.Native.Nat.{ℕ, ◌-◌}
use borrow.Author.Tests.{eq-eqb}
use lib.Dec.{eqb, leb}
use lib.IntN.{ℤ, pos}
use lib.ListN.{length, get_or}
use Rattle.laws.specs.Some.{some}
use Rattle.lines.specs.Depth.{eight}
use Rattle.sizes.specs.Entries.{flag_at}
use Rattle.edges.specs.Picture.{entries}
use Rattle.slices.specs.Inner.{offsets_with}
use Rattle.slices.specs.Slicing.{Slicing, single, sliced, slice_at, filters_inside, filters_toward, held_in, bad_number_count, bad_slice_offset, bad_number, bad_slice_mode}
use Rattle.slices.specs.Table.{bad_offset, some_bad_pair, some_bad_mode}
use Rattle.slices.specs.declared.ChromaOffsets.{ChromaOffsets}
use Rattle.slices.specs.declared.SliceRecord.{SliceRecord}

-- a record of mode 0
abbrev pub mode_zero : ℤ → ℤ → SliceRecord
mode_zero a b = record { mode = 0; a = a; b = b }

module _ (c : ChromaOffsets) (a b : ℤ) (ns : List ℕ) (zeros : (i : ℕ) → get_or ns i 0 ≡ 0) where
  abbrev pub one_record : Slicing
  one_record = sliced c (mode_zero a b ∷ []) ns

  abbrev pub one_pair : Slicing
  one_pair = single (offsets_with (mode_zero a b) c)

  -- every macroblock has the record
  its-record : (i : ℕ) → slice_at (mode_zero a b ∷ []) ns i ≡ mode_zero a b
  its-record i = ap (λ (k : ℕ). get_or (mode_zero a b ∷ []) k (record { mode = 0; a = pos 0; b = pos 0 })) (zeros i)

  inside_one : (i : ℕ) → filters_inside one_record i ≡ true
  inside_one i = ap (λ (r : SliceRecord). not (eqb r.mode 1)) (its-record i)

  toward-one : (d i : ℕ) → filters_toward d one_record i ≡ true
  toward-one d i = ap (λ (r : SliceRecord). not (eqb r.mode 1) && not (eqb r.mode 2 && not (eqb (entries ns (i - d)) (entries ns i)))) (its-record i)

  pub one-held : (w : ℕ) (strengths : ℕ → ℕ) (qps t8s : List ℕ) → held_in one_record w strengths qps t8s ≡ held_in one_pair w strengths qps t8s
  one-held w strengths qps t8s = λ j. record {
    depth = eight;
    w = w;
    strengths = strengths;
    qp = λ i. pos (entries qps i);
    t8 = flag_at t8s;
    a = λ i. (its-record i j).a;
    b = λ i. (its-record i j).b;
    u = c.u;
    v = c.v;
    left = λ i. toward-one 1 i j;
    top = λ i. toward-one w i j;
    inner = λ i. inside_one i j;
  }

  -- ---- 4, 6, 21, and of a number 20
  pub one-count : (n : ℕ) → length ns ≡ n → bad_number_count one_record n ≡ bad_number_count one_pair n
  one-count n e = ap not (eq-eqb (length ns) n e)

  four-of : (x y z w : Bool) → ((z || w) || (false || (x || y))) ≡ (((x || y) || z) || w)
  four-of true y true w = refl
  four-of true y false true = refl
  four-of true y false false = refl
  four-of false true true w = refl
  four-of false true false true = refl
  four-of false true false false = refl
  four-of false false true w = refl
  four-of false false false true = refl
  four-of false false false false = refl

  pub one-offset : bad_slice_offset one_record ≡ bad_slice_offset one_pair
  unfolding some_bad_pair some
  one-offset = four-of (bad_offset a) (bad_offset b) (bad_offset c.u) (bad_offset c.v)

  pub one-mode : bad_slice_mode one_record ≡ bad_slice_mode one_pair
  unfolding some_bad_mode some
  one-mode = refl

  pub one_number : (i : ℕ) → bad_number (mode_zero a b ∷ []) (get_or ns i 0) ≡ false
  one_number i = ap (leb 1) (zeros i)
