-- One slice of mode 0 for the whole picture: the call with slices answers and leaves what the plain call
-- does. Assumes nothing.
use mathlib.Core.Path.{◌≡◌, sym, ap, ◌∙◌}
use mathlib.Core.Bool.{Bool, false, cond, ◌||◌}
use mathlib.Core.List.{List, [], ◌∷◌, ◌++◌}
use Prim.Native.Nat.{ℕ, ◌*◌}
use lib.Dec.{eqb}
use lib.IntN.{ℤ}
use lib.ListN.{length, get_or}
use Rattle.laws.specs.Refusal.{refusal}
use Rattle.edges.specs.Fields.{on_part}
use Rattle.edges.specs.Picture.{Planes, entries, rows_of}
use Rattle.sizes.specs.declared.Part.{Part}
use Rattle.sizes.specs.declared.Size.{Size}
use Rattle.slices.specs.Inner.{offsets_with}
use Rattle.slices.specs.Slicing.{bad_number}
use Rattle.slices.specs.declared.ChromaOffsets.{ChromaOffsets}
use Rattle.slices.proofs.OneSlice.{mode_zero, one-held, one-count, one-offset, one-mode, one_number}
use Rattle.pictures.specs.Checks.{Lent, lent, lent_slices, held_of, picture_checks, grid_checks, Reads, entry_checks, filter_checks}
use Rattle.pictures.specs.Rows.{bad_range, qps_from, row_reads, row_answer, RowOutcome}
use Rattle.pictures.proofs.SomeBad.{some-bad-is}

module _ (size : Size) (c : ChromaOffsets) (a b : ℤ) (ns strengths qps t8s : List ℕ) (full : length ns ≡ size.w * size.h) (zeros : (i : ℕ) → get_or ns i 0 ≡ 0) where
  abbrev pub by_table : Lent
  by_table = lent_slices size c (mode_zero a b ∷ []) ns strengths qps t8s

  abbrev pub by_pair : Lent
  by_pair = lent size (offsets_with (mode_zero a b) c) strengths qps t8s

  pub one-slice-held : held_of by_table ≡ held_of by_pair
  one-slice-held = one-held c a b ns zeros size.w (entries strengths) qps t8s

  -- all checks: `near` is where the call reads QPs and slice numbers
  pub one-slice-checks : (part : Part) (luma u v : ℕ) (outside other : Bool) (r : Reads) → r.near (bad_number (mode_zero a b ∷ [])) ns ≡ false
      → filter_checks part by_table luma u v outside other r ≡ filter_checks part by_pair luma u v outside other r
  one-slice-checks part luma u v outside other r e = λ i.
      picture_checks part size outside luma u v
      ++ grid_checks (size.w * size.h) (length strengths) (length qps) (length t8s) (one-count c a b ns zeros (size.w * size.h) full i || other) (one-offset c a b ns zeros i)
      ++ entry_checks qps r
      ++ (20, e i)
      ∷ (21, one-mode c a b ns zeros i)
      ∷ []

  one-slice-answer : (part : Part) (x y : ℕ) (p : Planes) → row_answer part by_table x y p ≡ row_answer part by_pair x y p
  unfolding row_answer
  one-slice-answer part x y p =
      ap refusal (one-slice-checks part (length p.luma) (length p.u) (length p.v) (bad_range size x y) false (row_reads size.w x y strengths t8s)
      (some-bad-is (bad_number (mode_zero a b ∷ [])) (qps_from size.w x y) (y * size.w) ns (λ i h k. one_number c a b ns zeros i)))

  -- what the one call may answer and leave, the other may
  pub one-slice-rows : (part : Part) (x y : ℕ) (p : Planes) (n : ℕ) (p' : Planes) → RowOutcome part by_table x y p n p' → RowOutcome part by_pair x y p n p'
  one-slice-rows part x y p n p' r = record {
    says = r.says ∙ one-slice-answer part x y p;
    leaves = r.leaves ∙ (λ i. cond (eqb n 0) (on_part part size (rows_of (one-slice-held i) x y) p) p);
  }

  pub plain-rows-slice : (part : Part) (x y : ℕ) (p : Planes) (n : ℕ) (p' : Planes) → RowOutcome part by_pair x y p n p' → RowOutcome part by_table x y p n p'
  plain-rows-slice part x y p n p' r = record {
    says = r.says ∙ sym (one-slice-answer part x y p);
    leaves = r.leaves ∙ sym (λ i. cond (eqb n 0) (on_part part size (rows_of (one-slice-held i) x y) p) p);
  }
