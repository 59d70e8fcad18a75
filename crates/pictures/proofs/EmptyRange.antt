-- An empty range that passes checks 1 to 6, 19 among them, is served, whatever the values are, but for 21,
-- which is asked of every record of a table that is lent; and it leaves the planes. Assumes nothing.
use mathlib.Core.Path.{◌≡◌, refl, sym, ap, ◌∙◌}
use mathlib.Core.Bool.{Bool, true, false, cond, not, ◌&&◌, ◌||◌}
use mathlib.Core.List.{List, ◌++◌}
use Prim.Native.Nat.{ℕ, ◌-◌, ◌*◌}
use native.Mathlib.Nat.{le_refl}
use borrow.Author.Tests.{le-ltb}
use lib.Dec.{eqb, ltb}
use lib.ListN.{length}
use Rattle.laws.specs.Refusal.{refusal}
use Rattle.laws.proofs.Refusal.{first-passed, skip}
use Rattle.edges.specs.Fields.{on_part}
use Rattle.edges.specs.Picture.{Planes, rows_of}
use Rattle.edges.proofs.PartLaws.{on-part-still}
use Rattle.sizes.specs.declared.Part.{Part}
use Rattle.edges.proofs.Pictures.{rows_none}
use Rattle.sizes.specs.Entries.{bad_flag}
use Rattle.slices.specs.Slicing.{Slicing, single, sliced, bad_number, bad_number_count, bad_slice_offset, some_bad_number, bad_slice_mode}
use Rattle.pictures.specs.Checks.{Lent, held_of, bad_qp, bad_strength, some_bad, some_bad_flag, picture_checks, grid_checks, entry_checks, slice_checks}
use Rattle.pictures.specs.Rows.{bad_range, qps_from, row_reads, row_answer, RowOutcome}
use Rattle.pictures.proofs.SomeBad.{some-bad-none}

module _ (part : Part) (d : Lent) (p : Planes) (a : ℕ) where
  -- checks 1 to 6, and 19
  abbrev pub lengths_of : List (ℕ × Bool)
  lengths_of =
      picture_checks part d.size (bad_range d.size a a) (length p.luma) (length p.u) (length p.v)
      ++ grid_checks (d.size.w * d.size.h) (length d.strengths) (length d.qps) (length d.t8s)
      (bad_number_count d.slicing (d.size.w * d.size.h) || false) (bad_slice_offset d.slicing)

  no-flags : (n : ℕ) → some_bad_flag n n d.t8s ≡ false
  no-flags n = go (not (eqb (length d.t8s) 0))
    where
      go : (t : Bool) → (t && some_bad bad_flag n n d.t8s) ≡ false
      go true = sym (some-bad-none bad_flag n d.t8s)
      go false = refl

  no-before : (w : ℕ) → qps_from w a a ≡ a * w
  no-before w = go (ltb 0 a) (ltb a a) (le-ltb a a (le_refl a))
    where
      go : (s t : Bool) → t ≡ false → cond (s && t) (a * w - w) (a * w) ≡ a * w
      go true t e = ap (λ (b : Bool). cond b (a * w - w) (a * w)) e
      go false t e = refl

  no_near : (bad : ℕ → Bool) (xs : List ℕ) → some_bad bad (qps_from d.size.w a a) (a * d.size.w) xs ≡ false
  no_near bad xs = ap (λ (n : ℕ). some_bad bad n (a * d.size.w) xs) (no-before d.size.w) ∙ sym (some-bad-none bad (a * d.size.w) xs)

  no-numbers : (sl : Slicing) → some_bad_number sl (λ bad xs. some_bad bad (qps_from d.size.w a a) (a * d.size.w) xs) ≡ false
  no-numbers (single o) = refl
  no-numbers (sliced c t ns) = no_near (bad_number t) ns

  abbrev entries_of : List (ℕ × Bool)
  entries_of = let r = row_reads d.size.w a a d.strengths d.t8s in entry_checks d.qps r ++ slice_checks d.slicing r

  -- what is left: 21, or 0
  abbrev pub modes_of : ℕ
  modes_of = cond (bad_slice_mode d.slicing) 21 0

  no-entries : modes_of ≡ refusal entries_of
  no-entries =
      skip 7 (no-flags (a * d.size.w))
      (skip 8 (no_near bad_qp d.qps)
      (skip 9 (sym (some-bad-none bad_strength (32 * (a * d.size.w)) d.strengths))
      (skip 20 (no-numbers d.slicing) refl)))

  pub empty-range : (n : ℕ) (p' : Planes) → refusal lengths_of ≡ 0 → RowOutcome part d a a p n p' → (n ≡ modes_of) × (p' ≡ p)
  unfolding row_answer
  empty-range n p' e r = (r.says ∙ sym (first-passed lengths_of entries_of tt e no-entries), r.leaves ∙ stays (eqb n 0))
    where
      stays : (t : Bool) → cond t (on_part part d.size (rows_of (held_of d) a a) p) p ≡ p
      stays true = on-part-still d.size (rows_of (held_of d) a a) p part (rows_none (held_of d) a)
      stays false = refl
