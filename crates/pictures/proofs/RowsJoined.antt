-- Rows a to b, then b to c, are rows a to c: the one call is served where the two are, and leaves what they
-- leave. Assumes nothing.
use mathlib.Core.Path.{◌≡◌, refl, sym, ap, ◌∙◌}
use mathlib.Core.Bool.{Bool, true, false, cond, not, ◌&&◌}
use mathlib.Core.List.{List}
use mathlib.Core.Logic.{⊎_elim}
use Prim.Native.Nat.{ℕ, ◌-◌, ◌*◌, ◌≤◌, ◌<◌}
use native.Mathlib.Nat.{le_refl, le_trans, eq-or-lt_of_le}
use native.Mathlib.Omega.{arith}
use borrow.Author.Tests.{le-ltb, lt-ltb}
use lib.Dec.{eqb, ltb}
use lib.ListN.{length}
use Rattle.laws.specs.Refusal.{refusal}
use Rattle.laws.proofs.Refusal.{test_of, passes, none-applies}
use Rattle.edges.specs.Fields.{on_part}
use Rattle.edges.specs.Picture.{Planes, rows_of}
use Rattle.edges.proofs.OnPart.{rows-lengths}
use Rattle.edges.proofs.PartLaws.{on-part-after}
use Rattle.sizes.specs.declared.Part.{Part}
use Rattle.edges.proofs.Pictures.{rows_join}
use Rattle.sizes.specs.Entries.{bad_flag}
use Rattle.slices.specs.Slicing.{Slicing, single, sliced, bad_number, some_bad_number}
use Rattle.pictures.specs.Checks.{Lent, held_of, bad_qp, bad_strength, some_bad, some_bad_flag}
use Rattle.pictures.specs.Rows.{bad_range, qps_from, row_checks, row_answer, RowOutcome}
use Rattle.pictures.proofs.RowCalls.{answered-rows-fit, answered-lengths, done-rows}
use Rattle.pictures.proofs.SomeBad.{some-bad-join}

module _ (part : Part) (d : Lent) (a b c : ℕ) (h : a ≤ b) (k : b ≤ c) where
  abbrev w : ℕ
  w = d.size.w

  flags : some_bad_flag (a * w) (b * w) d.t8s ≡ false → some_bad_flag (b * w) (c * w) d.t8s ≡ false → some_bad_flag (a * w) (c * w) d.t8s ≡ false
  flags = go (not (eqb (length d.t8s) 0))
    where
      go : (t : Bool) → (t && some_bad bad_flag (a * w) (b * w) d.t8s) ≡ false → (t && some_bad bad_flag (b * w) (c * w) d.t8s) ≡ false
          → (t && some_bad bad_flag (a * w) (c * w) d.t8s) ≡ false
      go true e f = some-bad-join bad_flag (a * w) (b * w) (b * w) (c * w) d.t8s (le_refl _) e f
      go false e f = refl

  -- where QPs and slice numbers are read
  near : (bad : ℕ → Bool) (xs : List ℕ) → some_bad bad (qps_from w a b) (b * w) xs ≡ false → some_bad bad (qps_from w b c) (c * w) xs ≡ false
      → some_bad bad (qps_from w a c) (c * w) xs ≡ false
  near bad xs e f = ⊎_elim same less (eq-or-lt_of_le h)
    where
      same : a ≡ b → some_bad bad (qps_from w a c) (c * w) xs ≡ false
      same q = ap (λ (n : ℕ). some_bad bad (qps_from w n c) (c * w) xs) q ∙ f

      less : a < b → some_bad bad (qps_from w a c) (c * w) xs ≡ false
      less q =
          let u : ltb a b ≡ ltb a c = lt-ltb a b q ∙ sym (lt-ltb a c (omega arith)) in
          some-bad-join bad (qps_from w a c) (b * w) (qps_from w b c) (c * w) xs (before (ltb 0 b && ltb b c))
          (sym (ap (λ (t : Bool). some_bad bad (cond (ltb 0 a && t) (a * w - w) (a * w)) (b * w) xs) u) ∙ e) f
        where
          before : (t : Bool) → cond t (b * w - w) (b * w) ≤ b * w
          before true = omega arith
          before false = le_refl _

  numbers : (sl : Slicing) → some_bad_number sl (λ bad xs. some_bad bad (qps_from w a b) (b * w) xs) ≡ false → some_bad_number sl (λ bad xs. some_bad bad (qps_from w b c) (c * w) xs) ≡ false
      → some_bad_number sl (λ bad xs. some_bad bad (qps_from w a c) (c * w) xs) ≡ false
  numbers (single o) e f = refl
  numbers (sliced r t ns) e f = near (bad_number t) ns e f

  -- all that the two calls checked: of the planes just their lengths
  checks-joined : c ≤ d.size.h → (ly lu lv my mu mv : ℕ) → refusal (row_checks part d a b ly lu lv) ≡ 0 → refusal (row_checks part d b c my mu mv) ≡ 0
      → refusal (row_checks part d a c ly lu lv) ≡ 0
  checks-joined m ly lu lv my mu mv e f =
      let range : bad_range d.size a c ≡ false = rw (le-ltb c a (le_trans h k), le-ltb d.size.h c m) in
      let strengths = some-bad-join bad_strength (32 * (a * w)) (32 * (b * w)) (32 * (b * w)) (32 * (c * w)) d.strengths (le_refl _) (first 9) (second 9) in
      none-applies (row_checks part d a c ly lu lv)
      (first 1, (range, (first 19, (first 3, (first 4, (first 6, (flags (first 7) (second 7), (near bad_qp d.qps (first 8) (second 8), (strengths, (numbers d.slicing (first 20) (second 20), (first 21, tt)))))))))))
    where
      first : (n : ℕ) → test_of n (row_checks part d a b ly lu lv) ≡ false
      first n = passes n (row_checks part d a b ly lu lv) tt e

      second : (n : ℕ) → test_of n (row_checks part d b c my mu mv) ≡ false
      second n = passes n (row_checks part d b c my mu mv) tt f

  answers-joined : (p q : Planes) → c ≤ d.size.h → row_answer part d a b p ≡ 0 → row_answer part d b c q ≡ 0 → row_answer part d a c p ≡ 0
  unfolding row_answer
  answers-joined p q m e f =
      checks-joined m (length p.luma) (length p.u) (length p.v) (length q.luma) (length q.u) (length q.v) e f

pub rows-joined : (part : Part) (d : Lent) (p p₁ p₂ : Planes) (a b c : ℕ) → RowOutcome part d a b p 0 p₁ → RowOutcome part d b c p₁ 0 p₂ → RowOutcome part d a c p 0 p₂
rows-joined part d p p₁ p₂ a b c r s =
    let g = answered-rows-fit part d a b p (sym r.says) in
    let k = answered-rows-fit part d b c p₁ (sym s.says) in
    let f = g.fit in
    done-rows part d a c p p₂ (answers-joined part d a b c g.order k.order p p₁ k.line (sym r.says) (sym s.says))
    (s.leaves
    ∙ ap (on_part part d.size (rows_of (held_of d) b c)) r.leaves
    ∙ on-part-after d.size part f.sides.both.wide f.parity (rows_of (held_of d) b c) (rows_of (held_of d) a b)
    (λ t l. rows-lengths (held_of d) _ b c t l) (λ t l. rows-lengths (held_of d) _ a b t l) p (answered-lengths part d a b p (sym r.says))
    ∙ (λ i. on_part part d.size (λ t. rows_join (held_of d) a b c t g.order k.order i) p))
