-- With valid data, and with other slices and grids of which no value is refused, the answer of a visit is
-- decided by the size and the marks alone. With one pair of offsets, in range, none but 7, 8 and 9 refuses a
-- value. Assumes nothing.
use mathlib.Core.Path.{◌≡◌, refl, sym, ◌∙◌}
use mathlib.Core.Logic.{◌≢◌}
use mathlib.Core.Bool.{Bool, true, false, cond, not, ◌&&◌, ◌||◌}
use mathlib.Core.List.{List, [], ◌∷◌}
use Prim.Native.Nat.{ℕ, ◌*◌, ◌<◌}
use native.Mathlib.Omega.{arith}
use borrow.Author.Tests.{leb-false, eq-eqb}
use lib.Dec.{eqb, leb}
use lib.ListN.{length}
use Rattle.laws.specs.Refusal.{refusal, or_else}
use Rattle.laws.proofs.Bools.{or-false, true-false}
use Rattle.edges.specs.Picture.{Planes}
use Rattle.edges.specs.declared.Offsets.{Offsets}
use Rattle.sizes.specs.declared.Part.TheVariants.{Frame}
use Rattle.sizes.specs.declared.Size.{Size}
use Rattle.sizes.specs.Sizes.{outside_of, bad_planes}
use Rattle.slices.specs.Slicing.{Slicing, bad_number_count, bad_slice_offset, some_bad_number, bad_slice_mode}
use Rattle.slices.specs.Table.{bad_offsets}
use Rattle.pictures.specs.Checks.{Lent, lent, bad_lent, bad_qp, Reads}
use Rattle.visits.specs.Visit.{At, State, marked, waiting, answer, visit}
use Rattle.visits.specs.Beyond.{Bits}
use Rattle.visits.specs.Checks.{early_in, early_of, visit_reads, visit_checks, Sound, Fit}
use Rattle.visits.specs.Late.{SameShape, Legal}
use Rattle.visits.specs.Promise.{visit_of}
use Rattle.visits.proofs.Instance.{asks-place, passes-valid}
use Rattle.visits.proofs.LateChecks.{count-alike}
use Rattle.visits.proofs.LateStep.{regridded}
use Rattle.visits.proofs.Verdict.{Verdict, earlier, already, waits, free, verdict}

-- checks 6, 7, 8, 9, 20 and 21, each as whether it applies
abbrev by_value : Bool → Bool → Bool → Bool → Bool → Bool → ℕ
by_value a b c d e f = cond a 6 (cond b 7 (cond c 8 (cond d 9 (cond e 20 (cond f 21 0)))))

-- where the answer is none of them, none applies
no_value : (a b c d e f : Bool) (later : ℕ) → Legal (or_else (by_value a b c d e f) later) → by_value a b c d e f ≡ 0
no_value true b c d e f later h = absurd (h.offset refl)
no_value false true c d e f later h = absurd (h.flag refl)
no_value false false true d e f later h = absurd (h.qp refl)
no_value false false false true e f later h = absurd (h.strength refl)
no_value false false false false true f later h = absurd (h.number refl)
no_value false false false false false true later h = absurd (h.mode refl)
no_value false false false false false false later h = refl

-- the other answers are below 6, or above 9 and below 20
legal-of : {n : ℕ} → (5 < n → 9 < n) → n < 20 → Legal n
legal-of h k = record {
  offset = λ m. omega (arith, h (omega arith));
  flag = λ m. omega (arith, h (omega arith));
  qp = λ m. omega (arith, h (omega arith));
  strength = λ m. omega (arith, h (omega arith));
  number = λ m. omega arith;
  mode = λ m. omega arith;
}

-- ---- with valid data, outside the picture and inside
module _ (d : Lent) (v : Sound d) (s : State Planes) (r : At) where
  outside-2 : outside_of d.size r.0 r.1 ≡ true → early_of d s r ≡ 2
  unfolding early_in
  outside-2 o = rw (v.sides, o)

  module _ (f : Fit d s.0) (full : length s.1 ≡ d.size.w * d.size.h) (bits : Bits s.1) where
    inside-0 : outside_of d.size r.0 r.1 ≡ false → early_of d s r ≡ 0
    inside-0 o =
        let k = or-false (leb d.size.w r.0) (leb d.size.h r.1) o in
        passes-valid d v s f full bits r.0 r.1 (leb-false d.size.w r.0 k.0) (leb-false d.size.h r.1 k.1)

    -- no value of valid data is refused
    pub valid-legal : Legal (visit_of d s r).0
    unfolding visit
    valid-legal = go (answer d.size.w (early_of d) s r) (verdict d.size.w d.size.h (early_of d) (asks-place d) s r)
      where
        early : (b : Bool) → outside_of d.size r.0 r.1 ≡ b → early_of d s r ≢ 0 → early_of d s r ≡ 2
        early true o h = outside-2 o
        early false o h = absurd (h (inside-0 o))

        go : (n : ℕ) → Verdict d.size.w d.size.h (early_of d) s r n → Legal n
        go n (earlier h k) = let e : n ≡ 2 = k ∙ early (outside_of d.size r.0 r.1) refl h in legal-of (λ l. omega arith) (omega arith)
        go n (already h m k) = legal-of (λ l. omega arith) (omega arith)
        go n (waits h m w k) = legal-of (λ l. omega arith) (omega arith)
        go n (free h m w k) = legal-of (λ l. omega arith) (omega arith)

-- ---- .. and with other slices and grids of its size
module _ (d : Lent) (v : Sound d) (sl : Slicing) (ss qs ts : List ℕ) (shape : SameShape d (regridded d sl ss qs ts)) (ms : List ℕ) (full : length ms ≡ d.size.w * d.size.h)
    (bits : Bits ms) (p q : Planes) (f : Fit d p) (g : Fit d q) (r : At) where
  abbrev e : Lent
  e = regridded d sl ss qs ts

  abbrev reads : Reads
  reads = visit_reads d.size.w ss ts ms r

  abbrev values : ℕ
  values = by_value (bad_slice_offset sl) reads.flags (reads.near bad_qp qs) reads.strengths (some_bad_number sl reads.near) (bad_slice_mode sl)

  outside-too : outside_of d.size r.0 r.1 ≡ true → early_of e (q, ms) r ≡ 2
  unfolding early_in
  outside-too o = rw (v.sides, o)

  inside_too : outside_of d.size r.0 r.1 ≡ false → early_of e (q, ms) r ≡ values
  unfolding early_in
  inside_too o = rw (v.sides, o, planes, grids)
    where
      planes : bad_planes (d.size.w * d.size.h) (length q.luma) (length q.u) (length q.v) ≡ false
      planes = rw (eq-eqb _ _ g.luma, eq-eqb _ _ g.u, eq-eqb _ _ g.v)

      numbers : bad_number_count sl (d.size.w * d.size.h) ≡ false
      numbers = sym (count-alike shape.slicing (d.size.w * d.size.h)) ∙ v.numbers

      grids : (bad_lent (d.size.w * d.size.h) (length ss) (length qs) (length ts)
          || (bad_number_count sl (d.size.w * d.size.h) || not (eqb (length ms) (d.size.w * d.size.h)))) ≡ false
      grids = rw (← shape.strengths, ← shape.qps, ← shape.t8s, v.lengths, numbers, eq-eqb _ _ full)

  pub valid-answer : let n = (visit_of e (q, ms) r).0 in Legal n → (visit_of d (p, ms) r).0 ≡ n
  unfolding visit answer
  valid-answer h = λ i. or_else (early (outside_of d.size r.0 r.1) refl i) later
    where
      later : ℕ
      later = cond (marked d.size.w ms r.0 r.1) 13 (cond (waiting d.size.w ms r.0 r.1) 14 0)

      early : (b : Bool) → outside_of d.size r.0 r.1 ≡ b → early_of d (p, ms) r ≡ early_of e (q, ms) r
      early true o = outside-2 d v (p, ms) r o ∙ sym (outside-too o)
      early false o =
          let k = inside_too o in
          let none = no_value (bad_slice_offset sl) reads.flags (reads.near bad_qp qs) reads.strengths (some_bad_number sl reads.near) (bad_slice_mode sl) in
          inside-0 d v (p, ms) r f full bits o ∙ sym (k ∙ none later (rw k at h))

-- ---- one pair of offsets, in range: 6, 20 and 21 cannot come, so there `Legal` asks for no more than 7, 8
-- and 9
unfoldable applies : ℕ → List (ℕ × Bool) → Bool
applies k [] = false
applies k (c ∷ cs) = (eqb c.0 k && c.1) || applies k cs

-- a number of which no check applies is not the answer
not-said : (k : ℕ) (cs : List (ℕ × Bool)) → applies k cs ≡ false → refusal cs ≡ k → k ≡ 0
unfolding applies
not-said k [] h e = sym e
not-said k (c ∷ cs) h e = let p = or-false (eqb c.0 k && c.1) (applies k cs) h in go c.1 p.0 (not-said k cs p.1) e
  where
    go : (b : Bool) → (eqb c.0 k && b) ≡ false → (refusal cs ≡ k → k ≡ 0) → cond b c.0 (refusal cs) ≡ k → k ≡ 0
    go true f later z = absurd (true-false (rw (eq-eqb c.0 k z) at f))
    go false f later z = later z

module _ (size : Size) (o : Offsets) (range : bad_offsets o ≡ false) (ss qs ts : List ℕ) (s : State Planes) (r : At) where
  abbrev plain : Lent
  plain = lent size o ss qs ts

  abbrev checks : List (ℕ × Bool)
  checks = visit_checks Frame plain (length s.0.luma) (length s.0.u) (length s.0.v) s.1 r

  not-early : (k : ℕ) → applies k checks ≡ false → early_of plain s r ≡ k → k ≡ 0
  unfolding early_in
  not-early k = not-said k checks

  pub plain-legal : let n = (visit_of plain s r).0 in (n ≢ 7) × (n ≢ 8) × (n ≢ 9) → Legal n
  unfolding visit applies
  plain-legal = go (answer size.w (early_of plain) s r) (verdict size.w size.h (early_of plain) (asks-place plain) s r)
    where
      go : (n : ℕ) → Verdict size.w size.h (early_of plain) s r n → (n ≢ 7) × (n ≢ 8) × (n ≢ 9) → Legal n
      go n (earlier e k) h = record {
        offset = λ m. omega (arith, not-early 6 (rw range) (sym k ∙ m));
        flag = h.0;
        qp = h.1;
        strength = h.2;
        number = λ m. omega (arith, not-early 20 refl (sym k ∙ m));
        mode = λ m. omega (arith, not-early 21 refl (sym k ∙ m));
      }
      go n (already e m k) h = legal-of (λ l. omega arith) (omega arith)
      go n (waits e m w k) h = legal-of (λ l. omega arith) (omega arith)
      go n (free e m w k) h = legal-of (λ l. omega arith) (omega arith)
