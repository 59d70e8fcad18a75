-- What a visit promises: one outcome only; and, for its code, a law for each way out. Assumes nothing.
use mathlib.Core.Path.{◌≡◌, refl, sym, ap, ◌∙◌}
use mathlib.Core.Logic.{◌≢◌}
use mathlib.Core.Bool.{true, false, cond, not, ◌&&◌, ◌||◌}
use mathlib.Core.List.{List}
use Prim.Native.Nat.{ℕ, ◌+◌, ◌-◌, ◌*◌, ◌<◌}
use native.Mathlib.Omega.{arith}
use borrow.Author.Tests.{eq-eqb, ne_eqb}
use lib.Dec.{eqb, ltb, ltb→lt}
use lib.ListN.{get_or, set}
use Rattle.visits.specs.Visit.{At, State, marked, waiting, answer, visit, VisitOutcomeOf}
use Rattle.laws.proofs.Bools.{and_parts, guarded}

-- ---- the answer, by the first check that applies
module _ (W : ℕ) {S : Type 0} (early : State S → At → ℕ) (s : State S) (r : At) where
  pub answer-early : early s r ≢ 0 → answer W early s r ≡ early s r
  unfolding answer
  answer-early h = rw (ne_eqb (early s r) 0 h)

  pub answer-late : early s r ≡ 0 → answer W early s r ≡ cond (marked W s.1 r.0 r.1) 13 (cond (waiting W s.1 r.0 r.1) 14 0)
  unfolding answer
  answer-late e = rw (eq-eqb (early s r) 0 e)

  pub answer-13 : early s r ≡ 0 → marked W s.1 r.0 r.1 ≡ true → answer W early s r ≡ 13
  unfolding answer
  answer-13 e m = rw (eq-eqb (early s r) 0 e, m)

  pub answer-14 : early s r ≡ 0 → marked W s.1 r.0 r.1 ≡ false → waiting W s.1 r.0 r.1 ≡ true → answer W early s r ≡ 14
  unfolding answer
  answer-14 e m w = rw (eq-eqb (early s r) 0 e, m, w)

  pub answer-0 : early s r ≡ 0 → marked W s.1 r.0 r.1 ≡ false → waiting W s.1 r.0 r.1 ≡ false → answer W early s r ≡ 0
  unfolding answer
  answer-0 e m w = rw (eq-eqb (early s r) 0 e, m, w)

module _ {W : ℕ} {S : Type 0} {step : ℕ → S → S} {early : State S → At → ℕ} {s : State S} {r : At} where
  -- two outcomes that the promise allows are equal
  pub one-outcome : {n m : ℕ} {t u : State S} → VisitOutcomeOf W step early s r n t → VisitOutcomeOf W step early s r m u → (n ≡ m) × (t ≡ u)
  one-outcome a b = (a.number ∙ sym b.number, λ i. ((a.planes ∙ sym b.planes) i, (a.marks ∙ sym b.marks) i))

  -- and `visit` is one that it allows
  pub outcome-of-visit : VisitOutcomeOf W step early s r (visit W step early s r).0 (visit W step early s r).1
  unfolding visit
  outcome-of-visit = record { number = refl; planes = refl; marks = refl }

  pub outcome-is-visit : {n : ℕ} {t : State S} → VisitOutcomeOf W step early s r n t → (n ≡ (visit W step early s r).0) × (t ≡ (visit W step early s r).1)
  outcome-is-visit a = one-outcome a outcome-of-visit

  -- the ways out: a refusal, and done
  pub refused-outcome : {n : ℕ} → answer W early s r ≡ n → n ≢ 0 → VisitOutcomeOf W step early s r n s
  refused-outcome e h =
      let k : eqb (answer W early s r) 0 ≡ false = ne_eqb (answer W early s r) 0 (λ l. h (sym e ∙ l)) in
      record { number = sym e; planes = rw k; marks = rw k }

  pub done-outcome : {p : S} {ms : List ℕ} → answer W early s r ≡ 0 → p ≡ step (r.1 * W + r.0) s.0 → ms ≡ set s.1 (r.1 * W + r.0) 1
      → VisitOutcomeOf W step early s r 0 (p, ms)
  done-outcome e f g =
      let k : eqb (answer W early s r) 0 ≡ true = eq-eqb (answer W early s r) 0 e in
      record { number = sym e; planes = rw k f; marks = rw k g }

-- ---- the test of check 14 as code makes it, by the index i of the macroblock
module _ (W : ℕ) (ms : List ℕ) (x y i : ℕ) (at : i ≡ y * W + x) where
  row_up : 0 < y → y * W ≡ (y - 1) * W + W
  row_up h = let e : y ≡ y - 1 + 1 = omega arith in ap (λ (k : ℕ). k * W) e ∙ omega arith

  pub waiting-by-index : waiting W ms x y
      ≡ ((ltb 0 x && not (eqb (get_or ms (i - 1) 0) 1))
      || (ltb 0 y && not (eqb (get_or ms (i - W) 0) 1))
      || (ltb 0 y && ltb (x + 1) W && not (eqb (get_or ms (i - W + 1) 0) 1)))
  unfolding waiting
  waiting-by-index = λ j. left j || upper j || upper-right j
    where
      reads : (a b : ℕ) → a ≡ b → not (eqb (get_or ms a 0) 1) ≡ not (eqb (get_or ms b 0) 1)
      reads a b e = ap (λ (k : ℕ). not (eqb (get_or ms k 0) 1)) e

      left : (ltb 0 x && not (marked W ms (x - 1) y)) ≡ (ltb 0 x && not (eqb (get_or ms (i - 1) 0) 1))
      left = guarded (ltb 0 x) (λ t. let h = ltb→lt 0 x t in reads (y * W + (x - 1)) (i - 1) (omega arith))

      upper : (ltb 0 y && not (marked W ms x (y - 1))) ≡ (ltb 0 y && not (eqb (get_or ms (i - W) 0) 1))
      upper = guarded (ltb 0 y) (λ t. let h = ltb→lt 0 y t in reads ((y - 1) * W + x) (i - W) (omega (arith, row_up h)))

      upper-right : (ltb 0 y && ltb (x + 1) W && not (marked W ms (x + 1) (y - 1))) ≡ (ltb 0 y && ltb (x + 1) W && not (eqb (get_or ms (i - W + 1) 0) 1))
      upper-right =
          guarded (ltb 0 y && ltb (x + 1) W)
          (λ t. let h = ltb→lt 0 y (and_parts (ltb 0 y) (ltb (x + 1) W) t).0 in reads ((y - 1) * W + (x + 1)) (i - W + 1) (omega (arith, row_up h)))
