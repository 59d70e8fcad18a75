-- Right after a visit that was done, `made_final` lists exactly what has become final with it. Assumes
-- nothing.
use mathlib.Core.Path.{◌≡◌, sym, ap, ◌∙◌}
use mathlib.Core.Logic.{◌↔◌, ◌≢◌}
use Prim.Native.Nat.{ℕ, ◌+◌, ◌-◌, ◌*◌, ◌<◌}
use native.Mathlib.Decide.{ℕ_discrete, dec_lt}
use native.Mathlib.Omega.{arith}
use lib.ListN.{set}
use lib.Seq.{get_or-set_other}
use Rattle.laws.specs.Raster.{Marked}
use Rattle.laws.proofs.Grid.{index-tells}
use Rattle.edges.specs.Picture.{Planes}
use Rattle.pictures.specs.Checks.{Lent}
use Rattle.sizes.specs.declared.Part.{Part}
use Rattle.visits.specs.Checks.{early_in}
use Rattle.visits.specs.Promise.{step_in, VisitOutcome}
use Rattle.visits.specs.Visit.{State}
use Rattle.visits.proofs.Clauses.{Done, done-tells}
use Rattle.visits.proofs.Instance.{asks-place-in}
use Rattle.visits.proofs.Outcome.{outcome-is-visit}
use Rattle.finality.specs.Final.{finals_of, Final}
use Rattle.finality.specs.Made.{Listed, its_own, its-left, its-upper}
use Rattle.finality.proofs.Members.{own-tells, own-said, left-tells, left-said, upper-tells, upper-said}

-- a visit that is done: of a macroblock of the picture, unmarked before, marked afterwards
module _ (part : Part) (d : Lent) (s t : State Planes) (x y : ℕ) (o : VisitOutcome part d s (x, y) 0 t) where
  abbrev W : ℕ
  W = d.size.w

  abbrev i : ℕ
  i = y * W + x

  done : Done W d.size.h (step_in part d) (early_in part d) (asks-place-in part d) s (x, y)
  done = done-tells W d.size.h (step_in part d) (early_in part d) (asks-place-in part d) s (x, y) (sym (outcome-is-visit o).0)

  after : t.1 ≡ set s.1 i 1
  after = ap (λ (u : State Planes). u.1) ((outcome-is-visit o).1 ∙ done.after)

  -- a mark of another place was there before
  before : (j : ℕ) → j ≢ i → Marked t.1 j → Marked s.1 j
  before j h m = sym (get_or-set_other s.1 i j 1 0 h) ∙ (rw after at m)

  pub made-exactly : (finals_of d.size t.1 x y).number ≡ 0 → (a b : ℕ) → a < W → b < d.size.h
      → Listed x y (finals_of d.size t.1 x y) a b ↔ (Final d.size t.1 a b × (Final d.size s.1 a b → ⊥))
  made-exactly z a b ha hb = (listed, became)
    where
      listed : Listed x y (finals_of d.size t.1 x y) a b → Final d.size t.1 a b × (Final d.size s.1 a b → ⊥)
      listed (its_own e f k) =
          (rw (e, f) (own-tells d.size t.1 x y z k), λ g. done.unvisited (rw (e, f) at g.own))
      listed (its-left e f k) =
          let l = left-tells d.size t.1 x y z k in
          let c : a ≡ x - 1 = omega arith in
          (rw (c, f) l.1, λ g. done.unvisited (rw (e, f) at (g.right (omega (arith, done.column)))))
      listed (its-upper e f k) =
          let l = upper-tells d.size t.1 x y z k in
          let c : b ≡ y - 1 = omega arith in
          (rw (e, c) l.1, λ g. done.unvisited (rw (e, f) at (g.lower (omega (arith, done.row)))))

      -- a macroblock none of whose three is (x, y) was final before
      old : Final d.size t.1 a b → b * W + a ≢ i → (a + 1 < W → b * W + (a + 1) ≢ i) → (b + 1) * W + a ≢ i → Final d.size s.1 a b
      old f p q r = record { own = before (b * W + a) p f.own; right = λ k. before (b * W + (a + 1)) (q k) (f.right k); lower = λ k. before ((b + 1) * W + a) r (f.lower k) }

      became : Final d.size t.1 a b × (Final d.size s.1 a b → ⊥) → Listed x y (finals_of d.size t.1 x y) a b
      became (f, n) = first (ℕ_discrete (b * W + a) i)
        where
          third : b * W + a ≢ i → (a + 1 < W → b * W + (a + 1) ≢ i) → Dec ((b + 1) * W + a ≡ i) → Listed x y (finals_of d.size t.1 x y) a b
          third p q (no r) = absurd (n (old f p q r))
          third p q (yes e) =
              let k = index-tells W a (b + 1) x y ha done.column e in
              let c : b ≡ y - 1 = omega (arith, k.1) in
              its-upper k.0 k.1 (upper-said d.size t.1 x y z (omega (arith, k.1)) (rw (k.0, c) at f))

          second : b * W + a ≢ i → Dec (a + 1 < W) → Dec (b * W + (a + 1) ≡ i) → Listed x y (finals_of d.size t.1 x y) a b
          second p (no l) e = third p (λ k. absurd (l k)) (ℕ_discrete ((b + 1) * W + a) i)
          second p (yes l) (no q) = third p (λ k. q) (ℕ_discrete ((b + 1) * W + a) i)
          second p (yes l) (yes e) =
              let k = index-tells W (a + 1) b x y l done.column e in
              let c : a ≡ x - 1 = omega (arith, k.0) in
              its-left k.0 k.1 (left-said d.size t.1 x y z (omega (arith, k.0)) (rw (k.1, c) at f))

          first : Dec (b * W + a ≡ i) → Listed x y (finals_of d.size t.1 x y) a b
          first (no p) = second p (dec_lt (a + 1) W) (ℕ_discrete (b * W + (a + 1)) i)
          first (yes e) =
              let k = index-tells W a b x y ha done.column e in
              its_own k.0 k.1 (own-said d.size t.1 x y z (rw (k.0, k.1) at f))
