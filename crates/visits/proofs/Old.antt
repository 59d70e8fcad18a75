-- The old rule on a picture of 2 by 2, for any filter: what its order comes to, what raster order comes to,
-- and that ours refuses it. One sample in which the two differ refutes the old rule. Assumes nothing.
use mathlib.Core.Path.{◌≡◌, ap, ◌∙◌}
use mathlib.Core.List.{List, [], ◌∷◌}
use Prim.Native.Nat.{ℕ}
use borrow.Author.Tests.{eq-eqb}
use Rattle.laws.specs.Loop.{up_to}
use Rattle.visits.specs.Visit.{At, State, Call, fresh, waiting, answer, visit, run, answers, itself}
use Rattle.visits.specs.AnyOrder.{AnyOrder, Demand3}
use Rattle.visits.specs.Old.{old_waiting, old_answer, old_visit, old_order, raster_order}

pub run_on : {A S : Type 0} (call : Call A S) (rs : List At) {s t : State S} {r : At} {n : A} → call s r ≡ (n, t) → run call (r ∷ rs) s ≡ run call rs t
run_on {A} {S} call rs e = ap (λ (p : A × State S). run call rs p.1) e

module _ {S : Type 0} (step : ℕ → S → S) (early : State S → At → ℕ) (s : S) where
  -- no earlier check applies to the four visits
  pub record OldClear : Type 0 where
    pub first : early (s, 0 ∷ 0 ∷ 0 ∷ 0 ∷ []) (0, 0) ≡ 0
    pub second : early (step 0 s, 1 ∷ 0 ∷ 0 ∷ 0 ∷ []) (0, 1) ≡ 0
    pub third : early (step 2 (step 0 s), 1 ∷ 0 ∷ 1 ∷ 0 ∷ []) (1, 0) ≡ 0
    pub fourth : early (step 1 (step 2 (step 0 s)), 1 ∷ 1 ∷ 1 ∷ 0 ∷ []) (1, 1) ≡ 0

  module _ (c : OldClear) where
    pub old-1 : old_visit 2 step early (s, fresh 2 2) (0, 0) ≡ (0, (step 0 s, 1 ∷ 0 ∷ 0 ∷ 0 ∷ []))
    unfolding old_visit old_answer old_waiting
    old-1 = rw (eq-eqb _ 0 c.first)

    pub old-2 : old_visit 2 step early (step 0 s, 1 ∷ 0 ∷ 0 ∷ 0 ∷ []) (0, 1) ≡ (0, (step 2 (step 0 s), 1 ∷ 0 ∷ 1 ∷ 0 ∷ []))
    unfolding old_visit old_answer old_waiting
    old-2 = rw (eq-eqb _ 0 c.second)

    old-3 : old_visit 2 step early (step 2 (step 0 s), 1 ∷ 0 ∷ 1 ∷ 0 ∷ []) (1, 0) ≡ (0, (step 1 (step 2 (step 0 s)), 1 ∷ 1 ∷ 1 ∷ 0 ∷ []))
    unfolding old_visit old_answer old_waiting
    old-3 = rw (eq-eqb _ 0 c.third)

    old-4 : old_visit 2 step early (step 1 (step 2 (step 0 s)), 1 ∷ 1 ∷ 1 ∷ 0 ∷ []) (1, 1)
        ≡ (0, (step 3 (step 1 (step 2 (step 0 s))), 1 ∷ 1 ∷ 1 ∷ 1 ∷ []))
    unfolding old_visit old_answer old_waiting
    old-4 = rw (eq-eqb _ 0 c.fourth)

    -- the old rule allows the order
    pub old-allows : answers (old_visit 2 step early) old_order (s, fresh 2 2) ≡ 0 ∷ 0 ∷ 0 ∷ 0 ∷ []
    old-allows = rw (old-1, old-2, old-3, old-4)

    pub old-ends : run (old_visit 2 step early) old_order (s, fresh 2 2) ≡ (step 3 (step 1 (step 2 (step 0 s))), 1 ∷ 1 ∷ 1 ∷ 1 ∷ [])
    old-ends =
        run_on (old_visit 2 step early) ((0, 1) ∷ (1, 0) ∷ (1, 1) ∷ []) old-1
        ∙ run_on (old_visit 2 step early) ((1, 0) ∷ (1, 1) ∷ []) old-2
        ∙ run_on (old_visit 2 step early) ((1, 1) ∷ []) old-3
        ∙ run_on (old_visit 2 step early) [] old-4

    -- so where the two orders differ, demand 3 does not hold of it
    pub old-refuted : (step 3 (step 1 (step 2 (step 0 s))) ≡ step 3 (step 2 (step 1 (step 0 s))) → ⊥) → Demand3 2 2 step early itself (old_visit 2 step early) → ⊥
    unfolding up_to
    old-refuted differ d = differ end.planes
      where
        end : AnyOrder 2 2 step early itself (old_visit 2 step early) s (step 3 (step 1 (step 2 (step 0 s))), 1 ∷ 1 ∷ 1 ∷ 1 ∷ [])
        end = rw old-ends at (d s old_order)

    -- ours refuses the second visit: its upper right neighbour is unvisited
    ours-1 : visit 2 step early (s, fresh 2 2) (0, 0) ≡ (0, (step 0 s, 1 ∷ 0 ∷ 0 ∷ 0 ∷ []))
    unfolding visit answer waiting
    ours-1 = rw (eq-eqb _ 0 c.first)

    ours-2 : visit 2 step early (step 0 s, 1 ∷ 0 ∷ 0 ∷ 0 ∷ []) (0, 1) ≡ (14, (step 0 s, 1 ∷ 0 ∷ 0 ∷ 0 ∷ []))
    unfolding visit answer waiting
    ours-2 = rw (eq-eqb _ 0 c.second)

    pub ours-refuses : answers (visit 2 step early) ((0, 0) ∷ (0, 1) ∷ []) (s, fresh 2 2) ≡ 0 ∷ 14 ∷ []
    ours-refuses = rw (ours-1, ours-2)

  -- ---- raster order, which both allow
  pub record RasterClear : Type 0 where
    pub first : early (s, 0 ∷ 0 ∷ 0 ∷ 0 ∷ []) (0, 0) ≡ 0
    pub second : early (step 0 s, 1 ∷ 0 ∷ 0 ∷ 0 ∷ []) (1, 0) ≡ 0
    pub third : early (step 1 (step 0 s), 1 ∷ 1 ∷ 0 ∷ 0 ∷ []) (0, 1) ≡ 0
    pub fourth : early (step 2 (step 1 (step 0 s)), 1 ∷ 1 ∷ 1 ∷ 0 ∷ []) (1, 1) ≡ 0

  pub raster-ends : RasterClear → run (visit 2 step early) raster_order (s, fresh 2 2) ≡ (step 3 (step 2 (step 1 (step 0 s))), 1 ∷ 1 ∷ 1 ∷ 1 ∷ [])
  unfolding visit answer waiting
  raster-ends c =
      run_on (visit 2 step early) ((1, 0) ∷ (0, 1) ∷ (1, 1) ∷ []) {t = (step 0 s, 1 ∷ 0 ∷ 0 ∷ 0 ∷ [])} {n = 0} (rw (eq-eqb _ 0 c.first))
      ∙ run_on (visit 2 step early) ((0, 1) ∷ (1, 1) ∷ []) {t = (step 1 (step 0 s), 1 ∷ 1 ∷ 0 ∷ 0 ∷ [])} {n = 0} (rw (eq-eqb _ 0 c.second))
      ∙ run_on (visit 2 step early) ((1, 1) ∷ []) {t = (step 2 (step 1 (step 0 s)), 1 ∷ 1 ∷ 1 ∷ 0 ∷ [])} {n = 0} (rw (eq-eqb _ 0 c.third))
      ∙ run_on (visit 2 step early) [] {n = 0} (rw (eq-eqb _ 0 c.fourth))
