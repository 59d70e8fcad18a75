-- The condition is the right one: on the smallest picture that has it each of the three marks is needed. With
-- that one missing, a later visit changes a sample of the macroblock. Assumes nothing.
use mathlib.Core.Path.{◌≡◌, sym, ap, ◌∙◌}
use mathlib.Core.List.{[], ◌∷◌}
use Prim.Native.Nat.{ℕ}
use native.Mathlib.Omega.{arith}
use lib.ListN.{get_or}
use Rattle.edges.specs.Picture.{Planes}
use Rattle.visits.specs.Promise.{visit_of, unvisited}
use Rattle.visits.specs.Smallest.{one_lent, one_planes, pair_lent, pair_planes, column_lent, column_planes}
use Rattle.visits.specs.Visit.{State, run}
use Rattle.visits.proofs.Instance.{fit-kept}
use Rattle.visits.proofs.Smallest.{one-sound, one-fit, one-first, one-samples, pair_step, pair-sound, pair-fit, pair-first, pair-second, pair-samples, column_step, column-sound, column-fit, column-first, column-second, column-samples}
use Rattle.finality.specs.Needed.{StillChanges}

-- the own mark, 1 by 1: nothing is visited yet
pub own-needed : StillChanges one_lent one_planes [] (0 ∷ []) (0, 0)
own-needed = record {
  sound = one-sound;
  fit = one-fit;
  marks = λ i. 0 ∷ [];
  done = ap (λ (o : ℕ × State Planes). o.0) one-first;
  changed = λ same. let k : ◌≡◌ {A = ℕ} 100 101 = sym one-samples.0 ∙ same.luma 3 0 (omega arith) (omega arith) ∙ ap (λ (o : ℕ × State Planes). get_or o.1.0.luma 3 0) one-first ∙ one-samples.1 in omega arith;
}

-- the right one's, 2 by 1: (0, 0) is visited, and has no lower neighbour
pub right-needed : StillChanges pair_lent pair_planes ((0, 0) ∷ []) (1 ∷ 0 ∷ []) (1, 0)
right-needed = record {
  sound = pair-sound;
  fit = pair-fit;
  marks = ap (λ (s : State Planes). s.1) now-is;
  done = ap (λ (o : ℕ × State Planes). o.0) then_is;
  changed = λ same.
      let k : ◌≡◌ {A = ℕ} 100 101 =
      sym (ap (λ (s : State Planes). get_or s.0.luma 15 0) now-is ∙ pair-samples.0)
      ∙ same.luma 15 0 (omega arith) (omega arith)
      ∙ ap (λ (o : ℕ × State Planes). get_or o.1.0.luma 15 0) then_is
      ∙ pair-samples.1 in
      omega arith;
}
  where
    now-is : run (visit_of pair_lent) ((0, 0) ∷ []) (unvisited pair_lent pair_planes) ≡ (pair_step 0 pair_planes, 1 ∷ 0 ∷ [])
    now-is = ap (λ (o : ℕ × State Planes). o.1) pair-first

    then_is : visit_of pair_lent (run (visit_of pair_lent) ((0, 0) ∷ []) (unvisited pair_lent pair_planes)) (1, 0) ≡ (0, (pair_step 1 (pair_step 0 pair_planes), 1 ∷ 1 ∷ []))
    then_is = ap (λ (s : State Planes). visit_of pair_lent s (1, 0)) now-is ∙ pair-second (pair_step 0 pair_planes) (fit-kept pair_lent 0 pair_planes pair-fit)

-- the lower one's, 1 by 2: (0, 0) is visited, and has no right neighbour
pub lower-needed : StillChanges column_lent column_planes ((0, 0) ∷ []) (1 ∷ 0 ∷ []) (0, 1)
lower-needed = record {
  sound = column-sound;
  fit = column-fit;
  marks = ap (λ (s : State Planes). s.1) now-is;
  done = ap (λ (o : ℕ × State Planes). o.0) then_is;
  changed = λ same.
      let k : ◌≡◌ {A = ℕ} 100 102 =
      sym (ap (λ (s : State Planes). get_or s.0.luma 240 0) now-is ∙ column-samples.0)
      ∙ same.luma 0 15 (omega arith) (omega arith)
      ∙ ap (λ (o : ℕ × State Planes). get_or o.1.0.luma 240 0) then_is
      ∙ column-samples.1 in
      omega arith;
}
  where
    now-is : run (visit_of column_lent) ((0, 0) ∷ []) (unvisited column_lent column_planes) ≡ (column_step 0 column_planes, 1 ∷ 0 ∷ [])
    now-is = ap (λ (o : ℕ × State Planes). o.1) column-first

    then_is : visit_of column_lent (run (visit_of column_lent) ((0, 0) ∷ []) (unvisited column_lent column_planes)) (0, 1) ≡ (0, (column_step 1 (column_step 0 column_planes), 1 ∷ 1 ∷ []))
    then_is = ap (λ (s : State Planes). visit_of column_lent s (0, 1)) now-is ∙ column-second (column_step 0 column_planes) (fit-kept column_lent 0 column_planes column-fit)
