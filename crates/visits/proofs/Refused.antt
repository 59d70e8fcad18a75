-- Wrong visits. Each is written out and shown to contradict demand 3, or the promise of one visit, for any
-- filter that does anything. Assumes nothing.
use mathlib.Core.Path.{◌≡◌, refl, sym, ap, ◌∙◌}
use mathlib.Core.Logic.{◌≢◌}
use mathlib.Core.Bool.{Bool, true, cond, ◌&&◌}
use mathlib.Core.List.{List, [], ◌∷◌}
use Prim.Native.Nat.{ℕ, ◌+◌, ◌*◌, ◌<◌}
use native.Mathlib.Omega.{arith}
use borrow.Author.Tests.{eq-eqb}
use lib.Dec.{eqb}
use lib.ListN.{get_or, set}
use Rattle.laws.specs.Loop.{up_to}
use Rattle.laws.specs.Grid.{Near, is-left, is_up, is-up-right}
use Rattle.laws.proofs.Grid.{index-lt}
use Rattle.laws.specs.Refusal.{or_else}
use Rattle.visits.specs.Visit.{At, State, Call, fresh, marked, waiting, answer, serve, visit, VisitOutcomeOf, itself}
use Rattle.visits.specs.AnyOrder.{AnyOrder, Demand3, Waits}
use Rattle.visits.specs.Old.{old_visit}
use Rattle.visits.proofs.Marks.{fresh-none}
use Rattle.visits.proofs.Old.{OldClear, old-1, old-2, run_on}

-- (0, 0) waits for none
origin-free : (W H : ℕ) (ms : List ℕ) → Waits W H ms 0 0 → ⊥
origin-free W H ms w = go w.near
  where
    go : Near w.nx w.ny 0 0 → ⊥
    go (is-left e f) = omega arith
    go (is_up e f) = omega arith
    go (is-up-right e f) = omega arith

-- no mark is set
abbrev pub none_marked : List ℕ → Bool
none_marked [] = true
none_marked (m ∷ ms) = eqb m 0 && none_marked ms

module _ (W : ℕ) {S : Type 0} (step : ℕ → S → S) (early : State S → At → ℕ) where
  -- leaves the planes untouched and sets the mark
  abbrev pub idle_visit : Call ℕ S
  idle_visit s r = (answer W early s r, (s.0, (serve W step (answer W early s r) s r).1))

  -- filters on the first visit and afterwards only sets marks
  abbrev pub first_only : Call ℕ S
  first_only s r = (answer W early s r, cond (none_marked s.1) (visit W step early s r).1 (idle_visit s r).1)

  -- asks whether it is ready before it asks whether it is marked
  abbrev pub ready_first : State S → At → ℕ
  ready_first s r = or_else (early s r) (cond (waiting W s.1 r.0 r.1) 14 (cond (marked W s.1 r.0 r.1) 13 0))

  -- serves the first column alone, and says of every other macroblock that it is marked
  abbrev pub turns_away : Call ℕ S
  turns_away s r = cond (eqb r.0 0) (visit W step early s r) (13, s)

  -- sets its mark though it refuses
  abbrev pub marks_refused : Call ℕ S
  marks_refused s r = (answer W early s r, ((serve W step (answer W early s r) s r).0, set s.1 (r.1 * W + r.0) 1))

module _ {S : Type 0} (step : ℕ → S → S) (early : State S → At → ℕ) (s : S) where
  -- with whatever numbers: in every picture (0, 0) is ready at the start
  pub always_refuses : (W H : ℕ) → 0 < W → 0 < H → early (s, fresh W H) (0, 0) ≡ 0
      → {A : Type 0} (number : A → ℕ) (says : State S → At → A) → ((t : State S) (r : At) → number (says t r) ≢ 0)
      → Demand3 W H step early number (λ t r. (says t r, t)) → ⊥
  always_refuses W H w h e number says never d =
      never (s, fresh W H) (0, 0) ((d s []).done 0 0 e (fresh-none (W * H) (0 * W + 0) (index-lt W H 0 0 w h)) (origin-free W H (fresh W H)))

  -- one macroblock, visited
  pub planes-untouched : early (s, 0 ∷ []) (0, 0) ≡ 0 → step 0 s ≢ s → Demand3 1 1 step early itself (idle_visit 1 step early) → ⊥
  unfolding up_to answer waiting
  planes-untouched e moves d = moves (sym end.planes)
    where
      one : idle_visit 1 step early (s, fresh 1 1) (0, 0) ≡ (0, (s, 1 ∷ []))
      one = rw (eq-eqb _ 0 e)

      end : AnyOrder 1 1 step early itself (idle_visit 1 step early) s (s, 1 ∷ [])
      end = rw (run_on (idle_visit 1 step early) [] one) at (d s ((0, 0) ∷ []))

  -- two macroblocks side by side, visited
  pub first-only : early (s, 0 ∷ 0 ∷ []) (0, 0) ≡ 0 → early (step 0 s, 1 ∷ 0 ∷ []) (1, 0) ≡ 0 → step 1 (step 0 s) ≢ step 0 s
      → Demand3 2 1 step early itself (first_only 2 step early) → ⊥
  unfolding up_to visit answer waiting
  first-only e f moves d = moves (sym end.planes)
    where
      one : first_only 2 step early (s, fresh 2 1) (0, 0) ≡ (0, (step 0 s, 1 ∷ 0 ∷ []))
      one = rw (eq-eqb _ 0 e)

      two : first_only 2 step early (step 0 s, 1 ∷ 0 ∷ []) (1, 0) ≡ (0, (step 0 s, 1 ∷ 1 ∷ []))
      two = rw (eq-eqb _ 0 f)

      end : AnyOrder 2 1 step early itself (first_only 2 step early) s (step 0 s, 1 ∷ 1 ∷ [])
      end = rw (run_on (first_only 2 step early) ((1, 0) ∷ []) one ∙ run_on (first_only 2 step early) [] two) at (d s ((0, 0) ∷ (1, 0) ∷ []))

  -- the left one visited, the right one is ready
  pub turns-away : early (s, 0 ∷ 0 ∷ []) (0, 0) ≡ 0 → early (step 0 s, 1 ∷ 0 ∷ []) (1, 0) ≡ 0 → Demand3 2 1 step early itself (turns_away 2 step early) → ⊥
  unfolding visit answer waiting
  turns-away e f d = let k : ◌≡◌ {A = ℕ} 13 0 = one.done 1 0 f (λ m. omega arith) free in omega arith
    where
      first : turns_away 2 step early (s, fresh 2 1) (0, 0) ≡ (0, (step 0 s, 1 ∷ 0 ∷ []))
      first = rw (eq-eqb _ 0 e)

      one : AnyOrder 2 1 step early itself (turns_away 2 step early) s (step 0 s, 1 ∷ 0 ∷ [])
      one = rw (run_on (turns_away 2 step early) [] first) at (d s ((0, 0) ∷ []))

      free : Waits 2 1 (1 ∷ 0 ∷ []) 1 0 → ⊥
      free w = go w.near
        where
          go : Near w.nx w.ny 1 0 → ⊥
          go (is-left p q) = let i : w.ny * 2 + w.nx ≡ 0 = omega arith in w.unvisited (ap (λ (n : ℕ). get_or (1 ∷ 0 ∷ []) n 0) i)
          go (is_up p q) = omega arith
          go (is-up-right p q) = omega arith

  -- the old rule, whatever the filter: after (0, 0) of 2 by 2, (0, 1) still waits for (1, 0)
  pub without-upper-right : OldClear step early s → Demand3 2 2 step early itself (old_visit 2 step early) → ⊥
  without-upper-right c d = omega (arith, (one.not-ready 0 1 c.second (λ m. omega arith)).1 waits, said)
    where
      said : (old_visit 2 step early (step 0 s, 1 ∷ 0 ∷ 0 ∷ 0 ∷ []) (0, 1)).0 ≡ 0
      said = ap (λ (p : ℕ × State S). p.0) (old-2 step early s c)

      one : AnyOrder 2 2 step early itself (old_visit 2 step early) s (step 0 s, 1 ∷ 0 ∷ 0 ∷ 0 ∷ [])
      one = rw (run_on (old_visit 2 step early) [] (old-1 step early s c)) at (d s ((0, 0) ∷ []))

      waits : Waits 2 2 (1 ∷ 0 ∷ 0 ∷ 0 ∷ []) 0 1
      waits = record {
        nx = 1;
        ny = 0;
        near = is-up-right refl refl;
        column = omega arith;
        row = omega arith;
        unvisited = λ m. omega arith;
      }

  -- 13 comes first. A run from nothing visited never meets the two together (Unseen.antt), so it is the
  -- promise of one visit that tells
  pub ready-first : early (s, 0 ∷ 1 ∷ []) (1, 0) ≡ 0 → (t : State S)
      → VisitOutcomeOf 2 step early (s, 0 ∷ 1 ∷ []) (1, 0) (ready_first 2 step early (s, 0 ∷ 1 ∷ []) (1, 0)) t → ⊥
  unfolding answer waiting
  ready-first e t o = let k : ◌≡◌ {A = ℕ} 14 13 = rw (eq-eqb _ 0 e) at o.number in omega arith

  -- a marked macroblock refused with 14
  pub marked-as-waiting : early (s, 1 ∷ 0 ∷ []) (0, 0) ≡ 0 → (t : State S) → VisitOutcomeOf 2 step early (s, 1 ∷ 0 ∷ []) (0, 0) 14 t → ⊥
  unfolding answer waiting
  marked-as-waiting e t o = let k : ◌≡◌ {A = ℕ} 14 13 = rw (eq-eqb _ 0 e) at o.number in omega arith

  -- (1, 0) before (0, 0)
  pub marks-refused : early (s, 0 ∷ 0 ∷ []) (1, 0) ≡ 0 → Demand3 2 1 step early itself (marks_refused 2 step early) → ⊥
  unfolding answer waiting
  marks-refused e d = omega (arith, ap (λ (t : State S). get_or t.1 1 0) ((d s []).refused (1, 0) not-0))
    where
      not-0 : answer 2 early (s, fresh 2 1) (1, 0) ≢ 0
      not-0 z = let k : ◌≡◌ {A = ℕ} 14 0 = rw (eq-eqb _ 0 e) at z in omega arith
