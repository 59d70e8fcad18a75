-- Rounds made as visits: with valid data throughout they leave the schedule's marks, and finished ones the
-- whole filtered picture. Assumes nothing.
use mathlib.Core.Path.{◌≡◌, refl, sym, ap, subst, ◌∙◌}
use mathlib.Core.List.{List, [], ◌∷◌, ◌++◌, map}
use Prim.Native.Nat.{ℕ, ◌+◌, ◌*◌, ◌/◌, ◌%◌, ◌≤◌, ◌<◌}
use native.Mathlib.Nat.{mod-lt, div-add-mod', div-lt_iff_lt-mul}
use native.Mathlib.Decide.{ℕ_discrete}
use native.Mathlib.Omega.{arith}
use lib.Dec.{eqb}
use lib.ListN.{length, get_or, set, length-set, length-replicate}
use lib.Seq.{set-get_or}
use Rattle.laws.specs.Local.{All}
use Rattle.laws.specs.Loop.{up_to}
use Rattle.laws.specs.Raster.{Marked}
use Rattle.laws.specs.Order.{Ready, Dep}
use Rattle.laws.proofs.Cond.{cond_both}
use Rattle.laws.proofs.Places.{all_map}
use Rattle.visits.specs.Visit.{At, State, Call, fresh, answer, visit, run, itself}
use Rattle.visits.specs.Instance.{AsksPlace, Passes}
use Rattle.visits.specs.Beyond.{Bits, Beyond3}
use Rattle.visits.specs.Rounds.{Able, mark_all, Allowed, Full, Schedule, over, next, place_of, as_requests, rounds_for}
use Rattle.visits.proofs.Neighbours.{wide, ready→free}
use Rattle.visits.proofs.Marks.{visited-stays, set-bits, fresh-bits}
use Rattle.visits.proofs.Clauses.{already-exactly, done-where-ready, refused-unchanged, sets-own-mark}
use Rattle.visits.proofs.Rounds.{rounds-proved, full→allowed}

pub run-append : {A S : Type 0} (call : Call A S) (ps qs : List At) (s : State S) → run call (ps ++ qs) s ≡ run call qs (run call ps s)
run-append call [] qs s = refl
run-append call (p ∷ ps) qs s = run-append call ps qs (call s p).1

module _
    (W H : ℕ)
    {S : Type 0}
    (step : ℕ → S → S)
    (early : State S → At → ℕ)
    (inside : AsksPlace W H early)
    (Valid : S → Type 0)
    (kept : (i : ℕ) (s : S) → Valid s → Valid (step i s))
    (clear : Passes W H early Valid) where
  pub record ValidState (s : State S) : Type 0 where
    pub valid : Valid s.0
    pub full : length s.1 ≡ W * H
    pub bits : Bits s.1

  pub valid-visit : (s : State S) (r : At) → ValidState s → ValidState (visit W step early s r).1
  unfolding visit
  valid-visit s r g = cond_both ValidState (eqb (answer W early s r) 0) stepped g
    where
      m : ℕ
      m = r.1 * W + r.0

      stepped : ValidState (step m s.0, set s.1 m 1)
      stepped = record { valid = kept m s.0 g.valid; full = length-set s.1 m 1 ∙ g.full; bits = set-bits s.1 m g.bits }

  -- one that is ready is marked afterwards, whether it was before or not
  marks-one : (s : State S) (i : ℕ) → ValidState s → i < W * H → Ready (Dep W) s.1 i → (visit W step early s (place_of W i)).1.1 ≡ set s.1 i 1
  marks-one s i g h r = go (ℕ_discrete (get_or s.1 i 0) 1)
    where
      w : 0 < W
      w = wide W H i h

      x : ℕ
      x = i % W

      y : ℕ
      y = i / W

      at : y * W + x ≡ i
      at = div-add-mod' i W

      e : early s (x, y) ≡ 0
      e = clear s g.valid g.full g.bits x y (mod-lt i w) ((div-lt_iff_lt-mul w).1 (omega arith))

      go : Dec (Marked s.1 i) → (visit W step early s (x, y)).1.1 ≡ set s.1 i 1
      go (yes m) =
          let marked = (already-exactly W H step early inside s x y e).1 (rw at m) in
          ap (λ (t : State S). t.1) (refused-unchanged W step early s (x, y) (λ k. omega arith))
          ∙ sym (ap (λ (v : ℕ). set s.1 i v) (sym m) ∙ set-get_or s.1 i 0)
      go (no u) =
          sets-own-mark W step early s x y
          (done-where-ready W H step early inside s x y e (rw at u) (ready→free W H s.1 x y (mod-lt i w) (rw at r)))
          ∙ ap (λ (k : ℕ). set s.1 k 1) at

  -- those of a round stay ready while it is made
  round-run : (is : List ℕ) (s : State S) → ValidState s → All (λ i. (i < W * H) × Ready (Dep W) s.1 i) is
      → ValidState (run (visit W step early) (map (place_of W) is) s) × ((run (visit W step early) (map (place_of W) is) s).1 ≡ mark_all is s.1)
  round-run [] s g r = (g, refl)
  round-run (i ∷ is) s g r =
      let t = (visit W step early s (place_of W i)).1 in
      let e : t.1 ≡ set s.1 i 1 = marks-one s i g r.0.0 r.0.1 in
      let k =
      round-run is t (valid-visit s (place_of W i) g)
      (all_map (λ j. (j < W * H) × Ready (Dep W) s.1 j) (λ j. (j < W * H) × Ready (Dep W) t.1 j) is
      (λ j p. (p.0, λ a d. subst (λ (ms : List ℕ). Marked ms a) (sym e) (visited-stays s.1 i a (p.1 a d)))) r.1) in
      (k.0, k.1 ∙ ap (mark_all is) e)

  pub schedule-run : {ms end : List ℕ} {rounds : List (List ℕ)} → Schedule (Allowed W H) ms rounds end → (s : State S) → ValidState s → s.1 ≡ ms
      → (run (visit W step early) (as_requests W rounds) s).1 ≡ end
  schedule-run over s g e = e
  schedule-run (next {ms = ms} {is = is} {rounds = rounds} r c) s g e =
      let k =
      round-run is s g
      (rw e (all_map (Able W H ms) (λ i. (i < W * H) × Ready (Dep W) ms i) is (λ i a. (a.0, a.2)) r)) in
      ap (λ (t : State S). t.1) (run-append (visit W step early) (map (place_of W) is) (as_requests W rounds) s)
      ∙ schedule-run c (run (visit W step early) (map (place_of W) is) s) k.0 (k.1 ∙ ap (mark_all is) e)

  -- the whole picture in W + 2 * (H - 1) rounds, H where W is 1
  pub rounds-filter : Beyond3 W H step early itself (visit W step early) → {rounds : List (List ℕ)} {end : List ℕ} → Schedule (Full W H) (fresh W H) rounds end
      → rounds_for W H ≤ length rounds → (start : S) → Valid start
      → (run (visit W step early) (as_requests W rounds) (start, fresh W H)).0 ≡ up_to (W * H) step start
  rounds-filter E {rounds = rounds} c l start v =
      (E start (as_requests W rounds)).whole (rw (schedule-run (full→allowed W H c) (start, fresh W H) started refl) ((rounds-proved W H).finished c l))
    where
      started : ValidState (start, fresh W H)
      started = record { valid = v; full = length-replicate (W * H) 0; bits = fresh-bits (W * H) }
