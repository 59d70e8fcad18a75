-- Demand 3, of the visit that the code makes: the filter is that of demand 2, the checks are those of
-- docs/RULES.md, "Answers". `AnyOrder` has its sentences one by one. Assumes nothing.
use mathlib.Core.Path.{◌≡◌, refl, sym, ap, ◌∙◌}
use mathlib.Core.Bool.{Bool}
use mathlib.Core.Logic.{◌⊎◌}
use mathlib.Core.List.{List, [], ◌∷◌, map}
use Prim.Native.Nat.{ℕ, ◌*◌, ◌<◌}
use lib.ListN.{length, get_or}
use Rattle.laws.proofs.Cond.{cond_both}
use Rattle.motion.specs.Grids.{Grids}
use Rattle.edges.specs.Picture.{Planes, step_of, frame_of}
use Rattle.edges.proofs.Pictures.{frame-steps}
use Rattle.pictures.specs.Standard.{picture_of, Derived}
use Rattle.pictures.proofs.FromGrids.{derived-picture}
use Rattle.visits.specs.Visit.{At, State, Call, run, answers, itself}
use Rattle.visits.specs.AnyOrder.{AllVisited, AnyOrder, Demand3}
use Rattle.visits.specs.Beyond.{Beyond3}
use Rattle.visits.specs.Calls.{Calls}
use Rattle.visits.specs.Promise.{requests, visit_of, unvisited, uneven, VisitOutcome, ReplayOutcome}
use Rattle.pictures.specs.Checks.{Lent, held_of}
use Rattle.sizes.specs.declared.Part.TheVariants.{Frame}
use Rattle.visits.specs.Checks.{early_of, Sound, Fit}
use Rattle.visits.proofs.AnyOrder.{any_order, beyond}
use Rattle.visits.proofs.ByContract.{any-order-by-contract}
use Rattle.visits.proofs.Calls.{calls-any-order}
use Rattle.visits.proofs.Marks.{zeros-are-fresh}
use Rattle.visits.proofs.Progress as progress
use Rattle.visits.proofs.Unique as unique
use Rattle.visits.proofs.Instance.{asks-place, commutes, fit-kept, passes-valid}

map-itself : (ns : List ℕ) → map itself ns ≡ ns
map-itself [] = refl
map-itself (n ∷ ns) = ap (λ (ms : List ℕ). n ∷ ms) (map-itself ns)

-- d is what is lent and stays the same; of its size only that there is a column is asked
module _ (d : Lent) (wide : 0 < d.size.w) where
  -- for every picture to start with and every list of requests
  pub demand-3 : Demand3 d.size.w d.size.h (step_of (held_of d)) (early_of d) itself (visit_of d)
  demand-3 = any_order d.size.w d.size.h (step_of (held_of d)) (early_of d) (asks-place d) (commutes d wide)

  -- .. and of any calls that keep the contract of `visit`: where they lead, and the numbers that they
  -- answered, one for each request
  pub of_calls : {A : Type 0} {number : A → ℕ} {start : Planes} {rs : List At} {said : List A} {now : State Planes}
      → Calls d.size.w (step_of (held_of d)) (early_of d) number (unvisited d start) rs said now
      → AnyOrder d.size.w d.size.h (step_of (held_of d)) (early_of d) itself (visit_of d) start now × (map number said ≡ answers (visit_of d) rs (unvisited d start))
  of_calls = calls-any-order d.size.w d.size.h (step_of (held_of d)) (early_of d) (asks-place d) (commutes d wide)

  -- .. and of a call whose answer holds more than the number, if with the number it keeps that contract
  pub by-contract : {A : Type 0} (number : A → ℕ) (call : Call A Planes)
      → ((s : State Planes) (r : At) → VisitOutcome Frame d s r (number (call s r).0) (call s r).1)
      → Demand3 d.size.w d.size.h (step_of (held_of d)) (early_of d) number call
  by-contract number call = any-order-by-contract d.size.w d.size.h (step_of (held_of d)) (early_of d) number call (asks-place d) (commutes d wide)

  -- .. and of what `replay` leaves, where the marks that it is lent are all 0
  pub of-replay : {start : Planes} {ms xs ys out out' : List ℕ} {n : ℕ} {now : State Planes} → length ms ≡ d.size.w * d.size.h
      → ((i : ℕ) → i < d.size.w * d.size.h → get_or ms i 0 ≡ 0) → ReplayOutcome Frame d xs ys (start, ms) out n now out'
      → AnyOrder d.size.w d.size.h (step_of (held_of d)) (early_of d) itself (visit_of d) start now
  of-replay {start} {ms} {xs} {ys} {out} l zeros r =
      rw (r.leaves, zeros-are-fresh d.size.w d.size.h ms l zeros)
      (cond_both (AnyOrder d.size.w d.size.h (step_of (held_of d)) (early_of d) itself (visit_of d) start) (uneven xs ys out) (demand-3 start [])
      (demand-3 start (requests xs ys)))

  -- what it does not ask for, and holds all the same
  pub beyond-3 : Beyond3 d.size.w d.size.h (step_of (held_of d)) (early_of d) itself (visit_of d)
  beyond-3 = beyond d.size.w d.size.h (step_of (held_of d)) (early_of d) (asks-place d) (commutes d wide)

  -- all visited: what filtering the whole picture gives
  pub same-as-whole : (start : Planes) (rs : List At) → let now = run (visit_of d) rs (unvisited d start) in
      AllVisited d.size.w d.size.h now.1 → now.0 ≡ frame_of (held_of d) d.size.h start
  same-as-whole start rs all = (beyond-3 start rs).whole all ∙ sym (frame-steps (held_of d) d.size.h start)

  -- .. and with strengths derived from the 4x4 grids g, the standard's picture straight from these
  pub visited-from-grids : (field : Bool) (g : Grids) → Derived field g d.size d.t8s d.strengths → (start : Planes) (rs : List At) → let now = run (visit_of d) rs (unvisited d start) in
      AllVisited d.size.w d.size.h now.1 → now.0 ≡ picture_of field g d.size d.qps d.t8s d.slicing start
  visited-from-grids field g k start rs all = same-as-whole start rs all ∙ derived-picture field g d.size d.t8s d.qps d.strengths d.slicing start k

  -- the two say all: any visit of which they hold gives these answers and these states
  pub one-behaviour : {A : Type 0} (number : A → ℕ) (other : Call A Planes) → Demand3 d.size.w d.size.h (step_of (held_of d)) (early_of d) number other
      → Beyond3 d.size.w d.size.h (step_of (held_of d)) (early_of d) number other → (start : Planes) (rs : List At)
      → (answers (visit_of d) rs (unvisited d start) ≡ map number (answers other rs (unvisited d start)))
      × (run (visit_of d) rs (unvisited d start) ≡ run other rs (unvisited d start))
  one-behaviour number other D E start rs =
      let k = unique.one-behaviour d.size.w d.size.h (step_of (held_of d)) (early_of d) (asks-place d) itself (visit_of d) number other demand-3 beyond-3 D E start rs in
      (sym (map-itself (answers (visit_of d) rs (unvisited d start))) ∙ k.0, k.1)

  -- "while one is unvisited, some visit is ready": with valid data throughout it answers 0
  pub never_stuck : Sound d → (start : Planes) → Fit d start → (rs : List At) → let now = run (visit_of d) rs (unvisited d start) in
      AllVisited d.size.w d.size.h now.1
      ⊎ ((x : ℕ) × (y : ℕ) × (x < d.size.w) × (y < d.size.h) × ((visit_of d now (x, y)).0 ≡ 0))
  never_stuck v =
      progress.never_stuck d.size.w d.size.h (step_of (held_of d)) (early_of d) itself (visit_of d) (Fit d) (fit-kept d) (passes-valid d v) demand-3 beyond-3
