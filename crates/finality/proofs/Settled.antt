-- From the moment a macroblock is said to be final, none of its samples changes again, and each is the whole
-- filtered picture's: in a sequence of visits as in demand 3. Assumes nothing.
use mathlib.Core.Path.{◌≡◌, sym, ap, ◌∙◌}
use mathlib.Core.Bool.{true}
use mathlib.Core.List.{List, [], ◌∷◌}
use Prim.Native.Nat.{ℕ, ◌*◌, ◌<◌}
use native.Mathlib.Decide.{ℕ_discrete}
use native.Mathlib.Omega.{arith}
use lib.ListN.{get_or}
use Rattle.laws.specs.Loop.{up_to}
use Rattle.laws.specs.Order.{Dep}
use Rattle.laws.specs.Raster.{Marked}
use Rattle.laws.proofs.Grid.{dep-lt, index-lt}
use Rattle.laws.proofs.Loop.{up_to-keeps}
use Rattle.laws.proofs.Rest.{off_mark, off-yes, off-no, rest-last}
use Rattle.edges.specs.Picture.{Planes, step_of, frame_of}
use Rattle.edges.proofs.Pictures.{frame-steps}
use Rattle.pictures.specs.Checks.{Lent, held_of}
use Rattle.visits.specs.Calls.{Calls}
use Rattle.visits.specs.Checks.{early_of}
use Rattle.visits.specs.Late.{SameAt, of_request}
use Rattle.visits.specs.Promise.{visit_of, unvisited}
use Rattle.visits.specs.Visit.{At, State, run}
use Rattle.visits.proofs.AnyOrder.{Inv, inv-start, inv-run}
use Rattle.visits.proofs.Calls.{calls-run}
use Rattle.visits.proofs.Instance.{asks-place, commutes}
use Rattle.visits.proofs.Late.{refused-here, done-here, rest-stays, same-itself}
use Rattle.visits.proofs.LatePlaces.{same_after, same-less}
use Rattle.visits.proofs.LateStep.{step-off}
use Rattle.visits.proofs.LateUntouched.{mark-kept}
use Rattle.finality.specs.Final.{finality_of, Final}
use Rattle.finality.specs.Settled.{Settled}
use Rattle.finality.proofs.Exactly.{final-kept, yes-tells}
use Rattle.finality.proofs.Places.{OfMacroblock, same-macroblock, out-of-reach}

-- what requests from nothing visited keep
pub run-inv : (d : Lent) (wide : 0 < d.size.w) (start : Planes) (rs : List At)
    → Inv d.size.w d.size.h (step_of (held_of d)) (early_of d) (asks-place d) (commutes d wide) start (run (visit_of d) rs (unvisited d start))
run-inv d wide start rs =
    inv-run d.size.w d.size.h (step_of (held_of d)) (early_of d) (asks-place d) (commutes d wide) start rs (unvisited d start)
    (inv-start d.size.w d.size.h (step_of (held_of d)) (early_of d) (asks-place d) (commutes d wide) start)

module _ (d : Lent) (x y : ℕ) (column : x < d.size.w) (row : y < d.size.h) where
  abbrev W : ℕ
  W = d.size.w

  abbrev n : ℕ
  n = d.size.w * d.size.h

  wide : 0 < W
  wide = omega arith

  -- ---- no visit changes it, whatever the state
  visit-stays : (s : State Planes) (r : At) → Final d.size s.1 x y → SameAt (OfMacroblock W x y) s.0 (visit_of d s r).1.0
  visit-stays s r f = go (ℕ_discrete (visit_of d s r).0 0)
    where
      go : Dec ((visit_of d s r).0 ≡ 0) → SameAt (OfMacroblock W x y) s.0 (visit_of d s r).1.0
      go (no h) = rw (refused-here d s r h) (same-itself s.0)
      go (yes z) =
          let k = done-here d s r z in
          same-less (out-of-reach d.size s.1 x y f (of_request d r) (index-lt W d.size.h r.0 r.1 k.column k.row) wide k.unvisited) (rest-stays d s r).planes

  pub visits-stay : (rs : List At) (s : State Planes) → Final d.size s.1 x y → SameAt (OfMacroblock W x y) s.0 (run (visit_of d) rs s).0
  visits-stay [] s f = same-itself s.0
  visits-stay (r ∷ rs) s f =
      same_after (visit-stays s r f) (visits-stay rs (visit_of d s r).1 (final-kept d.size s.1 (visit_of d s r).1.1 x y (λ i m. mark-kept d s r i m) f))

  -- ---- from nothing visited: the steps that are not marked, made last, give the whole picture, and none of
  -- them changes it
  module _ (start : Planes) (rs : List At) where
    abbrev now : State Planes
    now = run (visit_of d) rs (unvisited d start)

    whole_is : frame_of (held_of d) d.size.h start ≡ up_to n (off_mark (step_of (held_of d)) now.1) now.0
    whole_is =
        let v = run-inv d wide start rs in
        frame-steps (held_of d) d.size.h start
        ∙ rest-last (step_of (held_of d)) (Dep W) (dep-lt W wide) (commutes d wide) n now.1 start v.full v.closed
        ∙ ap (up_to n (off_mark (step_of (held_of d)) now.1)) (sym v.planes)

    pub whole-stays : Final d.size now.1 x y → SameAt (OfMacroblock W x y) now.0 (frame_of (held_of d) d.size.h start)
    whole-stays f = rw whole_is (up_to-keeps (SameAt (OfMacroblock W x y) now.0) n (off_mark (step_of (held_of d)) now.1) now.0 each (same-itself now.0))
      where
        each : (i : ℕ) (t : Planes) → i < n → SameAt (OfMacroblock W x y) now.0 t → SameAt (OfMacroblock W x y) now.0 (off_mark (step_of (held_of d)) now.1 i t)
        each i t h a = go (ℕ_discrete (get_or now.1 i 0) 1)
          where
            go : Dec (Marked now.1 i) → SameAt (OfMacroblock W x y) now.0 (off_mark (step_of (held_of d)) now.1 i t)
            go (yes m) = rw (off-yes (step_of (held_of d)) now.1 i t m) a
            go (no u) =
                rw (off-no (step_of (held_of d)) now.1 i t u)
                (same_after a (same-less (out-of-reach d.size now.1 x y f i h wide u) (step-off (held_of d) wide i t t)))

-- ---- the promise, of the visit that the code makes and of the answer of `is_final`
pub final-settled : (d : Lent) (start : Planes) (rs later : List At) (x y : ℕ) → let now = run (visit_of d) rs (unvisited d start) in
    (finality_of d.size now.1 x y).yes ≡ true → Settled d.size.w x y (frame_of (held_of d) d.size.h start) now.0 (run (visit_of d) later now).0
final-settled d start rs later x y e =
    let now = run (visit_of d) rs (unvisited d start) in
    let k = yes-tells d.size now.1 x y e in
    let p = k.0 in
    record {
      stays = same-macroblock d.size.w x y _ _ p.column (visits-stay d x y p.column p.row later now k.1);
      as-whole = same-macroblock d.size.w x y _ _ p.column (whole-stays d x y p.column p.row start rs k.1);
    }

-- .. and of any calls that keep the contract of `visit`: those that led to the question, and those after it
pub final-of-calls : (d : Lent) {A : Type 0} {number : A → ℕ} {start : Planes} {rs later : List At} {said after : List A} {now end : State Planes} (x y : ℕ)
    → Calls d.size.w (step_of (held_of d)) (early_of d) number (unvisited d start) rs said now
    → Calls d.size.w (step_of (held_of d)) (early_of d) number now later after end
    → (finality_of d.size now.1 x y).yes ≡ true → Settled d.size.w x y (frame_of (held_of d) d.size.h start) now.0 end.0
final-of-calls d {start = start} {rs} {later} x y before after e =
    let b = (calls-run before).0 in
    let a = (calls-run after).0 in
    rw (a, b) (final-settled d start rs later x y (rw b at e))
