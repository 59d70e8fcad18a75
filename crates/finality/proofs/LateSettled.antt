-- The same where data arrive between the visits: a final macroblock's samples are those of the whole picture
-- that all data give, and stay so. Assumes nothing.
use mathlib.Core.Path.{◌≡◌, sym, subst}
use mathlib.Core.Bool.{true}
use mathlib.Core.List.{List}
use Prim.Native.Nat.{ℕ, ◌+◌, ◌*◌, ◌/◌, ◌%◌}
use lib.ListN.{length}
use Rattle.laws.specs.Raster.{Marked}
use Rattle.edges.specs.Picture.{Planes, frame_of}
use Rattle.pictures.specs.Checks.{Lent, held_of}
use Rattle.visits.specs.Checks.{Sound, Fit}
use Rattle.visits.specs.Late.{SameAt, SamplesOf, CallsWith, LateCalls, Lends, ArrivalCalls, Writes}
use Rattle.visits.specs.Promise.{visit_of, unvisited}
use Rattle.visits.specs.Visit.{At, State, run}
use Rattle.visits.proofs.LateArrivals.{written_once, written_on}
use Rattle.visits.proofs.LatePlaces.{same-sym, same_after, same-less}
use Rattle.visits.proofs.LateRun.{late-from, alongside-first}
use Rattle.visits.proofs.LateTurn.{Alongside}
use Rattle.visits.proofs.LateUntouched.{run-kept}
use Rattle.finality.specs.Final.{finality_of, Final}
use Rattle.finality.specs.Settled.{SameMacroblock, Settled}
use Rattle.finality.proofs.Asked.{Placed}
use Rattle.finality.proofs.Exactly.{yes-tells}
use Rattle.finality.proofs.Places.{OfMacroblock, same-macroblock}
use Rattle.finality.proofs.Settled.{visits-stay, whole-stays}

-- the samples of a marked macroblock are among those of all marked ones
of-marked : (W x y : ℕ) (ms : List ℕ) → Marked ms (y * W + x) → (N k : ℕ) → OfMacroblock W x y N k → SamplesOf W (Marked ms) N k
of-marked W x y ms m N k o = subst (λ (b : ℕ). Marked ms (b * W + k % (N * W) / N)) (sym o.1) (subst (λ (a : ℕ). Marked ms (y * W + a)) (sym o.0) m)

module _ (d : Lent) (sound : Sound d) (start first : Planes) (f : Fit d start) (g : Fit d first) where
  -- as in `late`: first is what the planes hold before the first call. Calls lead to `now`, in which the
  -- question is finality_answered yes, and others on to `end`
  pub late-settled : {rs later : List At} {said after : List ℕ} {now end : State Planes} {k : ℕ} (x y : ℕ)
      → LateCalls d start (unvisited d first) rs said now → CallsWith (λ j. Lends d start) k now later after end
      → (finality_of d.size now.1 x y).yes ≡ true → Settled d.size.w x y (frame_of (held_of d) d.size.h start) now.0 end.0
  late-settled {rs} {later} {now = now} {end} x y before after e =
      record { stays = same (same_after (same-sym here) (same_after stay there)); as-whole = same (same_after (same-sym here) whole) }
    where
      -- the states that visits lead to which have all data from the first call on
      s : State Planes
      s = run (visit_of d) rs (unvisited d start)

      a : Alongside d start s now
      a = (late-from d sound start (alongside-first d sound start first f g) before).1

      b : Alongside d start (run (visit_of d) later s) end
      b = (late-from d sound start a after).1

      k : Placed d.size (length now.1) x y × Final d.size now.1 x y
      k = yes-tells d.size now.1 x y e

      final : Final d.size s.1 x y
      final = subst (λ (ms : List ℕ). Final d.size ms x y) (sym a.marks) k.1

      same : {p q : Planes} → SameAt (OfMacroblock d.size.w x y) p q → SameMacroblock d.size.w x y p q
      same = same-macroblock d.size.w x y _ _ k.0.column

      here : SameAt (OfMacroblock d.size.w x y) s.0 now.0
      here = same-less (of-marked d.size.w x y s.1 final.own) a.same

      there : SameAt (OfMacroblock d.size.w x y) (run (visit_of d) later s).0 end.0
      there = same-less (of-marked d.size.w x y (run (visit_of d) later s).1 (run-kept d later s (y * d.size.w + x) final.own)) b.same

      stay : SameAt (OfMacroblock d.size.w x y) s.0 (run (visit_of d) later s).0
      stay = visits-stay d x y k.0.column k.0.row later s final

      whole : SameAt (OfMacroblock d.size.w x y) s.0 (frame_of (held_of d) d.size.h start)
      whole = whole-stays d x y k.0.column k.0.row start rs final

  -- .. and so where each macroblock is written once, before its visit
  pub written-settled : (when : ℕ → ℕ) {rs later : List At} {said after : List ℕ} {now end : State Planes} (x y : ℕ)
      → ArrivalCalls d start when (unvisited d first) rs said now → CallsWith (Writes d start when) (length rs) now later after end
      → (finality_of d.size now.1 x y).yes ≡ true → Settled d.size.w x y (frame_of (held_of d) d.size.h start) now.0 end.0
  written-settled when x y before after = late-settled x y (written_once d start when first f g before) (written_on d start when first f g before after)
