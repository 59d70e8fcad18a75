-- Demand 3 of any call that keeps the contract of a visit, whatever its answer holds beside the number.
-- Assumes nothing.
use mathlib.Core.Path.{◌≡◌, refl, sym, subst}
use mathlib.Core.List.{List, [], ◌∷◌}
use Prim.Native.Nat.{ℕ}
use Rattle.visits.specs.Visit.{At, State, Call, fresh, visit, run, itself, VisitOutcomeOf}
use Rattle.visits.specs.AnyOrder.{AnyOrder, Demand3}
use Rattle.visits.specs.Beyond.{Beyond, Beyond3}
use Rattle.visits.specs.Instance.{AsksPlace, Commutes}
use Rattle.visits.proofs.AnyOrder.{any_order, beyond}
use Rattle.visits.proofs.Outcome.{outcome-is-visit}

-- the call with the number alone for its answer: it leads to the same states
abbrev pub bare : {A S : Type 0} → (A → ℕ) → Call A S → Call ℕ S
bare number call s r = (number (call s r).0, (call s r).1)

run-bare : {A S : Type 0} (number : A → ℕ) (call : Call A S) (rs : List At) (s : State S) → run (bare number call) rs s ≡ run call rs s
run-bare number call [] s = refl
run-bare number call (r ∷ rs) s = run-bare number call rs (call s r).1

module _ (W H : ℕ) {A S : Type 0} (step : ℕ → S → S) (early : State S → At → ℕ) (number : A → ℕ) (call : Call A S) where
  -- what is said of it is what is said of the call
  any-order-bare : {start : S} {now : State S} → AnyOrder W H step early itself (bare number call) start now → AnyOrder W H step early number call start now
  any-order-bare a = record {
    own-mark = a.own-mark;
    refused = a.refused;
    not-ready = a.not-ready;
    done = a.done;
    planes = a.planes;
    some-ready = a.some-ready;
  }

  beyond-bare : {start : S} {now : State S} → Beyond W H step early itself (bare number call) start now → Beyond W H step early number call start now
  beyond-bare b = record {
    whole = b.whole;
    earlier = b.earlier;
    already = b.already;
    full = b.full;
    bits = b.bits;
    kept = b.kept;
  }

  module _ (inside : AsksPlace W H early) (swap : Commutes W step)
      (contract : (s : State S) (r : At) → VisitOutcomeOf W step early s r (number (call s r).0) (call s r).1) where
    is-visit : visit W step early ≡ bare number call
    is-visit i s r = let e = outcome-is-visit (contract s r) in (sym e.0 i, sym e.1 i)

    pub any-order-by-contract : Demand3 W H step early number call
    any-order-by-contract start rs =
        subst (λ (now : State S). AnyOrder W H step early number call start now) (run-bare number call rs (start, fresh W H))
        (any-order-bare (subst (λ (c : Call ℕ S). AnyOrder W H step early itself c start (run c rs (start, fresh W H))) is-visit (any_order W H step early inside swap start rs)))

    pub beyond-by-contract : Beyond3 W H step early number call
    beyond-by-contract start rs =
        subst (λ (now : State S). Beyond W H step early number call start now) (run-bare number call rs (start, fresh W H))
        (beyond-bare (subst (λ (c : Call ℕ S). Beyond W H step early itself c start (run c rs (start, fresh W H))) is-visit (beyond W H step early inside swap start rs)))
