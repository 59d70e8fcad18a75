-- What demand 3 cannot tell: in a run from nothing visited no macroblock is marked and waits, so whether 13
-- or 14 is asked first is never seen there. The promise of one visit tells (Refused.antt). Assumes nothing.
use mathlib.Core.Path.{◌≡◌, refl}
use mathlib.Core.Bool.{Bool, true, false, cond}
use mathlib.Core.List.{List}
use Prim.Native.Nat.{ℕ, ◌+◌, ◌*◌, ◌<◌}
use native.Mathlib.Decide.{ℕ_discrete}
use borrow.Author.Tests.{eq-eqb, ne_eqb}
use lib.Dec.{T}
use Rattle.laws.proofs.Grid.{index-lt}
use Rattle.visits.specs.Visit.{At, State, fresh, marked, waiting, answer, visit, run}
use Rattle.visits.specs.Instance.{AsksPlace, Commutes}
use Rattle.visits.proofs.Neighbours.{marked→visited, waiting→waits, ready→free}
use Rattle.visits.proofs.AnyOrder.{Inv, inv-start, inv-run}
use Rattle.visits.proofs.Refused.{ready_first}

either_first : (m w : Bool) → (T m → T w → ⊥) → ◌≡◌ {A = ℕ} (cond m 13 (cond w 14 0)) (cond w 14 (cond m 13 0))
either_first true true h = absurd (h tt tt)
either_first true false h = refl
either_first false true h = refl
either_first false false h = refl

module _ (W H : ℕ) {S : Type 0} (step : ℕ → S → S) (early : State S → At → ℕ) (inside : AsksPlace W H early) (swap : Commutes W step) where
  never_both : {start : S} (s : State S) → Inv W H step early inside swap start s → (x y : ℕ) → x < W → y < H
      → T (marked W s.1 x y) → T (waiting W s.1 x y) → ⊥
  never_both s v x y hx hy m w =
      ready→free W H s.1 x y hx (v.closed (y * W + x) (index-lt W H x y hx hy) (marked→visited W s.1 x y m)) (waiting→waits W H s.1 x y hx hy w)

  pub ready-first-unseen : (start : S) (rs : List At) (r : At) → let now = run (visit W step early) rs (start, fresh W H) in
      answer W early now r ≡ ready_first W step early now r
  unfolding answer
  ready-first-unseen start rs r = go (ℕ_discrete (early now r) 0)
    where
      now : State S
      now = run (visit W step early) rs (start, fresh W H)

      v : Inv W H step early inside swap start now
      v = inv-run W H step early inside swap start rs (start, fresh W H) (inv-start W H step early inside swap start)

      go : Dec (early now r ≡ 0) → answer W early now r ≡ ready_first W step early now r
      go (no h) = rw (ne_eqb (early now r) 0 h)
      go (yes e) =
          rw (eq-eqb (early now r) 0 e)
          (either_first (marked W now.1 r.0 r.1) (waiting W now.1 r.0 r.1)
          (never_both now v r.0 r.1 (inside now r e).0 (inside now r e).1))
