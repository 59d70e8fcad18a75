-- A visit's answer by cases: which of the four kinds of number it is, and what is true then. Assumes nothing.
use mathlib.Core.Path.{◌≡◌, refl}
use mathlib.Core.Logic.{◌≢◌}
use Prim.Native.Nat.{ℕ}
use lib.Dec.{eqb, eqb→eq, T_not}
use Rattle.laws.proofs.Cond.{cond_cases}
use Rattle.visits.specs.Visit.{At, State, marked, waiting, answer}
use Rattle.visits.specs.AnyOrder.{Visited, Unvisited, Waits}
use Rattle.visits.specs.Instance.{AsksPlace}
use Rattle.laws.proofs.Bools.{eq→eqb}
use Rattle.visits.proofs.Neighbours.{waiting→waits, waits→waiting, marked→visited, unmarked→unvisited}

pub data Verdict (W H : ℕ) {S : Type 0} (early : State S → At → ℕ) (s : State S) (r : At) (n : ℕ) : Type 0 where
  earlier : early s r ≢ 0 → n ≡ early s r → Verdict W H early s r n
  already : early s r ≡ 0 → Visited W s.1 r.0 r.1 → n ≡ 13 → Verdict W H early s r n
  waits : early s r ≡ 0 → Unvisited W s.1 r.0 r.1 → Waits W H s.1 r.0 r.1 → n ≡ 14 → Verdict W H early s r n
  free : early s r ≡ 0 → Unvisited W s.1 r.0 r.1 → (Waits W H s.1 r.0 r.1 → ⊥) → n ≡ 0 → Verdict W H early s r n

module _
    (W H : ℕ)
    {S : Type 0}
    (early : State S → At → ℕ)
    (inside : AsksPlace W H early) where
  pub verdict : (s : State S) (r : At) → Verdict W H early s r (answer W early s r)
  unfolding answer
  verdict s r =
      cond_cases V₀ (eqb (early s r) 0)
      (λ t₀.
      let e : early s r ≡ 0 = eqb→eq (early s r) 0 t₀ in
      cond_cases V₀ (marked W s.1 r.0 r.1)
      (λ t. already e (marked→visited W s.1 r.0 r.1 t) refl)
      (λ t₁.
      let u : Unvisited W s.1 r.0 r.1 = unmarked→unvisited W s.1 r.0 r.1 t₁ in
      cond_cases V₀ (waiting W s.1 r.0 r.1)
      (λ t. waits e u (waiting→waits W H s.1 r.0 r.1 (inside s r e).0 (inside s r e).1 t) refl)
      (λ t. free e u (λ w. T_not (waiting W s.1 r.0 r.1) t (waits→waiting W H s.1 r.0 r.1 w)) refl)))
      (λ t. earlier (λ e. T_not (eqb (early s r) 0) t (eq→eqb (early s r) 0 e)) refl)
    where
      V₀ : ℕ → Type 0
      V₀ n = Verdict W H early s r n
