-- Two visits that are both ready may be made in either order. Assumes nothing.
use mathlib.Core.Path.{◌≡◌, sym, ◌∙◌}
use mathlib.Core.Logic.{◌≢◌}
use mathlib.Core.List.{List, [], ◌∷◌}
use Prim.Native.Nat.{ℕ, ◌+◌, ◌*◌, ◌<◌}
use native.Mathlib.Decide.{dec_lt}
use native.Mathlib.Omega.{arith}
use lib.ListN.{set}
use lib.Seq.{set_comm, get_or-set_other}
use Rattle.laws.specs.Raster.{Marked}
use Rattle.laws.specs.Order.{Ready, Dep}
use Rattle.laws.proofs.Grid.{index-tells}
use Rattle.visits.specs.Visit.{At, State, visit, run, answers}
use Rattle.visits.specs.Instance.{AsksPlace, Commutes}
use Rattle.visits.proofs.Neighbours.{free→ready}
use Rattle.visits.proofs.Marks.{still-free}
use Rattle.visits.proofs.Clauses.{Done, done-tells, done-where-ready}

-- steps that are both ready and not yet made commute: neither waits for the other
pub ready-steps-commute : {S : Type 0} (step : ℕ → S → S) (Dep : ℕ → ℕ → Type 0)
    → ((a b : ℕ) → a < b → (Dep a b → ⊥) → (s : S) → step a (step b s) ≡ step b (step a s))
    → (ms : List ℕ) (a b : ℕ) → a ≢ b → (Marked ms a → ⊥) → (Marked ms b → ⊥) → Ready Dep ms a → Ready Dep ms b
    → (s : S) → step a (step b s) ≡ step b (step a s)
ready-steps-commute step Dep swap ms a b d ua ub ra rb s = go (dec_lt a b)
  where
    go : Dec (a < b) → step a (step b s) ≡ step b (step a s)
    go (yes h) = swap a b h (λ k. ua (rb a k)) s
    go (no h) = sym (swap b a (omega arith) (λ k. ub (ra b k)) s)

module _
    (W H : ℕ)
    {S : Type 0}
    (step : ℕ → S → S)
    (early : State S → At → ℕ)
    (inside : AsksPlace W H early) where
  same_place : (r q : At) → r.0 < W → q.0 < W → r.1 * W + r.0 ≡ q.1 * W + q.0 → r ≡ q
  same_place r q h k e = let p = index-tells W r.0 r.1 q.0 q.1 h k e in λ i. (p.0 i, p.1 i)

  -- a visit that is ready stays so while others are made
  pub ready-stays : (s : State S) (r q : At) → r ≢ q → (visit W step early s r).0 ≡ 0 → (visit W step early s q).0 ≡ 0
      → early (visit W step early s r).1 q ≡ 0 → (visit W step early (visit W step early s r).1 q).0 ≡ 0
  ready-stays s r q d zr zq e =
      let pr = done-tells W H step early inside s r zr in
      let pq = done-tells W H step early inside s q zq in
      let i = r.1 * W + r.0 in
      done-where-ready W H step early inside (visit W step early s r).1 q.0 q.1 e
      (rw pr.after (λ k. pq.unvisited (sym (get_or-set_other s.1 i (q.1 * W + q.0) 1 0 (λ h. d (same_place r q pr.column pq.column (sym h)))) ∙ k)))
      (rw pr.after (still-free W H s.1 i q.0 q.1 pq.ready))

  -- the same state and marks, whichever is made first
  pub either_order : Commutes W step → (s : State S) (r q : At) → r ≢ q → (visit W step early s r).0 ≡ 0 → (visit W step early s q).0 ≡ 0
      → early (visit W step early s r).1 q ≡ 0 → early (visit W step early s q).1 r ≡ 0
      → (run (visit W step early) (r ∷ q ∷ []) s ≡ run (visit W step early) (q ∷ r ∷ []) s)
      × (answers (visit W step early) (r ∷ q ∷ []) s ≡ 0 ∷ 0 ∷ [])
      × (answers (visit W step early) (q ∷ r ∷ []) s ≡ 0 ∷ 0 ∷ [])
  either_order swap s r q d zr zq er eq = (
    rq ∙ (λ i. (stepped i, set_comm s.1 a b 1 1 apart i)) ∙ sym qr,
    λ i. zr i ∷ zq' i ∷ [],
    λ i. zq i ∷ zr' i ∷ [],
  )
    where
      a : ℕ
      a = r.1 * W + r.0

      b : ℕ
      b = q.1 * W + q.0

      pr : Done W H step early inside s r
      pr = done-tells W H step early inside s r zr

      pq : Done W H step early inside s q
      pq = done-tells W H step early inside s q zq

      zq' : (visit W step early (visit W step early s r).1 q).0 ≡ 0
      zq' = ready-stays s r q d zr zq er

      zr' : (visit W step early (visit W step early s q).1 r).0 ≡ 0
      zr' = ready-stays s q r (λ e. d (sym e)) zq zr eq

      rq : (visit W step early (visit W step early s r).1 q).1 ≡ (step b (step a s.0), set (set s.1 a 1) b 1)
      rq = (done-tells W H step early inside (visit W step early s r).1 q zq').after ∙ rw pr.after

      qr : (visit W step early (visit W step early s q).1 r).1 ≡ (step a (step b s.0), set (set s.1 b 1) a 1)
      qr = (done-tells W H step early inside (visit W step early s q).1 r zr').after ∙ rw pq.after

      apart : a ≢ b
      apart e = d (same_place r q pr.column pq.column e)

      stepped : step b (step a s.0) ≡ step a (step b s.0)
      stepped =
          sym (ready-steps-commute step (Dep W) swap s.1 a b apart pr.unvisited pq.unvisited
          (free→ready W H s.1 r.0 r.1 pr.column pr.row pr.ready)
          (free→ready W H s.1 q.0 q.1 pq.column pq.row pq.ready) s.0)
