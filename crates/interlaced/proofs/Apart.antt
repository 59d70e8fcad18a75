-- Requests to several in any order come, for each, to its own requests alone. Assumes nothing.
use mathlib.Core.Path.{◌≡◌, refl, sym, ap, ◌∙◌}
use mathlib.Core.Logic.{◌≢◌}
use mathlib.Core.List.{List, [], ◌∷◌}
use Prim.Native.Nat.{ℕ}
use native.Mathlib.Decide.{ℕ_discrete}
use borrow.Author.Tests.{eq-eqb, ne_eqb}
use Rattle.visits.specs.Visit.{At, State, Call, run, answers}
use Rattle.interlaced.specs.Alone.{only, said_to, Alone}
use Rattle.interlaced.specs.Both.{Arrival, without}

-- the requests to p are left where those to another are left out
pub only-without : (p q : ℕ) → p ≢ q → (rs : List Arrival) → only p (without q rs) ≡ only p rs
only-without p q h [] = refl
only-without p q h (r ∷ rs) = go (ℕ_discrete r.0 q) (ℕ_discrete r.0 p) (only-without p q h rs)
  where
    go : Dec (r.0 ≡ q) → Dec (r.0 ≡ p) → only p (without q rs) ≡ only p rs → only p (without q (r ∷ rs)) ≡ only p (r ∷ rs)
    go (yes e) (yes f) k = absurd (h (sym f ∙ e))
    go (yes e) (no m) k = rw (eq-eqb r.0 q e, ne_eqb r.0 p m) k
    go (no n) (yes f) k = rw (ne_eqb r.0 q n, eq-eqb r.0 p f) (ap (λ (l : List At). r.1 ∷ l) k)
    go (no n) (no m) k = rw (ne_eqb r.0 q n, ne_eqb r.0 p m) k

module _ {U S : Type 0} {Valid : U → Type 0} {call : U → Arrival → ℕ × U} {q : ℕ} {part : U → State S} {alone : Call ℕ S} (c : Alone Valid call q part alone) where
  pub all_valid : (rs : List Arrival) (u : U) → Valid u → Valid (run call rs u)
  all_valid [] u v = v
  all_valid (r ∷ rs) u v = all_valid rs (call u r).1 (c.keeps u r v)

  pub own-run : (rs : List Arrival) (u : U) → Valid u → part (run call rs u) ≡ run alone (only q rs) (part u)
  own-run [] u v = refl
  own-run (r ∷ rs) u v = own-run rs (call u r).1 (c.keeps u r v) ∙ go (ℕ_discrete r.0 q)
    where
      go : Dec (r.0 ≡ q) → run alone (only q rs) (part (call u r).1) ≡ run alone (only q (r ∷ rs)) (part u)
      go (yes e) =
          rw (eq-eqb r.0 q e)
          (ap (run alone (only q rs)) (ap (λ (p : ℕ). part (call u (p, r.1)).1) e ∙ c.own u r.1 v))
      go (no n) = rw (ne_eqb r.0 q n) (ap (run alone (only q rs)) (c.other u r v n))

  pub own-answers : (rs : List Arrival) (u : U) → Valid u → said_to q rs (answers call rs u) ≡ answers alone (only q rs) (part u)
  own-answers [] u v = refl
  own-answers (r ∷ rs) u v = go (ℕ_discrete r.0 q) (own-answers rs (call u r).1 (c.keeps u r v))
    where
      go : Dec (r.0 ≡ q) → said_to q rs (answers call rs (call u r).1) ≡ answers alone (only q rs) (part (call u r).1)
          → said_to q (r ∷ rs) (answers call (r ∷ rs) u) ≡ answers alone (only q (r ∷ rs)) (part u)
      go (yes e) k =
          rw (eq-eqb r.0 q e) (λ i.
          (ap (λ (p : ℕ). (call u (p, r.1)).0) e ∙ c.says u r.1 v) i
          ∷ (k ∙ ap (answers alone (only q rs)) (ap (λ (p : ℕ). part (call u (p, r.1)).1) e ∙ c.own u r.1 v)) i)
      go (no n) k = rw (ne_eqb r.0 q n) (k ∙ ap (answers alone (only q rs)) (c.other u r v n))
