-- Calls that each keep the contract of a visit come to `run` and `answers`, so demand 3 holds of them; and
-- the laws of a loop that makes them: its start, a turn, its end. Assumes nothing.
use mathlib.Core.Path.{◌≡◌, refl, sym, ap, ◌∙◌}
use mathlib.Core.List.{List, [], ◌∷◌, ◌++◌, append-nil, map, zip, zip_with}
use Prim.Native.Nat.{ℕ, zero, suc, ◌+◌, ◌≤◌, ◌<◌}
use native.Mathlib.Nat.{suc_inj, suc-ne-zero}
use native.Mathlib.Numerals.{add-one}
use native.Mathlib.Omega.{arith}
use lib.ListN.{length, get_or, set, take, drop, drop_of_length-le}
use lib.Seq.{drop-cons, take-suc-set, append_snoc, take_all}
use Rattle.visits.specs.Visit.{At, State, fresh, visit, VisitOutcomeOf, run, answers, itself}
use Rattle.visits.specs.AnyOrder.{AnyOrder}
use Rattle.visits.specs.Instance.{AsksPlace, Commutes}
use Rattle.visits.specs.Calls.{Calls, none, more}
use Rattle.visits.specs.Promise.{requests}
use Rattle.visits.specs.Inner.{Served}
use Rattle.visits.proofs.Outcome.{outcome-is-visit}
use Rattle.visits.proofs.AnyOrder.{any_order}

-- ---- requests by their columns and rows
pub requests-length : (xs ys : List ℕ) → length xs ≡ length ys → length (requests xs ys) ≡ length xs
unfolding zip zip_with
requests-length [] ys e = refl
requests-length (x ∷ xs) [] e = absurd (suc-ne-zero (length xs) e)
requests-length (x ∷ xs) (y ∷ ys) e = ap suc (requests-length xs ys (suc_inj e))

pub request-at : (xs ys : List ℕ) (k : ℕ) → length xs ≡ length ys → get_or (requests xs ys) k (0, 0) ≡ (get_or xs k 0, get_or ys k 0)
unfolding zip zip_with
request-at [] [] k e = refl
request-at [] (y ∷ ys) k e = absurd (suc-ne-zero (length ys) (sym e))
request-at (x ∷ xs) [] k e = absurd (suc-ne-zero (length xs) e)
request-at (x ∷ xs) (y ∷ ys) zero e = refl
request-at (x ∷ xs) (y ∷ ys) (suc k) e = request-at xs ys k (suc_inj e)

module _ {W : ℕ} {S : Type 0} {step : ℕ → S → S} {early : State S → At → ℕ} where
  pub calls-run : {A : Type 0} {number : A → ℕ} {s u : State S} {rs : List At} {said : List A} → Calls W step early number s rs said u
      → (u ≡ run (visit W step early) rs s) × (map number said ≡ answers (visit W step early) rs s)
  calls-run none = (refl, refl)
  calls-run (more {rs = rs} o c) =
      let k = calls-run c in
      let e = outcome-is-visit o in
      (k.0 ∙ ap (run (visit W step early) rs) e.1, λ i. e.0 i ∷ (k.1 ∙ ap (answers (visit W step early) rs) e.1) i)

-- ---- a loop over requests, with any call: its start, a turn, its end
pub served-none : {A U R : Type 0} {call : U → R → A × U} {rs : List R} {s : U} {out : List A} → Served call rs s 0 s out
served-none = record { state = refl; said = refl }

pub served-more : {A U R : Type 0} {call : U → R → A × U} {rs : List R} {start : U} {k : ℕ} {s t : U} {out : List A} {n : A} (d : R) → k < length rs → length out ≡ length rs
    → Served call rs start k s out → (n ≡ (call s (get_or rs k d)).0) × (t ≡ (call s (get_or rs k d)).1) → Served call rs start (k + 1) t (set out k n)
served-more {call = call} {rs} {start} {k} {s} {t} {out} {n} d h l v e = rw add-one (record { state = ran ∙ v.state; said = spoke ∙ v.said })
  where
    cut : drop k rs ≡ get_or rs k d ∷ drop (suc k) rs
    cut = drop-cons rs k d h

    ran : run call (drop (suc k) rs) t ≡ run call (drop k rs) s
    ran = rw (cut, e.1)

    spoke : take (suc k) (set out k n) ++ answers call (drop (suc k) rs) t ≡ take k out ++ answers call (drop k rs) s
    spoke = rw (take-suc-set out k n (omega arith), append_snoc, cut, e.0, e.1)

pub served-all : {A U R : Type 0} {call : U → R → A × U} {rs : List R} {start : U} {k : ℕ} {s : U} {out : List A}
    → length rs ≤ k → length out ≡ length rs → Served call rs start k s out → (s ≡ run call rs start) × (out ≡ answers call rs start)
served-all {rs = rs} {k = k} {out = out} h l v = (rw e at v.state, rw (e, append-nil, take_all k out (omega arith)) at v.said)
  where
    e : drop k rs ≡ []
    e = drop_of_length-le rs {i = k} h

-- a turn that is a visit, over a list of columns and a list of rows
pub served-turn : {W : ℕ} {S : Type 0} {step : ℕ → S → S} {early : State S → At → ℕ} (xs ys : List ℕ) {start : State S} {k : ℕ} {s t : State S} {out : List ℕ} {n : ℕ}
    → k < length xs → length xs ≡ length ys → length out ≡ length xs → Served (visit W step early) (requests xs ys) start k s out
    → VisitOutcomeOf W step early s (get_or xs k 0, get_or ys k 0) n t → Served (visit W step early) (requests xs ys) start (k + 1) t (set out k n)
served-turn xs ys {k = k} h e l v o =
    let len = requests-length xs ys e in
    served-more (0, 0) (omega arith) (omega arith) v (outcome-is-visit (rw (request-at xs ys k e) o))

-- ---- demand 3 over the contracts alone, and the numbers that the calls answered
pub calls-any-order : (W H : ℕ) {S : Type 0} (step : ℕ → S → S) (early : State S → At → ℕ) → AsksPlace W H early → Commutes W step
    → {A : Type 0} {number : A → ℕ} {start : S} {rs : List At} {said : List A} {now : State S} → Calls W step early number (start, fresh W H) rs said now
    → AnyOrder W H step early itself (visit W step early) start now × (map number said ≡ answers (visit W step early) rs (start, fresh W H))
calls-any-order W H step early inside swap {start = start} {rs = rs} c =
    let k = calls-run c in
    (rw k.0 (any_order W H step early inside swap start rs), k.1)
