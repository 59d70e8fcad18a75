-- What the functions beneath the call come to: a visit that keeps its contract is the visit of its field, and
-- calls made one after the other are the run of their requests. Assumes nothing.
use mathlib.Core.Path.{◌≡◌, refl, sym, ap, ◌∙◌}
use mathlib.Core.Bool.{true, false}
use mathlib.Core.List.{List, [], ◌∷◌, zip, zip_with}
use Prim.Native.Nat.{ℕ, zero, suc, ◌+◌, ◌<◌}
use native.Mathlib.Nat.{suc_inj, suc-ne-zero}
use native.Mathlib.Omega.{arith}
use lib.Dec.{eqb}
use lib.ListN.{length, get_or, set}
use Rattle.edges.specs.Picture.{Planes}
use Rattle.sizes.specs.declared.Part.TheVariants.{Field}
use Rattle.sizes.specs.declared.Size.{Size}
use Rattle.pictures.specs.Checks.{lent_by}
use Rattle.visits.specs.Inner.{Served}
use Rattle.visits.specs.Promise.{VisitOutcome}
use Rattle.visits.specs.Visit.{At, State}
use Rattle.visits.proofs.Calls.{served-more}
use Rattle.visits.proofs.Outcome.{outcome-is-visit}
use Rattle.interlaced.specs.Both.{Arrival, OfField, Both, both, marks_for, stored_for, lent_for, both_visit}
use Rattle.interlaced.specs.Inner.{OneVisit}
use Rattle.interlaced.specs.Promise.{arrivals}

module _ (size : Size) (top bottom : OfField) (u : Both) (r : At) {n : ℕ} {t : State Planes} where
  field-visited : (p : ℕ) → VisitOutcome (Field p) (lent_for size top bottom p) (u.frame, marks_for p u) r n t → OneVisit size top bottom u (p, r) n (stored_for p t u)
  unfolding both_visit
  field-visited p o = let e = outcome-is-visit o in record { says = e.0; leaves = ap (λ (s : State Planes). stored_for p s u) e.1 }

  pub top-visited : (p : ℕ) → eqb p 0 ≡ true → VisitOutcome (Field p) (lent_by size top.slicing top.strengths top.qps top.t8s) (u.frame, u.top) r n t
      → OneVisit size top bottom u (p, r) n (both t.0 t.1 u.bottom)
  top-visited p e = rw e at (field-visited p)

  pub bottom-visited : (p : ℕ) → eqb p 0 ≡ false
      → VisitOutcome (Field p) (lent_by size bottom.slicing bottom.strengths bottom.qps bottom.t8s) (u.frame, u.bottom) r n t
      → OneVisit size top bottom u (p, r) n (both t.0 u.top t.1)
  bottom-visited p e = rw e at (field-visited p)

-- ---- requests by parity, column and row
pub arrivals-length : (ps xs ys : List ℕ) → length ps ≡ length xs → length xs ≡ length ys → length (arrivals ps xs ys) ≡ length ps
unfolding zip zip_with
arrivals-length [] xs ys e f = refl
arrivals-length (p ∷ ps) [] ys e f = absurd (suc-ne-zero (length ps) e)
arrivals-length (p ∷ ps) (x ∷ xs) [] e f = absurd (suc-ne-zero (length xs) f)
arrivals-length (p ∷ ps) (x ∷ xs) (y ∷ ys) e f = ap suc (arrivals-length ps xs ys (suc_inj e) (suc_inj f))

pub arrival-at : (ps xs ys : List ℕ) (k : ℕ) → length ps ≡ length xs → length xs ≡ length ys
    → ◌≡◌ {A = Arrival} (get_or (arrivals ps xs ys) k (0, (0, 0))) (get_or ps k 0, (get_or xs k 0, get_or ys k 0))
unfolding zip zip_with
arrival-at [] [] [] k e f = refl
arrival-at [] [] (y ∷ ys) k e f = absurd (suc-ne-zero (length ys) (sym f))
arrival-at [] (x ∷ xs) ys k e f = absurd (suc-ne-zero (length xs) (sym e))
arrival-at (p ∷ ps) [] ys k e f = absurd (suc-ne-zero (length ps) e)
arrival-at (p ∷ ps) (x ∷ xs) [] k e f = absurd (suc-ne-zero (length xs) f)
arrival-at (p ∷ ps) (x ∷ xs) (y ∷ ys) zero e f = refl
arrival-at (p ∷ ps) (x ∷ xs) (y ∷ ys) (suc k) e f = arrival-at ps xs ys k (suc_inj e) (suc_inj f)

-- a turn of the loop over them
pub served-arrival : {size : Size} {top bottom : OfField} (ps xs ys : List ℕ) {start : Both} {k : ℕ} {s t : Both} {out : List ℕ} {n : ℕ} → k < length ps
    → length ps ≡ length xs → length xs ≡ length ys → length out ≡ length ps → Served (both_visit size top bottom) (arrivals ps xs ys) start k s out
    → OneVisit size top bottom s (get_or ps k 0, (get_or xs k 0, get_or ys k 0)) n t → Served (both_visit size top bottom) (arrivals ps xs ys) start (k + 1) t (set out k n)
served-arrival {size} {top} {bottom} ps xs ys {k = k} {s = s} h e f l v o =
    let len = arrivals-length ps xs ys e f in
    let at = arrival-at ps xs ys k e f in
    served-more (0, (0, 0)) (omega arith) (omega arith) v
    (o.says ∙ ap (λ (r : Arrival). (both_visit size top bottom s r).0) (sym at), o.leaves ∙ ap (λ (r : Arrival). (both_visit size top bottom s r).1) (sym at))
