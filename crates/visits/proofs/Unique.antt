-- Demand 3 and what holds beyond it leave nothing open: any two visits of which both hold give the same
-- answers and the same states. Assumes nothing.
use mathlib.Core.Path.{◌≡◌, refl, sym, ap, ◌∙◌}
use mathlib.Core.Bool.{Bool, true, false}
use mathlib.Core.List.{List, [], ◌∷◌, map}
use Prim.Native.Nat.{ℕ, ◌+◌, ◌*◌, ◌<◌}
use native.Mathlib.Decide.{ℕ_discrete}
use lib.Dec.{T}
use lib.ListN.{get_or}
use Rattle.laws.specs.Raster.{raster}
use Rattle.visits.specs.Visit.{At, State, Call, fresh, waiting, run, answers}
use Rattle.visits.specs.AnyOrder.{Visited, Waits, AnyOrder, Demand3}
use Rattle.visits.specs.Beyond.{Beyond, Beyond3}
use Rattle.visits.specs.Instance.{AsksPlace}
use Rattle.visits.proofs.Neighbours.{waiting→waits, waits→waiting}

pub dec_waits : (W H : ℕ) (ms : List ℕ) (x y : ℕ) → x < W → y < H → Dec (Waits W H ms x y)
dec_waits W H ms x y hx hy = go (waiting W ms x y) (waiting→waits W H ms x y hx hy) (waits→waiting W H ms x y)
  where
    go : (b : Bool) → (T b → Waits W H ms x y) → (Waits W H ms x y → T b) → Dec (Waits W H ms x y)
    go true f g = yes (f tt)
    go false f g = no g

module _
    (W H : ℕ)
    {A B S : Type 0}
    (step : ℕ → S → S)
    (early : State S → At → ℕ)
    (inside : AsksPlace W H early)
    (number : A → ℕ)
    (one : Call A S)
    (other-number : B → ℕ)
    (other : Call B S) where
  -- both hold of a call at a state
  abbrev Known : {C : Type 0} → (C → ℕ) → Call C S → S → State S → Type 0
  Known holds call start now = AnyOrder W H step early holds call start now × Beyond W H step early holds call start now

  same_answer : {start : S} (now : State S) (r : At) → Known number one start now → Known other-number other start now
      → number (one now r).0 ≡ other-number (other now r).0
  same_answer now r a b = go (ℕ_discrete (early now r) 0)
    where
      go : Dec (early now r ≡ 0) → number (one now r).0 ≡ other-number (other now r).0
      go (no h) = a.1.earlier r h ∙ sym (b.1.earlier r h)
      go (yes e) = by-mark (ℕ_discrete (get_or now.1 (r.1 * W + r.0) 0) 1) (dec_waits W H now.1 r.0 r.1 (inside now r e).0 (inside now r e).1)
        where
          by-mark : Dec (Visited W now.1 r.0 r.1) → Dec (Waits W H now.1 r.0 r.1) → number (one now r).0 ≡ other-number (other now r).0
          by-mark (yes m) d = (a.1.already r.0 r.1 e).1 m ∙ sym ((b.1.already r.0 r.1 e).1 m)
          by-mark (no u) (yes w) = (a.0.not-ready r.0 r.1 e u).1 w ∙ sym ((b.0.not-ready r.0 r.1 e u).1 w)
          by-mark (no u) (no f) = a.0.done r.0 r.1 e u f ∙ sym (b.0.done r.0 r.1 e u f)

  same-state : {start : S} (now : State S) (r : At) → Known number one start now → Known other-number other start now
      → Known number one start (one now r).1 → Known other-number other start (other now r).1 → (one now r).1 ≡ (other now r).1
  same-state {start} now r a b a' b' = go (ℕ_discrete (number (one now r).0) 0)
    where
      said : number (one now r).0 ≡ other-number (other now r).0
      said = same_answer now r a b

      go : Dec (number (one now r).0 ≡ 0) → (one now r).1 ≡ (other now r).1
      go (no h) = a.0.refused r h ∙ sym (b.0.refused r (λ l. h (said ∙ l)))
      go (yes z) = λ i. ((a'.0.planes ∙ ap (λ (ms : List ℕ). raster step (W * H) ms start) marks ∙ sym b'.0.planes) i, marks i)
        where
          marks : (one now r).1.1 ≡ (other now r).1.1
          marks = a.0.own-mark r.0 r.1 z ∙ sym (b.0.own-mark r.0 r.1 (sym said ∙ z))

  -- from one state on
  same_from : {start : S} (now : State S) → ((rs : List At) → Known number one start (run one rs now))
      → ((rs : List At) → Known other-number other start (run other rs now)) → (rs : List At)
      → (map number (answers one rs now) ≡ map other-number (answers other rs now)) × (run one rs now ≡ run other rs now)
  same_from now F G [] = (refl, refl)
  same_from now F G (r ∷ rs) =
      let e = same-state now r (F []) (G []) (F (r ∷ [])) (G (r ∷ [])) in
      let k = same_from (one now r).1 (λ qs. F (r ∷ qs)) (λ qs. rw e (G (r ∷ qs))) rs in
      (λ i. same_answer now r (F []) (G []) i ∷ (k.0 ∙ ap (λ (t : State S). map other-number (answers other rs t)) e) i, k.1 ∙ ap (run other rs) e)

  pub one-behaviour : Demand3 W H step early number one → Beyond3 W H step early number one → Demand3 W H step early other-number other → Beyond3 W H step early other-number other
      → (start : S) (rs : List At)
      → (map number (answers one rs (start, fresh W H)) ≡ map other-number (answers other rs (start, fresh W H))) × (run one rs (start, fresh W H) ≡ run other rs (start, fresh W H))
  one-behaviour F F' G G' start rs = same_from (start, fresh W H) (λ qs. (F start qs, F' start qs)) (λ qs. (G start qs, G' start qs)) rs

-- "in any order": two lists of requests that leave the same marks leave the same planes
pub same-marks-same-planes : (W H : ℕ) {A S : Type 0} (step : ℕ → S → S) (early : State S → At → ℕ) (number : A → ℕ) (call : Call A S) → Demand3 W H step early number call
    → (start : S) (rs qs : List At) → (run call rs (start, fresh W H)).1 ≡ (run call qs (start, fresh W H)).1
    → run call rs (start, fresh W H) ≡ run call qs (start, fresh W H)
same-marks-same-planes W H step early number call D start rs qs e =
    λ i. (((D start rs).planes ∙ ap (λ (ms : List ℕ). raster step (W * H) ms start) e ∙ sym (D start qs).planes) i, e i)
