-- A replay, whatever its requests and states are: what is kept from turn to turn, and what it comes to. Lists
-- of different lengths (`uneven`) leave no turn. Assumes nothing.
use mathlib.Core.Path.{◌≡◌, refl, sym, ap, subst, ◌∙◌}
use mathlib.Core.Bool.{Bool, true, false, cond}
use mathlib.Core.List.{List}
use Prim.Native.Nat.{ℕ, ◌+◌, ◌≤◌, ◌<◌, zero-le}
use native.Mathlib.Nat.{le_antisymm}
use native.Mathlib.Omega.{arith}
use lib.ListN.{length, set, length-set}
use Rattle.visits.specs.Inner.{Served}
use Rattle.visits.specs.Visit.{run, answers}
use Rattle.visits.proofs.Calls.{served-none, served-all}

module _ {U R : Type 0} (call : U → R → ℕ × U) (rs : List R) (start : U) (out : List ℕ) (uneven : Bool) (count e : ℕ) where
  -- after k turns; before the first nothing has changed
  pub record Replaying (k : ℕ) (now : U) (said : List ℕ) : Type 0 where
    pub high : k ≤ e
    pub room : length said ≡ length out
    pub served : Served call rs start k now said
    pub still : k ≡ 0 → ◌≡◌ {A = U × List ℕ} (now, said) (start, out)

  pub replay-begins : Replaying 0 start out
  replay-begins = record { high = zero-le; room = refl; served = served-none; still = λ z. refl }

  module _ (e-is : e ≡ cond uneven 0 count) where
    -- there is a turn where the lists are of one length
    no-turn : (t : Bool) (k : ℕ) → k < cond t 0 count → t ≡ false
    no-turn true k h = absurd (omega arith)
    no-turn false k h = refl

    pub turn_even : (k : ℕ) → k < e → uneven ≡ false
    turn_even k h = no-turn uneven k (omega (arith, h, e-is))

    pub turn-as-many : (k : ℕ) → k < e → k < count
    turn-as-many k h = let f : e ≡ count = e-is ∙ ap (λ (t : Bool). cond t 0 count) (turn_even k h) in omega (arith, h)

    pub replay-goes-on : (k : ℕ) (now next : U) (said said' : List ℕ) (n : ℕ) → k < e → Replaying k now said → said' ≡ set said k n → Served call rs start (k + 1) next (set said k n)
        → Replaying (k + 1) next said'
    replay-goes-on k now next said said' n less inv put more = record {
      high = omega (arith, less);
      room = ap length put ∙ length-set said k n ∙ inv.room;
      served = subst (Served call rs start (k + 1) next) (sym put) more;
      still = λ z. absurd (omega (arith, z));
    }

    pub replay-comes-to : (uneven ≡ false → (length rs ≡ count) × (length out ≡ count)) → (k : ℕ) (now : U) (said : List ℕ) → e ≤ k → Replaying k now said
        → (now ≡ cond uneven start (run call rs start)) × (said ≡ cond uneven out (answers call rs start))
    replay-comes-to even k now said past inv = go uneven refl
      where
        at-end : (t : Bool) → uneven ≡ t → k ≡ cond t 0 count
        at-end t w = le_antisymm inv.high past ∙ e-is ∙ ap (λ (b : Bool). cond b 0 count) w

        go : (t : Bool) → uneven ≡ t → (now ≡ cond uneven start (run call rs start)) × (said ≡ cond uneven out (answers call rs start))
        go true w = let same = inv.still (at-end true w) in rw w ((λ i. (same i).0), (λ i. (same i).1))
        go false w =
            let f = even w in
            rw w (served-all (omega (arith, at-end false w, f.0)) (omega (arith, inv.room, f.0, f.1)) inv.served)
