-- Apart: demand 3 does not ask for it. What else holds of a visit at each state that requests lead to, so
-- that with demand 3 every answer and every state is known (law `one-behaviour`).
use Rattle.std.specs.Prelude.{ℕ, ◌*◌, ◌≤◌, ◌≡◌, ◌≢◌, ◌↔◌, List, length, get_or}
use Rattle.laws.specs.Loop.{up_to}
use Rattle.visits.specs.AnyOrder.{Visited, AllVisited}
use Rattle.visits.specs.Visit.{At, State, Call, fresh, run}

-- each mark is 0 or 1
abbrev pub Bits : List ℕ → Type 0
Bits ms = (i : ℕ) → get_or ms i 0 ≤ 1

module _ (W H : ℕ) {A S : Type 0} (step : ℕ → S → S) (early : State S → At → ℕ) (number : A → ℕ) (call : Call A S) where
  pub record Beyond (start : S) (now : State S) : Type 0 where
    -- with all of them visited the planes hold the whole picture
    pub whole : AllVisited W H now.1 → now.0 ≡ up_to (W * H) step start
    -- the checks before 13, and 13
    pub earlier : (r : At) → early now r ≢ 0 → number (call now r).0 ≡ early now r
    pub already : (x y : ℕ) → early now (x, y) ≡ 0 → (number (call now (x, y)).0 ≡ 13) ↔ Visited W now.1 x y
    -- a mark for each macroblock, 0 or 1, and none is taken back
    pub full : length now.1 ≡ W * H
    pub bits : Bits now.1
    pub kept : (r : At) (i : ℕ) → get_or now.1 i 0 ≤ get_or (call now r).1.1 i 0

  abbrev pub Beyond3 : Type 0
  Beyond3 = (start : S) (rs : List At) → Beyond start (run call rs (start, fresh W H))
