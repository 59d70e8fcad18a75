-- Visits of macroblocks: docs/RULES.md, "Visits", and 13 and 14 of its "Answers". W is the picture's width in
-- macroblocks, S any state of the planes, `step i` filters macroblock i.
use Rattle.std.specs.Prelude.{ℕ, ◌+◌, ◌-◌, ◌*◌, ◌≡◌, Bool, cond, not, ◌&&◌, ◌||◌, List, [], ◌∷◌, eqb, ltb, get_or, set, replicate}
use Rattle.laws.specs.Refusal.{or_else}

-- a request: the column x and the row y
abbrev pub At : Type 0
At = ℕ × ℕ

-- the planes and the marks
abbrev pub State : Type 0 → Type 0
State S = S × List ℕ

-- nothing visited
abbrev pub fresh : ℕ → ℕ → List ℕ
fresh W H = replicate (W * H) 0

-- (x, y) is macroblock y * W + x in raster order; it is marked where its mark is 1
abbrev pub marked : ℕ → List ℕ → ℕ → ℕ → Bool
marked W ms x y = eqb (get_or ms (y * W + x) 0) 1

-- the left, the upper, the upper right neighbour of (x, y) exists and is unmarked
abbrev pub lacks_left : ℕ → List ℕ → ℕ → ℕ → Bool
lacks_left W ms x y = ltb 0 x && not (marked W ms (x - 1) y)

abbrev pub lacks_upper : ℕ → List ℕ → ℕ → ℕ → Bool
lacks_upper W ms x y = ltb 0 y && not (marked W ms x (y - 1))

abbrev pub lacks_upper_right : ℕ → List ℕ → ℕ → ℕ → Bool
lacks_upper_right W ms x y = ltb 0 y && ltb (x + 1) W && not (marked W ms (x + 1) (y - 1))

-- one of the three
unfoldable pub waiting : ℕ → List ℕ → ℕ → ℕ → Bool
waiting W ms x y = lacks_left W ms x y || lacks_upper W ms x y || lacks_upper_right W ms x y

-- a visit as anyone may write it: from the state and the request its answer, and the state afterwards. An
-- answer, of whatever kind A, holds a number: 0, or that of the check by which the visit is refused
abbrev pub Call : Type 0 → Type 0 → Type 0
Call A S = State S → At → A × State S

-- an answer that is its number
abbrev pub itself : ℕ → ℕ
itself n = n

-- early: the number of the first check before 13 that applies, 0 where none does
unfoldable pub answer : ℕ → {S : Type 0} → (State S → At → ℕ) → State S → At → ℕ
answer W early s r = or_else (early s r) (cond (marked W s.1 r.0 r.1) 13 (cond (waiting W s.1 r.0 r.1) 14 0))

-- what an answer leaves. 0: the macroblock filtered and its own mark set. A refusal: all as it was
abbrev pub serve : ℕ → {S : Type 0} → (ℕ → S → S) → ℕ → State S → At → State S
serve W step n s r = cond (eqb n 0) (step (r.1 * W + r.0) s.0, set s.1 (r.1 * W + r.0) 1) s

module _ (W : ℕ) {S : Type 0} (step : ℕ → S → S) (early : State S → At → ℕ) where
  unfoldable pub visit : Call ℕ S
  visit s r = (answer W early s r, serve W step (answer W early s r) s r)

  -- what the contract of one visit says of its answer n and of the state t afterwards
  pub record VisitOutcomeOf (s : State S) (r : At) (n : ℕ) (t : State S) : Type 0 where
    pub number : n ≡ answer W early s r
    pub planes : t.0 ≡ (serve W step (answer W early s r) s r).0
    pub marks : t.1 ≡ (serve W step (answer W early s r) s r).1

-- any list of requests, one after the other: the state at the end, and the answers. Requests and states may
-- be of any kind, as those of two fields are
module _ {A U R : Type 0} (call : U → R → A × U) where
  abbrev pub run : List R → U → U
  run [] s = s
  run (r ∷ rs) s = run rs (call s r).1

  abbrev pub answers : List R → U → List A
  answers [] s = []
  answers (r ∷ rs) s = (call s r).0 ∷ answers rs (call s r).1
