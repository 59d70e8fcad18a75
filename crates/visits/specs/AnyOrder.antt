-- Demand 3, word for word, of any visit `call`: what holds at each state `now` that a list of requests leads
-- to from `start` with nothing visited. A state has a picture and its marks; it may hold more, as a frame
-- that has two fields does.
use Rattle.std.specs.Prelude.{ℕ, ◌+◌, ◌*◌, ◌<◌, ◌≡◌, ◌≢◌, ◌⊎◌, ◌↔◌, List, set}
use Rattle.laws.specs.Raster.{Marked, raster}
use Rattle.laws.specs.Grid.{Near}
use Rattle.visits.specs.Visit.{At, State, Call, fresh, run}

-- (x, y) has been visited, or has not
abbrev pub Visited : ℕ → List ℕ → ℕ → ℕ → Type 0
Visited W ms x y = Marked ms (y * W + x)

abbrev pub Unvisited : ℕ → List ℕ → ℕ → ℕ → Type 0
Unvisited W ms x y = Visited W ms x y → ⊥

-- "an existing left, upper or upper right neighbour is unvisited"
pub record Waits (W H : ℕ) (ms : List ℕ) (x y : ℕ) : Type 0 where
  pub nx : ℕ
  pub ny : ℕ
  pub near : Near nx ny x y
  pub column : nx < W
  pub row : ny < H
  pub unvisited : Unvisited W ms nx ny

abbrev pub AllVisited : ℕ → ℕ → List ℕ → Type 0
AllVisited W H ms = (x y : ℕ) → x < W → y < H → Visited W ms x y

-- an unvisited macroblock that waits for none
pub record Free (W H : ℕ) (ms : List ℕ) : Type 0 where
  pub x : ℕ
  pub y : ℕ
  pub column : x < W
  pub row : y < H
  pub unvisited : Unvisited W ms x y
  pub ready : Waits W H ms x y → ⊥

-- W by H macroblocks; of a state `planes_of` is the picture and `marks_of` its marks; `step i` filters
-- macroblock i, `early` has the number of the first check before 13 that applies, 0 where none does, and
-- `number` is the one that an answer holds
module _ (W H : ℕ) {A S U : Type 0} (planes_of : U → S) (marks_of : U → List ℕ) (step : ℕ → S → S) (early : U → At → ℕ) (number : A → ℕ) (call : U → At → A × U) where
  pub record AnyOrderIn (start : S) (now : U) : Type 0 where
    -- what "visited" means: a visit that answers 0 sets its own mark, and a refused one changes nothing
    pub own-mark : (x y : ℕ) → number (call now (x, y)).0 ≡ 0 → marks_of (call now (x, y)).1 ≡ set (marks_of now) (y * W + x) 1
    pub refused : (r : At) → number (call now r).0 ≢ 0 → (call now r).1 ≡ now
    -- "A visit that passes all earlier checks is refused as not ready exactly when an existing left, upper or
    -- upper right neighbour is unvisited", and else done; that it was visited already is one of the earlier
    -- checks
    pub not-ready : (x y : ℕ) → early now (x, y) ≡ 0 → Unvisited W (marks_of now) x y → (number (call now (x, y)).0 ≡ 14) ↔ Waits W H (marks_of now) x y
    pub done : (x y : ℕ) → early now (x, y) ≡ 0 → Unvisited W (marks_of now) x y → (Waits W H (marks_of now) x y → ⊥) → number (call now (x, y)).0 ≡ 0
    -- "After each call the planes hold what demand 2's rules give for just the visited macroblocks in raster
    -- order"
    pub planes : planes_of now ≡ raster step (W * H) (marks_of now) start
    -- "while one is unvisited, some visit is ready": by `done` it answers 0 where no earlier check applies
    pub some-ready : AllVisited W H (marks_of now) ⊎ Free W H (marks_of now)

-- of a state that is a picture and its marks
module _ (W H : ℕ) {A S : Type 0} (step : ℕ → S → S) (early : State S → At → ℕ) (number : A → ℕ) (call : Call A S) where
  abbrev pub AnyOrder : S → State S → Type 0
  AnyOrder start now = AnyOrderIn W H (λ (s : State S). s.0) (λ (s : State S). s.1) step early number call start now

  -- "Start with nothing visited. Visit macroblocks in any order, refused visits among them"
  abbrev pub Demand3 : Type 0
  Demand3 = (start : S) (rs : List At) → AnyOrder start (run call rs (start, fresh W H))
