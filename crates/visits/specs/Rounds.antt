-- Apart: demand 3 does not ask for it. Visits made in rounds. A round makes only visits that were ready at
-- its start, so within a round their order does not matter.
use Rattle.std.specs.Prelude.{ℕ, ◌+◌, ◌-◌, ◌*◌, ◌/◌, ◌%◌, ◌≤◌, ◌<◌, ◌≡◌, ◌↔◌, cond, List, [], ◌∷◌, ◌++◌, map, eqb, length, set}
use Rattle.laws.specs.Local.{All, Among}
use Rattle.laws.specs.Raster.{Marked}
use Rattle.laws.specs.Order.{Ready, Dep}
use Rattle.visits.specs.Visit.{At, fresh}
use Rattle.visits.specs.AnyOrder.{Visited, AllVisited}

-- macroblock i is ready: in the picture, unmarked, and what it waits for is marked
abbrev pub Able : ℕ → ℕ → List ℕ → ℕ → Type 0
Able W H ms i = (i < W * H) × (Marked ms i → ⊥) × Ready (Dep W) ms i

-- the marks after visits of the macroblocks is
abbrev pub mark_all : List ℕ → List ℕ → List ℕ
mark_all [] ms = ms
mark_all (i ∷ is) ms = mark_all is (set ms i 1)

-- a round that starts with the marks ms: of such as are ready then; and of all such
abbrev pub Allowed : ℕ → ℕ → List ℕ → List ℕ → Type 0
Allowed W H ms is = All (Able W H ms) is

abbrev pub Full : ℕ → ℕ → List ℕ → List ℕ → Type 0
Full W H ms is = Allowed W H ms is × ((i : ℕ) → Able W H ms i → Among is i)

-- rounds one after the other, from the marks at the start to those at the end
pub data Schedule (Round : List ℕ → List ℕ → Type 0) : List ℕ → List (List ℕ) → List ℕ → Type 0 where
  over : {ms : List ℕ} → Schedule Round ms [] ms
  next : {ms end is : List ℕ} {rounds : List (List ℕ)} → Round ms is → Schedule Round (mark_all is ms) rounds end → Schedule Round ms (is ∷ rounds) end

-- the rounds as requests, one after the other
abbrev pub place_of : ℕ → ℕ → At
place_of W i = (i % W, i / W)

abbrev pub as_requests : ℕ → List (List ℕ) → List At
as_requests W [] = []
as_requests W (is ∷ rounds) = map (place_of W) is ++ as_requests W rounds

-- the round of (x, y), counted from 0: a row follows the one above by two, since it waits for the upper
-- right; by one where there is no upper right
unfoldable pub earliest : ℕ → ℕ → ℕ → ℕ
earliest W x y = cond (eqb W 1) y (x + 2 * y)

-- the number of rounds of a whole picture
unfoldable pub rounds_for : ℕ → ℕ → ℕ
rounds_for W H = cond (eqb W 1) H (W + 2 * (H - 1))

pub record Rounds (W H : ℕ) : Type 0 where
  -- no schedule visits (x, y) before that round, so none finishes the picture in fewer
  pub no-earlier : {rounds : List (List ℕ)} {end : List ℕ} → Schedule (Allowed W H) (fresh W H) rounds end
      → (x y : ℕ) → x < W → y < H → Visited W end x y → earliest W x y < length rounds
  pub no-fewer : {rounds : List (List ℕ)} {end : List ℕ} → 0 < W → 0 < H → Schedule (Allowed W H) (fresh W H) rounds end
      → AllVisited W H end → rounds_for W H ≤ length rounds
  -- full rounds visit each in its round, and finish the picture in so many
  pub each-in-its-round : {rounds : List (List ℕ)} {end : List ℕ} → Schedule (Full W H) (fresh W H) rounds end
      → (x y : ℕ) → x < W → y < H → Visited W end x y ↔ (earliest W x y < length rounds)
  pub finished : {rounds : List (List ℕ)} {end : List ℕ} → Schedule (Full W H) (fresh W H) rounds end → rounds_for W H ≤ length rounds → AllVisited W H end
  -- and full rounds there are
  pub full : (k : ℕ) → (rounds : List (List ℕ)) × (end : List ℕ) × (length rounds ≡ k) × Schedule (Full W H) (fresh W H) rounds end
