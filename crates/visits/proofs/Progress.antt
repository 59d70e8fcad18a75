-- "While one is unvisited, some visit is ready": and it answers 0 where no earlier check applies, as with
-- valid data throughout. Assumes nothing.
use mathlib.Core.Path.{◌≡◌, sym, subst}
use mathlib.Core.Logic.{◌⊎◌, inl, inr}
use mathlib.Core.List.{List}
use Prim.Native.Nat.{ℕ, ◌*◌, ◌<◌}
use lib.Dec.{eqb}
use lib.ListN.{get_or}
use Rattle.laws.specs.Raster.{on_mark}
use Rattle.laws.proofs.Cond.{cond_both}
use Rattle.laws.proofs.Loop.{up_to-keeps}
use Rattle.visits.specs.Visit.{At, State, Call, fresh, run}
use Rattle.visits.specs.AnyOrder.{AllVisited, Free, AnyOrder, Demand3}
use Rattle.visits.specs.Beyond.{Beyond3}
use Rattle.visits.specs.Instance.{Passes}

module _ (W H : ℕ) {A S : Type 0} (step : ℕ → S → S) (early : State S → At → ℕ) (number : A → ℕ) (call : Call A S) where
  pub some-answers-0 : {start : S} (now : State S) → AnyOrder W H step early number call start now → ((x y : ℕ) → x < W → y < H → early now (x, y) ≡ 0)
      → AllVisited W H now.1 ⊎ ((x : ℕ) × (y : ℕ) × (x < W) × (y < H) × (number (call now (x, y)).0 ≡ 0))
  some-answers-0 now a clear = go a.some-ready
    where
      go : AllVisited W H now.1 ⊎ Free W H now.1 → AllVisited W H now.1 ⊎ ((x : ℕ) × (y : ℕ) × (x < W) × (y < H) × (number (call now (x, y)).0 ≡ 0))
      go (inl all) = inl all
      go (inr f) = inr (f.x, f.y, f.column, f.row, a.done f.x f.y (clear f.x f.y f.column f.row) f.unvisited f.ready)

  -- with valid data throughout, which each step keeps so: after any requests all are visited, or some visit
  -- answers 0
  pub never_stuck : (Valid : S → Type 0) → ((i : ℕ) (s : S) → Valid s → Valid (step i s)) → Passes W H early Valid → Demand3 W H step early number call
      → Beyond3 W H step early number call → (start : S) → Valid start → (rs : List At)
      → AllVisited W H (run call rs (start, fresh W H)).1
      ⊎ ((x : ℕ) × (y : ℕ) × (x < W) × (y < H) × (number (call (run call rs (start, fresh W H)) (x, y)).0 ≡ 0))
  never_stuck Valid kept clear D E start v rs = some-answers-0 now a (clear now valid (E start rs).full (E start rs).bits)
    where
      now : State S
      now = run call rs (start, fresh W H)

      a : AnyOrder W H step early number call start now
      a = D start rs

      valid : Valid now.0
      valid =
          subst Valid (sym a.planes)
          (up_to-keeps Valid (W * H) (on_mark step now.1) start (λ i s h p. cond_both Valid (eqb (get_or now.1 i 0) 1) (kept i s p) p) v)
