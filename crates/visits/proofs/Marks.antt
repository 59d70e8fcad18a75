-- Marks: they are 0 or 1, setting one takes none back, and while one is not set, one that waits for none is
-- not. Assumes nothing.
use mathlib.Core.Path.{◌≡◌, refl, sym, ◌∙◌}
use mathlib.Core.Logic.{◌⊎◌, inl, inr}
use mathlib.Core.List.{List}
use Prim.Native.Nat.{ℕ, zero, suc, ◌+◌, ◌*◌, ◌/◌, ◌%◌, ◌≤◌, ◌<◌}
use native.Mathlib.Nat.{mod-lt, div-add-mod', div-lt_iff_lt-mul, le_refl, not-suc-le-zero}
use native.Mathlib.Decide.{ℕ_discrete, dec_lt}
use native.Mathlib.Omega.{arith}
use lib.ListN.{length, get_or, set, replicate, length-replicate, get_or-replicate}
use lib.Seq.{ext_get_or, get_or-set_same, get_or-set_other, set_out}
use Rattle.laws.specs.Raster.{Marked}
use Rattle.laws.specs.Order.{Ready, Dep}
use Rattle.laws.proofs.Raster.{progress}
use Rattle.laws.proofs.Grid.{dep-lt}
use Rattle.visits.specs.Visit.{fresh}
use Rattle.visits.specs.AnyOrder.{Waits, AllVisited, Free}
use Rattle.visits.specs.Beyond.{Bits}
use Rattle.visits.proofs.Neighbours.{ready→free, index→all}

-- general: what holds of the new value and of the old one at j holds at j once the value is set somewhere
pub set-at-place : (P : ℕ → Type 0) (l : List ℕ) (m v j : ℕ) → (j ≡ m → P v) → P (get_or l j 0) → P (get_or (set l m v) j 0)
set-at-place P l m v j new old = go (ℕ_discrete j m) (dec_lt m (length l))
  where
    go : Dec (j ≡ m) → Dec (m < length l) → P (get_or (set l m v) j 0)
    go (no n) d = rw (get_or-set_other l m j v 0 n) old
    go (yes e) (no h) = rw (set_out l m v (omega arith)) old
    go (yes e) (yes h) = rw e (rw (get_or-set_same l m v 0 h) (new e))

pub visited-stays : (ms : List ℕ) (m i : ℕ) → Marked ms i → Marked (set ms m 1) i
visited-stays ms m i k = set-at-place (λ v. v ≡ 1) ms m 1 i (λ e. refl) k

-- nothing visited, as a caller lends it
pub zeros-are-fresh : (W H : ℕ) (ms : List ℕ) → length ms ≡ W * H → ((i : ℕ) → i < W * H → get_or ms i 0 ≡ 0) → ms ≡ fresh W H
zeros-are-fresh W H ms l zeros =
    ext_get_or 0 ms (fresh W H) (l ∙ sym (length-replicate (W * H) 0))
    (λ i h. let b : i < W * H = omega arith in zeros i b ∙ sym (get_or-replicate (W * H) i 0 0 b))

pub set-bits : (ms : List ℕ) (m : ℕ) → Bits ms → Bits (set ms m 1)
set-bits ms m b i = set-at-place (λ k. k ≤ 1) ms m 1 i (λ e. le_refl 1) (b i)

pub set-kept : (ms : List ℕ) (m : ℕ) → Bits ms → (i : ℕ) → get_or ms i 0 ≤ get_or (set ms m 1) i 0
set-kept ms m b i = set-at-place (λ k. get_or ms i 0 ≤ k) ms m 1 i (λ e. b i) (le_refl (get_or ms i 0))

pub fresh-bits : (n : ℕ) → Bits (replicate n 0)
fresh-bits zero i = omega arith
fresh-bits (suc n) zero = omega arith
fresh-bits (suc n) (suc i) = fresh-bits n i

pub fresh-none : (n i : ℕ) → i < n → Marked (replicate n 0) i → ⊥
fresh-none n i h k = omega (arith, get_or-replicate {A = ℕ} n i 0 0 h)

-- while one is unvisited, one that is unvisited waits for none
pub some-free : (W H : ℕ) (ms : List ℕ) → AllVisited W H ms ⊎ Free W H ms
some-free zero H ms = inl (λ x y hx hy. absurd (not-suc-le-zero hx))
some-free (suc W') H ms = go (progress (Dep W) (dep-lt W w) ms (W * H))
  where
    W : ℕ
    W = suc W'

    w : 0 < W
    w = omega arith

    go : ((i : ℕ) → i < W * H → Marked ms i) ⊎ ((m : ℕ) × (m < W * H) × (Marked ms m → ⊥) × Ready (Dep W) ms m) → AllVisited W H ms ⊎ Free W H ms
    go (inl all) = inl (index→all W H ms all)
    go (inr f) =
        inr record {
          x = f.0 % W;
          y = f.0 / W;
          column = mod-lt f.0 w;
          row = (div-lt_iff_lt-mul w).1 (omega (arith, f.1));
          unvisited = rw (div-add-mod' f.0 W) f.2;
          ready = ready→free W H ms (f.0 % W) (f.0 / W) (mod-lt f.0 w) (rw (div-add-mod' f.0 W) f.3);
        }

-- a mark that is set leaves a macroblock that waits for none so
pub still-free : (W H : ℕ) (ms : List ℕ) (m x y : ℕ) → (Waits W H ms x y → ⊥) → Waits W H (set ms m 1) x y → ⊥
still-free W H ms m x y f w =
    f (record {
      nx = w.nx;
      ny = w.ny;
      near = w.near;
      column = w.column;
      row = w.row;
      unvisited = λ k. w.unvisited (visited-stays ms m (w.ny * W + w.nx) k);
    })
