-- Apart: no promise to a caller of the public calls rests on it. What functions of this crate ask of their
-- callers, and when a macroblock is left at once.
use Rattle.std.specs.Prelude.{ℕ, ◌+◌, ◌-◌, ◌*◌, ◌<◌, ◌≤◌, ◌≡◌, Bool, true, false, ◌&&◌, eqb}
use Rattle.laws.specs.Loop.{up_to}
use Rattle.edges.specs.declared.plan.Layout.{Layout}
use Rattle.edges.specs.declared.plan.Switches.{Switches}
use Rattle.edges.specs.declared.plan.Window.{Window}

-- the lengths of the planes are enough for m macroblocks, those of the QPs, the flags (none, or one each) and
-- the strengths for n
pub record Room (m n l lu lv lq lt ls : ℕ) : Type 0 where
  pub luma : 256 * m ≤ l
  pub u : 64 * m ≤ lu
  pub v : 64 * m ≤ lv
  pub qps : n ≤ lq
  pub t8s : eqb lt 0 ≡ false → n ≤ lt
  pub strengths : 32 * n ≤ ls

-- a macroblock of N by N samples lies in a plane of `len`, whose rows are at least as wide; before a border
-- that is on there are `half` samples
pub record InPlane (N half : ℕ) (on : Switches) (at : Window) (len : ℕ) : Type 0 where
  pub left : on.left ≡ true → half * 1 ≤ at.origin
  pub top : on.top ≡ true → half * at.stride ≤ at.origin
  pub ends : at.origin + (N - 1) * at.stride + (N - 1) < len
  pub wide : N ≤ at.stride

-- the numbers that a window is computed of fit a usize
pub record SmallWindow (l : Layout) (N w x y : ℕ) : Type 0 where
  pub line : N * w < 18446744073709551616
  pub rows : N * y < 18446744073709551616
  pub far : l.times * (N * w) < 18446744073709551616
  pub origin : l.skip * (N * w) + N * y * (l.times * (N * w)) + N * x < 18446744073709551616

-- all 32 strengths are 0: nothing is to do
unfoldable pub all_zero : (ℕ → ℕ) → Bool
all_zero strengths = up_to 32 (λ (k : ℕ) (b : Bool). b && eqb (strengths k) 0) true
