-- The two passes over a batch are its lines, each at its own strength. Assumes nothing.
use mathlib.Core.Path.{◌≡◌, refl, sym, ap, ◌∙◌}
use mathlib.Core.Bool.{Bool, false, cond}
use mathlib.Core.Logic.{◌≢◌, inl}
use mathlib.Core.List.{List}
use Prim.Native.Nat.{ℕ, zero, suc, ◌%◌, ◌≤◌, ◌<◌}
use native.Mathlib.Decide.{ℕ_discrete}
use native.Mathlib.Omega.{arith}
use borrow.Author.Tests.{lt-ltb}
use Rattle.laws.specs.Local.{Local}
use Rattle.laws.specs.Loop.{up_to}
use Rattle.laws.specs.Places.{Plane, line_at}
use Rattle.laws.proofs.Local.{commute, local-when, line_at-in}
use Rattle.laws.proofs.Loop.{up_to-same, up_to-idle}
use Rattle.laws.proofs.Loops.{up_to-fuse}
use Rattle.lines.specs.Inner.{cap_row}
use Rattle.batches.specs.Lines.{pass_of}
use Rattle.batches.specs.Lanes.{at_slot, strong_row, is_weak, is_strong}
use Rattle.batches.specs.declared.lanes.Thresholds.{Thresholds}
use Rattle.batches.proofs.Bands.{Columns}
use Rattle.batches.proofs.Shapes.{Shape, with_of, not-weak, stays, weak-lane, strong-lane}

-- ---- one of the two passes takes a line, unless its strength is 0
once : (s : ℕ) (f : Plane → Plane) (u : Plane) → (s ≡ 0 → f u ≡ u) → cond (is_strong s) (f (cond (is_weak s) (f u) u)) (cond (is_weak s) (f u) u) ≡ f u
once zero f u h = sym (h refl)
once (suc zero) f u h = refl
once (suc (suc zero)) f u h = refl
once (suc (suc (suc zero))) f u h = refl
once (suc (suc (suc (suc s)))) f u h =
    let four : 4 ≤ suc (suc (suc (suc s))) = omega arith in
    λ i. cond (lt-ltb 3 (suc (suc (suc (suc s)))) four i) (f (cond (not-weak (suc (suc (suc (suc s)))) four i) (f u) u)) (cond (not-weak (suc (suc (suc (suc s)))) four i) (f u) u)

-- ---- lines of a batch: each stays in its column, so that two of them may be made in either order
module _ (place : ℕ → ℕ) (r m : ℕ) (cs : Columns place r m) (f : ℕ → List ℕ → List ℕ) (strength : ℕ → ℕ) where
  abbrev line : ℕ → Plane → Plane
  line k = line_at m (f k) (place k) 16

  column : (on : ℕ → Bool) (k : ℕ) → k < 16 → Local (λ p. p % 16 ≡ k) (pass_of on strength line k)
  column on k h =
      local-when (λ p. p % 16 ≡ k) (on (strength k)) (line k) (λ t. line_at-in (λ p. p % 16 ≡ k) m (f k) (place k) 16 (λ j l. cs.column k j h l))

  columns-commute : (on off : ℕ → Bool) (i j : ℕ) (xs : Plane) → i < 16 → j < 16 → i ≢ j
      → pass_of on strength line i (pass_of off strength line j xs) ≡ pass_of off strength line j (pass_of on strength line i xs)
  columns-commute on off i j xs h l d =
      commute (λ p. p % 16 ≡ i) (λ p. p % 16 ≡ j) (pass_of on strength line i) (pass_of off strength line j) (λ p. ℕ_discrete (p % 16) i) (λ p. ℕ_discrete (p % 16) j)
      (λ p x y. d (sym x ∙ y)) (column on i h) (column off j l) xs

  pub passes : ((k : ℕ) (u : Plane) → strength k ≡ 0 → line k u ≡ u) → (t : Plane)
      → up_to 16 (pass_of is_strong strength line) (up_to 16 (pass_of is_weak strength line) t) ≡ up_to 16 line t
  passes idle t =
      up_to-fuse 16 (pass_of is_weak strength line) (pass_of is_strong strength line) t
      (λ i j u l b. columns-commute is_strong is_weak i j u (omega arith) b (λ e. omega arith))
      ∙ up_to-same 16 _ line t (λ k u h. once (strength k) (line k) u (idle k u))

-- a pass with no line to filter
pub pass-idle : (on : ℕ → Bool) (strength : ℕ → ℕ) (line : ℕ → Plane → Plane) (t : Plane) → ((k : ℕ) → on (strength k) ≡ false) → up_to 16 (pass_of on strength line) t ≡ t
pass-idle on strength line t e = up_to-idle 16 (pass_of on strength line) t (λ k u h. ap (λ (b : Bool). cond b (line k u) u) (e k))

-- ---- a pass by its lanes: line k has the thresholds `by k` and is lent alpha and beta, and in the first
-- pass a cap
module _ (h : Shape) (place strength : ℕ → ℕ) (by : ℕ → Thresholds) where
  abbrev pub line_by : ℕ → Plane → Plane
  line_by k = line_at h.n (with_of h (by k) (strength k)) (place k) 16

  pub weak-pass : (al be cap : ℕ → ℕ) → ((k : ℕ) → k < 16 → al k ≡ (by k).alpha) → ((k : ℕ) → k < 16 → be k ≡ (by k).beta)
      → ((k : ℕ) → k < 16 → cap k ≡ at_slot (cap_row h.depth (by k).index) (strength k)) → (t : Plane)
      → up_to 16 (λ k. line_at h.n (h.capped (al k) (be k) (cap k)) (place k) 16) t ≡ up_to 16 (pass_of is_weak strength line_by) t
  weak-pass al be cap a b c t =
      up_to-same 16 _ _ t
      (λ k u l. (λ i. line_at h.n (h.capped (a k l i) (b k l i) (c k l i)) (place k) 16 u) ∙ weak-lane h (by k) (place k) 16 u (strength k))

  pub strong-pass : (al be : ℕ → ℕ) → ((k : ℕ) → k < 16 → al k ≡ at_slot (strong_row (by k)) (strength k)) → ((k : ℕ) → k < 16 → be k ≡ (by k).beta) → (t : Plane)
      → up_to 16 (λ k. line_at h.n (h.strong (al k) (be k)) (place k) 16) t ≡ up_to 16 (pass_of is_strong strength line_by) t
  strong-pass al be a b t =
      up_to-same 16 _ _ t (λ k u l. (λ i. line_at h.n (h.strong (a k l i) (b k l i)) (place k) 16 u) ∙ strong-lane h (by k) (place k) 16 u (strength k))

  pub both-passes : (r : ℕ) → Columns place r h.n → (t : Plane) → up_to 16 (pass_of is_strong strength line_by) (up_to 16 (pass_of is_weak strength line_by) t) ≡ up_to 16 line_by t
  both-passes r cs = passes place r h.n cs (λ k. with_of h (by k) (strength k)) strength (λ k u e. stays h (by k) (place k) 16 u (strength k) (inl e))
