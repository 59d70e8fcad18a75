-- Filtering a stretch of macroblocks of one slice by one record is filtering each by its own. Assumes
-- nothing.
use mathlib.Core.Path.{◌≡◌, sym, ap, subst, ◌∙◌}
use mathlib.Core.List.{List}
use Prim.Native.Nat.{ℕ, ◌+◌, ◌-◌, ◌*◌, ◌≤◌, ◌<◌}
use native.Mathlib.Omega.{arith}
use Rattle.laws.specs.Loop.{up_to, span}
use Rattle.laws.proofs.Loop.{up_to-same}
use Rattle.edges.specs.Alike.{held_as}
use Rattle.edges.specs.Laid.{laid_mb, laid_step}
use Rattle.edges.specs.Picture.{Planes, Held}
use Rattle.edges.specs.declared.plan.Layout.{Layout}
use Rattle.edges.proofs.LaidSteps.{laid-index}
use Rattle.slices.specs.Inner.{offsets_with, edges_by, OwnSettings}
use Rattle.slices.specs.Slicing.{sliced, slice_at, held_in}
use Rattle.slices.specs.declared.ChromaOffsets.{ChromaOffsets}
use Rattle.slices.specs.declared.SliceRecord.{SliceRecord}
use Rattle.slices.proofs.Own.{own-sliced, laid-own}

-- ---- turns that are equal one by one, and turns counted from another number on
module _ {S : Type 0} where
  span_same : (a b : ℕ) (f g : ℕ → S → S) (s : S) → ((k : ℕ) (t : S) → a ≤ k → k < b → f k t ≡ g k t) → span a b f s ≡ span a b g s
  unfolding span
  span_same a b f g s e = up_to-same (b - a) _ _ s (λ k t h. e (a + k) t (omega arith) (omega arith))

  span-shift : (k a b : ℕ) (f : ℕ → S → S) (s : S) → span a b (λ x. f (k + x)) s ≡ span (k + a) (k + b) f s
  unfolding span
  span-shift k a b f s =
      let e : b - a ≡ (k + b) - (k + a) = omega arith in
      ap (λ (n : ℕ). up_to n (λ (i : ℕ) (t : S). f (k + (a + i)) t) s) e
      ∙ up_to-same ((k + b) - (k + a)) _ _ s (λ i t h. ap (λ (n : ℕ). f n t) (onward i))
    where
      onward : (i : ℕ) → k + (a + i) ≡ k + a + i
      onward i = omega arith

-- ---- macroblocks x0 to x1 of a row, all of the slice whose record is r
module _ (c : ChromaOffsets) (t : List SliceRecord) (ns : List ℕ) (w : ℕ) (strengths : ℕ → ℕ) (qps t8s : List ℕ) (l : Layout) (r : SliceRecord) (row x0 x1 : ℕ) where
  abbrev g : Held
  g = held_in (sliced c t ns) w strengths qps t8s

  pub stretch-steps : x1 ≤ w → ((x : ℕ) → x0 ≤ x → x < x1 → slice_at t ns (row * w + x) ≡ r) → (p : Planes)
      → span x0 x1 (λ x. laid_mb (held_as w strengths qps t8s (offsets_with r c) (edges_by r ns w x row)) l x row) p ≡ span (row * w + x0) (row * w + x1) (laid_step g l) p
  stretch-steps h own p = span_same x0 x1 _ _ p (λ x q a b. at x q a b) ∙ span-shift (row * w) x0 x1 (laid_step g l) p
    where
      at : (x : ℕ) (q : Planes) → x0 ≤ x → x < x1 → laid_mb (held_as w strengths qps t8s (offsets_with r c) (edges_by r ns w x row)) l x row q ≡ laid_step g l (row * w + x) q
      at x q a b =
          laid-own (sliced c t ns) w strengths qps t8s x row (offsets_with r c) (edges_by r ns w x row)
          (subst (λ (d : SliceRecord). OwnSettings (sliced c t ns) w x row (offsets_with d c) (edges_by d ns w x row)) (own x a b) (own-sliced c t ns w x row)) l q
          ∙ sym (laid-index g l x row (omega arith) q)
