-- Rows as the code lays them out are their macroblocks, counted in one. Assumes nothing.
use mathlib.Core.Path.{◌≡◌, sym, ap, ◌∙◌}
use Prim.Native.Nat.{ℕ, ◌+◌, ◌-◌, ◌*◌, ◌≤◌, ◌<◌}
use native.Mathlib.Omega.{arith}
use lib.Arith.{digits_div, digits_mod}
use Rattle.laws.specs.Loop.{up_to, span}
use Rattle.laws.proofs.Loop.{up_to-same, up_to-flat}
use Rattle.edges.specs.Laid.{laid_mb, laid_step, laid_row, laid_rows}
use Rattle.edges.specs.Picture.{Planes, Held}
use Rattle.edges.specs.declared.plan.Layout.{Layout}

module _ (g : Held) (l : Layout) where
  pub laid-index : (x y : ℕ) → x < g.w → (p : Planes) → laid_step g l (y * g.w + x) p ≡ laid_mb g l x y p
  laid-index x y h p = λ i. laid_mb g l (digits_mod y h i) (digits_div y h i) p

  -- row a + r, by the places that it has among the rows from a on
  laid-row : (a r : ℕ) (p : Planes) → laid_row g l (a + r) p ≡ up_to g.w (λ x. laid_step g l (a * g.w + (r * g.w + x))) p
  unfolding laid_row
  laid-row a r p =
      up_to-same g.w _ _ p (λ x t h.
      let e : (a + r) * g.w + x ≡ a * g.w + (r * g.w + x) = omega arith in
      sym (laid-index x (a + r) h t) ∙ ap (λ (k : ℕ). laid_step g l k t) e)

  pub laid-rows-steps : (a b : ℕ) → a ≤ b → (p : Planes) → laid_rows g l a b p ≡ span (a * g.w) (b * g.w) (laid_step g l) p
  unfolding laid_rows span
  laid-rows-steps a b h p =
      let e : (b - a) * g.w ≡ b * g.w - a * g.w = far in
      up_to-same (b - a) _ _ p (λ r t k. laid-row a r t)
      ∙ up_to-flat (b - a) g.w (λ k. laid_step g l (a * g.w + k)) p
      ∙ ap (λ (n : ℕ). up_to n (λ (k : ℕ) (t : Planes). laid_step g l (a * g.w + k) t) p) e
    where
      far : (b - a) * g.w ≡ b * g.w - a * g.w
      far = let m : b ≡ a + (b - a) = omega arith in let n : b * g.w ≡ (a + (b - a)) * g.w = ap (λ (k : ℕ). k * g.w) m in omega arith
