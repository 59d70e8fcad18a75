-- What a row call knows once its checks have passed, the ways out of it, and that its promise allows one
-- outcome only. Assumes nothing.
use Rattle.std.proofs.Common.{◌≡◌, ◌≢◌, ℕ, ◌+◌, ◌*◌, ◌≤◌, ◌<◌, Bool, false, cond, List, eqb, ltb, length, sym, ap, ◌∙◌, arith}
use native.Mathlib.Nat.{mul-le-mul_right, mul_comm}
use borrow.Author.Tests.{ltb-false, ne_eqb}
use Rattle.laws.specs.Refusal.{refusal}
use Rattle.laws.proofs.Bools.{or-false}
use Rattle.laws.proofs.Grid.{row_fits}
use Rattle.laws.proofs.Refusal.{passes}
use Rattle.edges.specs.Inner.{Room}
use Rattle.edges.specs.Fields.{Lengths, on_part}
use Rattle.edges.specs.Picture.{Planes, rows_of}
use Rattle.sizes.specs.Sizes.{frame_of_part}
use Rattle.sizes.specs.declared.Part.{Part}
use Rattle.pictures.specs.Checks.{Lent, held_of}
use Rattle.pictures.specs.Rows.{bad_range, row_checks, row_answer, RowOutcome}
use Rattle.pictures.specs.Inner.{GridsHold}
use Rattle.pictures.proofs.Fitting.{Fitting, fitting, grids-hold}

-- the rows lie in the picture
pub record RowsFit (part : Part) (d : Lent) (a b ly lu lv : ℕ) : Type 0 where
  pub fit : Fitting part d ly lu lv
  pub order : a ≤ b
  pub line : b ≤ d.size.h

module _ (part : Part) (d : Lent) (a b ly lu lv : ℕ) where
  -- checks 1, 2, 19, 3 and 4
  pub rows_fit : Fitting part d ly lu lv → bad_range d.size a b ≡ false → RowsFit part d a b ly lu lv
  rows_fit f e =
      let r = or-false (ltb b a) (ltb d.size.h b) e in
      record { fit = f; order = ltb-false b a r.0; line = ltb-false d.size.h b r.1 }

  pub checked-rows-fit : refusal (row_checks part d a b ly lu lv) ≡ 0 → RowsFit part d a b ly lu lv
  checked-rows-fit e = rows_fit (fitting part d ly lu lv (passes 1 cs tt e) (passes 19 cs tt e) (passes 3 cs tt e) (or-false _ _ (passes 4 cs tt e)).0) (passes 2 cs tt e)
    where
      cs : List (ℕ × Bool)
      cs = row_checks part d a b ly lu lv

  module _ (g : RowsFit part d a b ly lu lv) where
    pub room : Room (frame_of_part part (d.size.w * d.size.h)) (d.size.w * d.size.h) ly lu lv (length d.qps) (length d.t8s) (length d.strengths)
    room =
        let f = g.fit in
        record {
          luma = omega (arith, f.luma);
          u = omega (arith, f.u);
          v = omega (arith, f.v);
          qps = omega (arith, f.qps);
          t8s = λ h. omega (arith, f.t8s h);
          strengths = omega (arith, f.strengths);
        }

    -- row y is one of them
    module _ (y : ℕ) (h : y < b) where
      pub row-inside : y * d.size.w + d.size.w ≤ d.size.w * d.size.h
      row-inside = row_fits y d.size.w d.size.h (omega (arith, h, g.line))

      pub row-small : y * d.size.w + d.size.w ≤ 36864
      row-small = omega (arith, row-inside, g.fit.sides.most)

    pub ends : b * d.size.w ≤ d.size.w * d.size.h
    ends = let k = mul-le-mul_right d.size.w g.line in omega (arith, mul_comm d.size.w d.size.h)

module _ (part : Part) (d : Lent) (a b : ℕ) (p : Planes) where
  pub answered-rows-fit : row_answer part d a b p ≡ 0 → RowsFit part d a b (length p.luma) (length p.u) (length p.v)
  unfolding row_answer
  answered-rows-fit e = checked-rows-fit part d a b (length p.luma) (length p.u) (length p.v) e

  pub answered-grids : row_answer part d a b p ≡ 0 → (m : ℕ) → m ≤ d.size.w * d.size.h → GridsHold m d
  unfolding row_answer
  answered-grids e m h =
      grids-hold part d (length p.luma) (length p.u) (length p.v) m (checked-rows-fit part d a b (length p.luma) (length p.u) (length p.v) e).fit
      (or-false _ _ (or-false _ _ (passes 4 (row_checks part d a b (length p.luma) (length p.u) (length p.v)) tt e)).1).0 h

  -- the lengths that the checks found
  pub answered-lengths : row_answer part d a b p ≡ 0 → Lengths (frame_of_part part (d.size.w * d.size.h)) p
  answered-lengths e = let f = (answered-rows-fit e).fit in record { luma = f.luma; u = f.u; v = f.v }

  pub refused-rows : {n : ℕ} → n ≡ row_answer part d a b p → n ≢ 0 → RowOutcome part d a b p n p
  refused-rows {n} e h = record { says = e; leaves = rw (ne_eqb n 0 h) }

  pub done-rows : (p' : Planes) → row_answer part d a b p ≡ 0 → p' ≡ on_part part d.size (rows_of (held_of d) a b) p → RowOutcome part d a b p 0 p'
  done-rows p' e k = record { says = sym e; leaves = k }

  -- two outcomes that the promise allows are equal
  pub one-row-outcome : (n m : ℕ) (p₁ p₂ : Planes) → RowOutcome part d a b p n p₁ → RowOutcome part d a b p m p₂ → (n ≡ m) × (p₁ ≡ p₂)
  one-row-outcome n m p₁ p₂ s t =
      let e = s.says ∙ sym t.says in
      (e, s.leaves ∙ ap (λ (k : ℕ). cond (eqb k 0) (on_part part d.size (rows_of (held_of d) a b) p) p) e ∙ sym t.leaves)
