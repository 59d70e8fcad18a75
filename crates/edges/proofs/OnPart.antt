-- The code's way with a part of the planes is to filter it as a picture of its own, from a macroblock to
-- rows; and the two fields of a frame do not see each other. Assumes nothing.
use mathlib.Core.Path.{◌≡◌, refl, sym, ◌∙◌}
use mathlib.Core.Logic.{◌≢◌}
use mathlib.Core.Bool.{false}
use Prim.Native.Nat.{ℕ, ◌+◌, ◌-◌, ◌*◌, ◌≤◌, ◌<◌}
use native.Mathlib.Nat.{le_trans}
use native.Mathlib.Omega.{arith}
use borrow.Author.Tests.{ltb-false}
use lib.IntN.{ℤ}
use lib.ListN.{length}
use Rattle.laws.specs.Loop.{span}
use Rattle.laws.specs.Places.{Plane}
use Rattle.laws.proofs.Loop.{up_to-same, up_to-keeps}
use Rattle.laws.proofs.Places.{puts-gets}
use Rattle.fields.specs.Lens.{Lens}
use Rattle.fields.specs.Lines.{field_lines, field_of, woven}
use Rattle.fields.proofs.Views.{puts-puts}
use Rattle.fields.proofs.Carrying.{carried-is}
use Rattle.fields.proofs.Parts.{on-up_to, on-span}
use Rattle.fields.proofs.TwoFields.{lines-length, field-view, field-length, taken-put, put-length, other-stays}
use Rattle.sizes.specs.Sizes.{bad_parity, frame_of_part}
use Rattle.sizes.specs.declared.Part.{Part}
use Rattle.sizes.specs.declared.Part.TheVariants.{Frame, Field}
use Rattle.sizes.specs.declared.Size.{Size}
use Rattle.edges.specs.Fields.{Lengths, taken_out, put_back, on_part}
use Rattle.edges.specs.Laid.{layout_of, luma_in, chroma_in, laid_mb, laid_row, laid_rows}
use Rattle.edges.specs.Picture.{Planes, Held, luma_of, chroma_of, macroblock_at, row_of, rows_of}
use Rattle.edges.proofs.FieldMacroblocks.{luma-carried, chroma-carried, frame-luma, frame-chroma}
use Rattle.edges.proofs.Pictures.{macroblock-sized, rows-keep}

-- ---- one plane of 2 * k lines of n samples
again : (n k p : ℕ) → 0 < n → p < 2 → (a b s : Plane) → length s ≡ 2 * (k * n) → length a ≡ k * n → length b ≡ k * n → woven n p k a (woven n p k b s) ≡ woven n p k a s
again n k p wide parity a b s e la lb =
    let l = lines-length (p * n) (2 * n) n k in
    puts-puts (field_lines n p k) a b s (field-view n k wide p (length s) parity (omega arith)) (la ∙ sym l) (lb ∙ sym l)

-- ---- the three planes of a frame; w and h are one field's
module _ (size : Size) (p : ℕ) (wide : 0 < size.w) (parity : p < 2) where
  abbrev w : ℕ
  w = size.w

  abbrev h : ℕ
  h = size.h

  wide16 : 0 < 16 * w
  wide16 = omega arith

  wide8 : 0 < 8 * w
  wide8 = omega arith

  pub lens : Lens (Lengths (2 * (w * h))) (Lengths (w * h)) (taken_out size p) (put_back size p)
  lens = record {
    fits = λ s f. record {
      luma = field-length (16 * w) (16 * h) wide16 p s.luma ∙ omega arith;
      u = field-length (8 * w) (8 * h) wide8 p s.u ∙ omega arith;
      v = field-length (8 * w) (8 * h) wide8 p s.v ∙ omega arith;
    };
    keeps = λ a s f. record {
      luma = put-length (16 * w) (16 * h) wide16 p a.luma s.luma ∙ f.luma;
      u = put-length (8 * w) (8 * h) wide8 p a.u s.u ∙ f.u;
      v = put-length (8 * w) (8 * h) wide8 p a.v s.v ∙ f.v;
    };
    taken-put = λ a s f g. λ i. record {
      luma = taken-put (16 * w) (16 * h) wide16 p a.luma s.luma parity (omega (arith, f.luma)) (omega (arith, g.luma)) i;
      u = taken-put (8 * w) (8 * h) wide8 p a.u s.u parity (omega (arith, f.u)) (omega (arith, g.u)) i;
      v = taken-put (8 * w) (8 * h) wide8 p a.v s.v parity (omega (arith, f.v)) (omega (arith, g.v)) i;
    };
    put-taken = λ s. λ i. record {
      luma = puts-gets (field_lines (16 * w) p (16 * h)) s.luma i;
      u = puts-gets (field_lines (8 * w) p (8 * h)) s.u i;
      v = puts-gets (field_lines (8 * w) p (8 * h)) s.v i;
    };
    put-put = λ a b s f g k. λ i. record {
      luma = again (16 * w) (16 * h) p wide16 parity a.luma b.luma s.luma (omega (arith, f.luma)) (omega (arith, g.luma)) (omega (arith, k.luma)) i;
      u = again (8 * w) (8 * h) p wide8 parity a.u b.u s.u (omega (arith, f.u)) (omega (arith, g.u)) (omega (arith, k.u)) i;
      v = again (8 * w) (8 * h) p wide8 parity a.v b.v s.v (omega (arith, f.v)) (omega (arith, g.v)) (omega (arith, k.v)) i;
    };
  }

  -- the other field does not see it
  pub other-field : (q : ℕ) → q < 2 → q ≢ p → (a s : Planes) → taken_out size q (put_back size p a s) ≡ taken_out size q s
  other-field q l d a s = λ i. record {
    luma = other-stays (16 * w) (16 * h) wide16 p q parity l d a.luma s.luma i;
    u = other-stays (8 * w) (8 * h) wide8 p q parity l d a.u s.u i;
    v = other-stays (8 * w) (8 * h) wide8 p q parity l d a.v s.v i;
  }

-- ---- filtering
module _ (g : Held) (n : ℕ) where
  pub lengths-kept : (x y : ℕ) (s : Planes) → Lengths n s → Lengths n (macroblock_at g x y s)
  lengths-kept x y s f =
      let k = macroblock-sized g x y s s (record { luma = refl; u = refl; v = refl }) in
      record { luma = k.luma ∙ f.luma; u = k.u ∙ f.u; v = k.v ∙ f.v }

  row_kept : (y : ℕ) (s : Planes) → Lengths n s → Lengths n (row_of g y s)
  unfolding row_of
  row_kept y s f = up_to-keeps (Lengths n) g.w _ s (λ x t l. lengths-kept x y t) f

  pub rows-lengths : (a b : ℕ) (s : Planes) → Lengths n s → Lengths n (rows_of g a b s)
  rows-lengths a b s f = rows-keep g (Lengths n) lengths-kept a b s f

-- a frame is as before
module _ (g : Held) where
  pub laid-frame : (x y : ℕ) (s : Planes) → laid_mb g (layout_of Frame) x y s ≡ macroblock_at g x y s
  unfolding laid_mb macroblock_at
  laid-frame x y s =
      let z : 0 * (16 * g.w) ≡ 0 = omega arith in
      let o : 1 * (16 * g.w) ≡ 16 * g.w = omega arith in
      let z' : 0 * (8 * g.w) ≡ 0 = omega arith in
      let o' : 1 * (8 * g.w) ≡ 8 * g.w = omega arith in
      λ i. record {
        luma = ((λ j. luma_in g (z j) (o j) x y s.luma) ∙ frame-luma g x y s.luma) i;
        u = ((λ j. chroma_in g (z' j) (o' j) g.u x y s.u) ∙ frame-chroma g g.u x y s.u) i;
        v = ((λ j. chroma_in g (z' j) (o' j) g.v x y s.v) ∙ frame-chroma g g.v x y s.v) i;
      }

  laid-frame-row : (y : ℕ) (s : Planes) → laid_row g (layout_of Frame) y s ≡ row_of g y s
  unfolding laid_row row_of
  laid-frame-row y s = up_to-same g.w _ _ s (λ x t l. laid-frame x y t)

  laid-frame-rows : (a b : ℕ) (s : Planes) → laid_rows g (layout_of Frame) a b s ≡ rows_of g a b s
  unfolding laid_rows rows_of span
  laid-frame-rows a b s = up_to-same (b - a) _ _ s (λ r t l. laid-frame-row (a + r) t)

module _ (g : Held) (h p : ℕ) (wide : 0 < g.w) (parity : p < 2) where
  abbrev size' : Size
  size' = record { w = g.w; h = h }

  laid-field : (x y : ℕ) → x < g.w → y < h → (s : Planes) → Lengths (2 * (g.w * h)) s → laid_mb g (layout_of (Field p)) x y s ≡ on_part (Field p) size' (macroblock_at g x y) s
  unfolding laid_mb macroblock_at
  laid-field x y column row s f = λ i. record { luma = luma i; u = chroma g.u s.u f.u i; v = chroma g.v s.v f.v i }
    where
      luma : luma_in g (p * (16 * g.w)) (2 * (16 * g.w)) x y s.luma ≡ woven (16 * g.w) p (16 * h) (luma_of g x y (field_of (16 * g.w) p (16 * h) s.luma)) s.luma
      luma =
          let v = field-view (16 * g.w) (16 * h) (omega arith) p (2 * (16 * h * (16 * g.w))) parity (omega arith) in
          carried-is (2 * (16 * h * (16 * g.w))) (field_lines (16 * g.w) p (16 * h)) v (luma_of g x y) (luma_in g (p * (16 * g.w)) (2 * (16 * g.w)) x y)
          (luma-carried g (p * (16 * g.w)) (2 * (16 * g.w)) h x y (2 * (16 * h * (16 * g.w))) column row v) s.luma (omega (arith, f.luma))

      chroma : (offset : ℤ) (t : Plane) → length t ≡ 64 * (2 * (g.w * h))
          → chroma_in g (p * (8 * g.w)) (2 * (8 * g.w)) offset x y t ≡ woven (8 * g.w) p (8 * h) (chroma_of g offset x y (field_of (8 * g.w) p (8 * h) t)) t
      chroma offset t e =
          let v = field-view (8 * g.w) (8 * h) (omega arith) p (2 * (8 * h * (8 * g.w))) parity (omega arith) in
          carried-is (2 * (8 * h * (8 * g.w))) (field_lines (8 * g.w) p (8 * h)) v (chroma_of g offset x y) (chroma_in g (p * (8 * g.w)) (2 * (8 * g.w)) offset x y)
          (chroma-carried g (p * (8 * g.w)) (2 * (8 * g.w)) h x y (2 * (8 * h * (8 * g.w))) column row offset v) t (omega (arith, e))

  laid-field-row : (y : ℕ) → y < h → (s : Planes) → Lengths (2 * (g.w * h)) s → laid_row g (layout_of (Field p)) y s ≡ on_part (Field p) size' (row_of g y) s
  unfolding laid_row row_of
  laid-field-row y row s f =
      on-up_to (lens size' p wide parity) g.w _ _ (λ x t. lengths-kept g (g.w * h) x y t) (λ x b t k. laid-field x y b row t k) s f

  laid-field-rows : (a b : ℕ) → b ≤ h → (s : Planes) → Lengths (2 * (g.w * h)) s → laid_rows g (layout_of (Field p)) a b s ≡ on_part (Field p) size' (rows_of g a b) s
  unfolding laid_rows rows_of
  laid-field-rows a b l s f =
      on-span (lens size' p wide parity) a b _ _ (λ y t. row_kept g (g.w * h) y t) (λ y k t v. laid-field-row y (le_trans k l) t v) s f

-- ---- for every part
module _ (g : Held) (h : ℕ) (wide : 0 < g.w) where
  abbrev size : Size
  size = record { w = g.w; h = h }

  pub mb-on-part : (part : Part) → bad_parity part ≡ false → (x y : ℕ) → x < g.w → y < h → (s : Planes) → Lengths (frame_of_part part (g.w * h)) s
      → laid_mb g (layout_of part) x y s ≡ on_part part size (macroblock_at g x y) s
  mb-on-part Frame e x y column row s f = laid-frame g x y s
  mb-on-part (Field p) e x y column row s f = let k = ltb-false 1 p e in laid-field g h p wide (omega arith) x y column row s f

  pub rows-on-part : (part : Part) → bad_parity part ≡ false → (a b : ℕ) → b ≤ h → (s : Planes) → Lengths (frame_of_part part (g.w * h)) s
      → laid_rows g (layout_of part) a b s ≡ on_part part size (rows_of g a b) s
  rows-on-part Frame e a b l s f = laid-frame-rows g a b s
  rows-on-part (Field p) e a b l s f = let k = ltb-false 1 p e in laid-field-rows g h p wide (omega arith) a b l s f
