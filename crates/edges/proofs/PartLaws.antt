-- Filters of a picture done to a part of the planes: they keep lengths and samples, follow each other, and do
-- nothing where they would do nothing to the picture. Assumes nothing.
use mathlib.Core.Path.{◌≡◌, refl, ap, ◌∙◌}
use mathlib.Core.Bool.{false}
use Prim.Native.Nat.{ℕ, ◌*◌, ◌<◌}
use native.Mathlib.Omega.{arith}
use borrow.Author.Tests.{ltb-false}
use Rattle.laws.proofs.Places.{puts-length, puts-gets, puts-within, gets-within, all-at, all_of}
use Rattle.fields.specs.Lines.{field_lines}
use Rattle.fields.proofs.Parts.{on-after}
use Rattle.sizes.specs.Sizes.{bad_parity, frame_of_part}
use Rattle.sizes.specs.declared.Part.{Part}
use Rattle.sizes.specs.declared.Part.TheVariants.{Frame, Field}
use Rattle.sizes.specs.declared.Size.{Size}
use Rattle.edges.specs.Fields.{Lengths, taken_out, put_back, on_part}
use Rattle.edges.specs.Picture.{Planes}
use Rattle.edges.proofs.OnPart.{lens}
use Rattle.edges.proofs.Pictures.{SameLengths, Below}

module _ (size : Size) (f : Planes → Planes) (s : Planes) where
  pub on-part-sized : (part : Part) → SameLengths s (f s) → SameLengths s (on_part part size f s)
  on-part-sized Frame k = k
  on-part-sized (Field p) k =
      let t = f (taken_out size p s) in
      record {
        luma = puts-length (field_lines (16 * size.w) p (16 * size.h)) t.luma s.luma;
        u = puts-length (field_lines (8 * size.w) p (8 * size.h)) t.u s.u;
        v = puts-length (field_lines (8 * size.w) p (8 * size.h)) t.v s.v;
      }

  pub on-part-below : (top : ℕ) (part : Part) → ((t : Planes) → Below top t → Below top (f t)) → Below top s → Below top (on_part part size f s)
  on-part-below top Frame k b = k s b
  on-part-below top (Field p) k b =
      let l = field_lines (16 * size.w) p (16 * size.h) in
      let m = field_lines (8 * size.w) p (8 * size.h) in
      let t = f (taken_out size p s) in
      let c = k (taken_out size p s) (record {
        luma = all-at top (taken_out size p s).luma (gets-within top l s.luma b.luma);
        u = all-at top (taken_out size p s).u (gets-within top m s.u b.u);
        v = all-at top (taken_out size p s).v (gets-within top m s.v b.v);
      }) in
      record {
        luma = puts-within top l t.luma s.luma (all_of top t.luma c.luma) b.luma;
        u = puts-within top m t.u s.u (all_of top t.u c.u) b.u;
        v = puts-within top m t.v s.v (all_of top t.v c.v) b.v;
      }

  pub on-part-still : (part : Part) → ((t : Planes) → f t ≡ t) → on_part part size f s ≡ s
  on-part-still Frame k = k s
  on-part-still (Field p) k = ap (λ (t : Planes). put_back size p t s) (k (taken_out size p s)) ∙ back
    where
      back : put_back size p (taken_out size p s) s ≡ s
      back = λ i. record {
        luma = puts-gets (field_lines (16 * size.w) p (16 * size.h)) s.luma i;
        u = puts-gets (field_lines (8 * size.w) p (8 * size.h)) s.u i;
        v = puts-gets (field_lines (8 * size.w) p (8 * size.h)) s.v i;
      }

-- one filter after the other, where both keep the lengths of a picture
pub on-part-after : (size : Size) (part : Part) → 0 < size.w → bad_parity part ≡ false → (g f : Planes → Planes)
    → ((t : Planes) → Lengths (size.w * size.h) t → Lengths (size.w * size.h) (g t)) → ((t : Planes) → Lengths (size.w * size.h) t → Lengths (size.w * size.h) (f t))
    → (s : Planes) → Lengths (frame_of_part part (size.w * size.h)) s → on_part part size g (on_part part size f s) ≡ on_part part size (λ t. g (f t)) s
on-part-after size Frame wide e g f kg kf s l = refl
on-part-after size (Field p) wide e g f kg kf s l =
    let parity = ltb-false 1 p e in
    let m = lens size p wide (omega arith) in
    let t = kf (taken_out size p s) (m.fits s l) in
    on-after m g f s l t (kg (f (taken_out size p s)) t)
