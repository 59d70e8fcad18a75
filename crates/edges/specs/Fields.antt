-- A field of a frame as a picture of its own: docs/RULES.md, "Fields". `size` is the field's, the planes are
-- the frame's, and p is the field's parity.
use Rattle.std.specs.Prelude.{ℕ, ◌*◌, ◌≡◌, length}
use Rattle.fields.specs.Lines.{field_of, woven}
use Rattle.sizes.specs.declared.Part.{Part}
use Rattle.sizes.specs.declared.Part.TheVariants.{Frame, Field}
use Rattle.sizes.specs.declared.Size.{Size}
use Rattle.edges.specs.Picture.{Planes, planes}

-- the planes hold n macroblocks
pub record Lengths (n : ℕ) (s : Planes) : Type 0 where
  pub luma : length s.luma ≡ 256 * n
  pub u : length s.u ≡ 64 * n
  pub v : length s.v ≡ 64 * n

-- the field taken out of the frame's planes, and put back into them
module _ (size : Size) (p : ℕ) where
  abbrev pub taken_out : Planes → Planes
  taken_out s =
      planes (field_of (16 * size.w) p (16 * size.h) s.luma) (field_of (8 * size.w) p (8 * size.h) s.u) (field_of (8 * size.w) p (8 * size.h) s.v)

  abbrev pub put_back : Planes → Planes → Planes
  put_back f s =
      planes (woven (16 * size.w) p (16 * size.h) f.luma s.luma) (woven (8 * size.w) p (8 * size.h) f.u s.u)
      (woven (8 * size.w) p (8 * size.h) f.v s.v)

-- what `filter` does to a picture, done to a part of a frame's planes. The lines of a field become what
-- `filter` makes of the picture that they are, and the other lines stay
abbrev pub on_part : Part → Size → (Planes → Planes) → Planes → Planes
on_part Frame size filter = filter
on_part (Field p) size filter = λ s. put_back size p (filter (taken_out size p s)) s
