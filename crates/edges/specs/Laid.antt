-- Apart: no promise to a caller of the public calls rests on it. How the code goes about a field: it filters
-- the field's macroblocks where they lie in the frame's planes. That this is `on_part` are the laws
-- `mb-on-part` and `rows-on-part`.
use Rattle.std.specs.Prelude.{ℕ, ◌+◌, ◌*◌, ◌/◌, ◌%◌, ℤ}
use Rattle.laws.specs.Loop.{up_to, span}
use Rattle.laws.specs.Places.{Plane}
use Rattle.sizes.specs.declared.Part.{Part}
use Rattle.sizes.specs.declared.Part.TheVariants.{Frame, Field}
use Rattle.edges.specs.Macroblock.{luma_mb, chroma_mb}
use Rattle.edges.specs.Picture.{Planes, planes, Held, settings_at}
use Rattle.edges.specs.declared.plan.Layout.{Layout}
use Rattle.edges.specs.declared.plan.Window.{Window}

-- line r of the picture is line times * r + skip of the planes
abbrev pub layout_of : Part → Layout
layout_of Frame = record { times = 1; skip = 0 }
layout_of (Field p) = record { times = 2; skip = p }

-- where the picture's first line begins, and the way from a line to the next; n is the length of a line
abbrev pub base_of : Layout → ℕ → ℕ
base_of l n = l.skip * n

abbrev pub far_of : Layout → ℕ → ℕ
far_of l n = l.times * n

-- the first sample of macroblock (x, y), in a plane of N by N samples a macroblock
abbrev pub origin_in : ℕ → ℕ → ℕ → ℕ → ℕ → ℕ
origin_in base far N x y = base + N * y * far + N * x

abbrev pub window_of : Layout → ℕ → ℕ → ℕ → ℕ → Window
window_of l N w x y = record { origin = origin_in (base_of l (N * w)) (far_of l (N * w)) N x y; stride = far_of l (N * w) }

unfoldable pub luma_in : Held → ℕ → ℕ → ℕ → ℕ → Plane → Plane
luma_in g base far x y = luma_mb g.depth (settings_at g x y) (origin_in base far 16 x y) far

unfoldable pub chroma_in : Held → ℕ → ℕ → ℤ → ℕ → ℕ → Plane → Plane
chroma_in g base far offset x y = chroma_mb g.depth (settings_at g x y) offset (origin_in base far 8 x y) far

-- macroblock (x, y)
unfoldable pub laid_mb : Held → Layout → ℕ → ℕ → Planes → Planes
laid_mb g l x y s =
    planes (luma_in g (base_of l (16 * g.w)) (far_of l (16 * g.w)) x y s.luma)
    (chroma_in g (base_of l (8 * g.w)) (far_of l (8 * g.w)) g.u x y s.u)
    (chroma_in g (base_of l (8 * g.w)) (far_of l (8 * g.w)) g.v x y s.v)

-- .. by index, row by row; one row; rows a to b, of which b is not one
abbrev pub laid_step : Held → Layout → ℕ → Planes → Planes
laid_step g l i = laid_mb g l (i % g.w) (i / g.w)

unfoldable pub laid_row : Held → Layout → ℕ → Planes → Planes
laid_row g l y = up_to g.w (λ x. laid_mb g l x y)

unfoldable pub laid_rows : Held → Layout → ℕ → ℕ → Planes → Planes
laid_rows g l a b = span a b (laid_row g l)
