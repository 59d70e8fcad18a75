-- What the code takes for a macroblock by value are its settings, and it is filtered by them as by all that
-- is held. Assumes nothing.
use mathlib.Core.Path.{◌≡◌, refl}
use mathlib.Core.Bool.{Bool, true, false, ◌&&◌}
use mathlib.Core.List.{List}
use Prim.Native.Nat.{ℕ, ◌+◌, ◌*◌}
use lib.Dec.{ltb}
use lib.IntN.{pos}
use Rattle.lines.specs.Depth.{eight}
use Rattle.sizes.specs.Entries.{flag_at}
use Rattle.edges.specs.Alike.{held_as, every_edge}
use Rattle.edges.specs.Laid.{base_of, far_of, origin_in, luma_in, chroma_in, laid_mb}
use Rattle.edges.specs.Macroblock.{after, luma_mb, chroma_mb}
use Rattle.edges.specs.Picture.{Planes, planes, entries, before_of, settings_at}
use Rattle.edges.specs.declared.EdgesOn.{EdgesOn}
use Rattle.edges.specs.declared.Offsets.{Offsets}
use Rattle.edges.specs.declared.plan.Layout.{Layout}
use Rattle.slices.specs.Inner.{offsets_with, edges_by, OwnSettings}
use Rattle.slices.specs.Slicing.{Slicing, single, sliced, slice_at, held_in}
use Rattle.slices.specs.declared.ChromaOffsets.{ChromaOffsets}
use Rattle.slices.specs.declared.SliceRecord.{SliceRecord}

guarded-again : (there b : Bool) → ((there && b) && there) ≡ (b && there)
guarded-again true true = refl
guarded-again true false = refl
guarded-again false true = refl
guarded-again false false = refl

-- of a picture of one slice, and of one of many
pub own-single : (o : Offsets) (w x y : ℕ) → OwnSettings (single o) w x y o every_edge
own-single o w x y = record { a = refl; b = refl; u = refl; v = refl; left = refl; top = refl; inner = refl }

pub own-sliced : (c : ChromaOffsets) (t : List SliceRecord) (ns : List ℕ) (w x y : ℕ) → let r = slice_at t ns (y * w + x) in
    OwnSettings (sliced c t ns) w x y (offsets_with r c) (edges_by r ns w x y)
own-sliced c t ns w x y = record {
  a = refl;
  b = refl;
  u = refl;
  v = refl;
  left = guarded-again (ltb 0 x) _;
  top = guarded-again (ltb 0 y) _;
  inner = refl;
}

-- the macroblock that they make
module _ (sl : Slicing) (w : ℕ) (strengths : ℕ → ℕ) (qps t8s : List ℕ) (x y : ℕ) (o : Offsets) (on : EdgesOn) (own : OwnSettings sl w x y o on) where
  abbrev i : ℕ
  i = y * w + x

  own-settings : settings_at (held_as w strengths qps t8s o on) x y ≡ settings_at (held_in sl w strengths qps t8s) x y
  own-settings = λ j. record {
    left = own.left j;
    top = own.top j;
    inner = own.inner j;
    t8 = flag_at t8s i;
    qp = pos (entries qps i);
    qp_left = pos (entries qps (before_of (ltb 0 x) i 1));
    qp_above = pos (entries qps (before_of (ltb 0 y) i w));
    a = own.a j;
    b = own.b j;
    strengths = after (32 * i) strengths;
  }

  pub laid-own : (l : Layout) (p : Planes) → laid_mb (held_as w strengths qps t8s o on) l x y p ≡ laid_mb (held_in sl w strengths qps t8s) l x y p
  unfolding laid_mb luma_in chroma_in
  laid-own l p = λ j.
      planes (luma_mb eight (own-settings j) (origin_in (base_of l (16 * w)) (far_of l (16 * w)) 16 x y) (far_of l (16 * w)) p.luma)
      (chroma_mb eight (own-settings j) (own.u j) (origin_in (base_of l (8 * w)) (far_of l (8 * w)) 8 x y) (far_of l (8 * w)) p.u)
      (chroma_mb eight (own-settings j) (own.v j) (origin_in (base_of l (8 * w)) (far_of l (8 * w)) 8 x y) (far_of l (8 * w)) p.v)
