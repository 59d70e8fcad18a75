-- As before: for a picture of one slice what is held by macroblock is what the picture has, each edge inside
-- the picture is on, and so is each inner edge but luma's 1 and 3 with the 8x8 transform. Assumes nothing.
use mathlib.Core.Path.{◌≡◌, refl}
use mathlib.Core.Bool.{Bool, true, cond, not}
use mathlib.Core.List.{List}
use Prim.Native.Nat.{ℕ, ◌+◌, ◌*◌, ◌%◌}
use lib.Dec.{eqb, ltb}
use lib.IntN.{pos}
use Rattle.edges.specs.Macroblock.{after, outer_or, luma_on}
use Rattle.sizes.specs.Entries.{flag_at}
use Rattle.edges.specs.Alike.{held_by}
use Rattle.edges.specs.Picture.{entries, before_of, settings_at}
use Rattle.edges.specs.declared.Offsets.{Offsets}

module _ (w : ℕ) (strengths : ℕ → ℕ) (qps t8s : List ℕ) (o : Offsets) where
  pub plain-settings : (x y : ℕ) → let i = y * w + x in settings_at (held_by w strengths qps t8s o) x y
      ≡ record {
        left = ltb 0 x;
        top = ltb 0 y;
        inner = true;
        t8 = flag_at t8s i;
        qp = pos (entries qps i);
        qp_left = pos (entries qps (before_of (ltb 0 x) i 1));
        qp_above = pos (entries qps (before_of (ltb 0 y) i w));
        a = o.a;
        b = o.b;
        strengths = after (32 * i) strengths;
      }
  plain-settings x y = refl

  pub plain-offsets : ((held_by w strengths qps t8s o).u ≡ o.chroma_u) × ((held_by w strengths qps t8s o).v ≡ o.chroma_v)
  plain-offsets = (refl, refl)

pub plain-luma : (border t8 : Bool) (e : ℕ) → luma_on border true t8 e ≡ outer_or border (cond (eqb (e % 2) 0) true (not t8)) e
plain-luma border t8 e = refl
