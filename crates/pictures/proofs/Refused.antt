-- Wrong calls that look right, each shown to break the promise on one grey macroblock; and that a field call
-- which touches a line of the other field breaks it. Assumes nothing.
use mathlib.Core.Path.{◌≡◌, refl, ap, ◌∙◌}
use mathlib.Core.Logic.{◌≢◌}
use mathlib.Core.Bool.{Bool, true, false, cond}
use Prim.Native.Nat.{ℕ, ◌<◌}
use native.Mathlib.Omega.{arith}
use lib.Dec.{eqb}
use lib.IntN.{pos}
use Rattle.laws.specs.Some.{some}
use Rattle.edges.specs.Fields.{taken_out, on_part}
use Rattle.edges.specs.Picture.{Planes, rows_of}
use Rattle.edges.proofs.OnPart.{other-field}
use Rattle.sizes.specs.declared.Part.TheVariants.{Frame, Field}
use Rattle.pictures.specs.Checks.{Lent, held_of, some_bad}
use Rattle.pictures.specs.Rows.{row_answer, RowOutcome, WholeOutcome}
use Rattle.pictures.proofs.Examples.{grey_lent, grey_with, grey, grey-served}

-- a filtering call that always refuses
pub rows-always-refuse : (n : ℕ) (p : Planes) → (n ≡ 0 → ⊥) → RowOutcome Frame (grey_lent 0 30) 0 1 grey n p → ⊥
rows-always-refuse n p h r = h (r.says ∙ grey-served)

-- 19 asked after 3; the lengths of one field taken for the frame's
pub parity-after-planes : (p : Planes) → RowOutcome (Field 2) (grey_lent 0 30) 0 1 grey 3 p → ⊥
unfolding row_answer some_bad some
parity-after-planes p r = let k : ◌≡◌ {A = ℕ} 3 19 = r.says in omega arith

pub field-of-single-lengths : (p : Planes) → RowOutcome (Field 0) (grey_lent 0 30) 0 1 grey 0 p → ⊥
unfolding row_answer some_bad some
field-of-single-lengths p r = let k : ◌≡◌ {A = ℕ} 0 3 = r.says in omega arith

-- the first row left out: QP 52 in it is not looked at
pub whole-from-row-1 : (p : Planes) → WholeOutcome Frame (grey_lent 0 52) grey (row_answer Frame (grey_lent 0 52) 1 1 grey) p → ⊥
unfolding row_answer some_bad some
whole-from-row-1 p r = let k : ◌≡◌ {A = ℕ} 0 8 = r.says in omega arith

-- V's chroma offset not asked: 13 would be served
pub second-offset-unasked : (p : Planes) → RowOutcome Frame (grey_with (pos 0) (pos 0) (pos 0) (pos 13)) 0 1 grey 0 p → ⊥
unfolding row_answer some_bad some
second-offset-unasked p r = let k : ◌≡◌ {A = ℕ} 0 6 = r.says in omega arith

-- a call on a field that touches a line of the other: q is the other's parity
pub rows-touch-other : (p q : ℕ) → p < 2 → q < 2 → q ≢ p → (d : Lent) (a b n : ℕ) (s s' : Planes) → 0 < d.size.w → taken_out d.size q s' ≢ taken_out d.size q s
    → RowOutcome (Field p) d a b s n s' → ⊥
rows-touch-other p q hp hq apart d a b n s s' wide h r = h (ap (taken_out d.size q) r.leaves ∙ go (eqb n 0))
  where
    go : (t : Bool) → taken_out d.size q (cond t (on_part (Field p) d.size (rows_of (held_of d) a b) s) s) ≡ taken_out d.size q s
    go true = other-field d.size p wide hp q hq apart _ s
    go false = refl
