-- A row call on a field of a frame is the row call on the picture that the field is: it sees nothing of the
-- other field. Assumes nothing.
use mathlib.Core.Path.{◌≡◌, refl, ap, ◌∙◌}
use mathlib.Core.Bool.{Bool, true, false, cond}
use Prim.Native.Nat.{ℕ, ◌*◌, ◌<◌}
use native.Mathlib.Omega.{arith}
use borrow.Author.Tests.{eq-eqb, le-ltb}
use lib.Dec.{eqb}
use Rattle.edges.specs.Fields.{Lengths, taken_out, on_part}
use Rattle.edges.specs.Picture.{Planes, rows_of}
use Rattle.edges.proofs.OnPart.{lens, rows-lengths}
use Rattle.sizes.specs.declared.Part.TheVariants.{Frame, Field}
use Rattle.pictures.specs.Checks.{Lent, held_of}
use Rattle.pictures.specs.Rows.{row_answer, RowOutcome}

module _ (d : Lent) (wide : 0 < d.size.w) (p : ℕ) (parity : p < 2) (a b : ℕ) (s : Planes) (f : Lengths (2 * (d.size.w * d.size.h)) s) where
  same-row-answer : row_answer (Field p) d a b s ≡ row_answer Frame d a b (taken_out d.size p s)
  unfolding row_answer
  same-row-answer =
      let t = (lens d.size p wide parity).fits s f in
      rw (le-ltb 1 p (omega arith), eq-eqb _ _ f.luma, eq-eqb _ _ f.u, eq-eqb _ _ f.v, eq-eqb _ _ t.luma, eq-eqb _ _ t.u, eq-eqb _ _ t.v)

  pub rows-as-picture : {n : ℕ} {s' : Planes} → RowOutcome (Field p) d a b s n s' → RowOutcome Frame d a b (taken_out d.size p s) n (taken_out d.size p s')
  rows-as-picture {n} r = record { says = r.says ∙ same-row-answer; leaves = ap (taken_out d.size p) r.leaves ∙ go (eqb n 0) }
    where
      go : (t : Bool) → taken_out d.size p (cond t (on_part (Field p) d.size (rows_of (held_of d) a b) s) s)
          ≡ cond t (rows_of (held_of d) a b (taken_out d.size p s)) (taken_out d.size p s)
      go true =
          let l = lens d.size p wide parity in
          l.taken-put _ s f (rows-lengths (held_of d) (d.size.w * d.size.h) a b (taken_out d.size p s) (l.fits s f))
      go false = refl
