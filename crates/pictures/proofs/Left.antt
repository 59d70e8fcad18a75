-- What a row call leaves: where it is refused all as it was, a whole picture in raster order, planes of the
-- same lengths, bytes. Assumes nothing.
use mathlib.Core.Path.{◌≡◌, refl, sym, ap, subst, ◌∙◌}
use mathlib.Core.Bool.{Bool, cond}
use Prim.Native.Nat.{ℕ}
use borrow.Author.Tests.{ne_eqb}
use lib.Dec.{eqb}
use Rattle.laws.proofs.Cond.{cond_both}
use Rattle.edges.specs.Fields.{on_part}
use Rattle.edges.specs.Picture.{Planes, rows_of, frame_of}
use Rattle.edges.proofs.PartLaws.{on-part-sized, on-part-below}
use Rattle.sizes.specs.declared.Part.{Part}
use Rattle.edges.proofs.Pictures.{rows_frame, rows-sized, rows-below, SameLengths, Below}
use Rattle.pictures.specs.Checks.{Lent, held_of}
use Rattle.pictures.specs.Rows.{RowOutcome, WholeOutcome}

module _ (part : Part) (d : Lent) (p : Planes) where
  pub untouched : (a b n : ℕ) (p' : Planes) → (n ≡ 0 → ⊥) → RowOutcome part d a b p n p' → p' ≡ p
  untouched a b n p' h r = r.leaves ∙ ap (λ (t : Bool). cond t (on_part part d.size (rows_of (held_of d) a b) p) p) (ne_eqb n 0 h)

  pub whole : (p' : Planes) → WholeOutcome part d p 0 p' → p' ≡ on_part part d.size (frame_of (held_of d) d.size.h) p
  whole p' r = r.leaves ∙ (λ i. on_part part d.size (λ t. rows_frame (held_of d) d.size.h t i) p)

  pub lengths : (a b n : ℕ) (p' : Planes) → RowOutcome part d a b p n p' → SameLengths p p'
  lengths a b n p' r = subst (SameLengths p) (sym r.leaves) (cond_both (SameLengths p) (eqb n 0) (on-part-sized d.size (rows_of (held_of d) a b) p part (rows-sized (held_of d) p a b)) (record { luma = refl; u = refl; v = refl }))

  pub bytes : (a b n : ℕ) (p' : Planes) → Below 255 p → RowOutcome part d a b p n p' → Below 255 p'
  bytes a b n p' h r = subst (Below 255) (sym r.leaves) (cond_both (Below 255) (eqb n 0) (on-part-below d.size (rows_of (held_of d) a b) p 255 part (λ t. rows-below (held_of d) t a b) h) h)
