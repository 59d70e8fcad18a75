-- Both fields finished: the frame is that of the two whole-field calls, in either order. Assumes nothing.
use mathlib.Core.Path.{◌≡◌, sym, ap, subst, ◌∙◌}
use mathlib.Core.Logic.{◌≢◌}
use Prim.Native.Nat.{ℕ, ◌*◌, ◌<◌}
use native.Mathlib.Decide.{ℕ_discrete}
use native.Mathlib.Omega.{arith}
use Rattle.fields.proofs.TwoFields.{two_fields}
use Rattle.edges.specs.Fields.{Lengths, taken_out, on_part}
use Rattle.edges.specs.Picture.{Planes, frame_of}
use Rattle.edges.proofs.OnPart.{lens, other-field, rows-lengths}
use Rattle.edges.proofs.Pictures.{rows_frame}
use Rattle.sizes.specs.declared.Part.TheVariants.{Field}
use Rattle.sizes.specs.declared.Size.{Size}
use Rattle.pictures.specs.Checks.{Lent, held_of}
use Rattle.pictures.specs.Rows.{WholeOutcome}
use Rattle.pictures.proofs.Left.{whole}
use Rattle.pictures.proofs.RowCalls.{answered-lengths}
use Rattle.visits.specs.AnyOrder.{AllVisited}
use Rattle.interlaced.specs.Both.{Arrival, OfField, marks_for, unvisited_both, lent_for, both_after}
use Rattle.interlaced.proofs.Apart.{all_valid}
use Rattle.interlaced.proofs.EachAlone.{each-alone}
use Rattle.interlaced.proofs.Finished.{field-whole}
use mathlib.Core.List.{List}

-- a frame is its two fields
frame_same : (size : Size) → 0 < size.w → (s t : Planes) → Lengths (2 * (size.w * size.h)) s → Lengths (2 * (size.w * size.h)) t
    → ((p : ℕ) → p < 2 → taken_out size p s ≡ taken_out size p t) → s ≡ t
frame_same size wide s t f g e = λ i. record {
  luma = two_fields (16 * size.w) (16 * size.h) (omega arith) s.luma t.luma (omega (arith, f.luma)) (omega (arith, g.luma)) (λ j. (a j).luma) (λ j. (b j).luma) i;
  u = two_fields (8 * size.w) (8 * size.h) (omega arith) s.u t.u (omega (arith, f.u)) (omega (arith, g.u)) (λ j. (a j).u) (λ j. (b j).u) i;
  v = two_fields (8 * size.w) (8 * size.h) (omega arith) s.v t.v (omega (arith, f.v)) (omega (arith, g.v)) (λ j. (a j).v) (λ j. (b j).v) i;
}
  where
    a : taken_out size 0 s ≡ taken_out size 0 t
    a = e 0 (omega arith)

    b : taken_out size 1 s ≡ taken_out size 1 t
    b = e 1 (omega arith)

-- there are two parities: what is not one of two different ones is the other
one_of : (p q r : ℕ) → p < 2 → q < 2 → p ≢ q → r < 2 → r ≢ q → r ≡ p
one_of p q r a b n c m = omega arith

module _ (size : Size) (top bottom : OfField) (wide : 0 < size.w) (start : Planes) where
  abbrev d : ℕ → Lent
  d = lent_for size top bottom

  abbrev n : ℕ
  n = size.w * size.h

  -- the field of parity p filtered whole, in a frame
  abbrev whole_field : ℕ → Planes → Planes
  whole_field p = on_part (Field p) size (frame_of (held_of (d p)) size.h)

  fits : (p : ℕ) (s : Planes) → Lengths n s → Lengths n (frame_of (held_of (d p)) size.h s)
  fits p s f = subst (Lengths n) (rows_frame (held_of (d p)) size.h s) (rows-lengths (held_of (d p)) n 0 size.h s f)

  taken-whole : (p : ℕ) → p < 2 → (s : Planes) → Lengths (2 * n) s → taken_out size p (whole_field p s) ≡ frame_of (held_of (d p)) size.h (taken_out size p s)
  taken-whole p h s f = let l = lens size p wide h in l.taken-put _ s f (fits p (taken_out size p s) (l.fits s f))

  -- one after the other, p first
  module _ (p q : ℕ) (hp : p < 2) (hq : q < 2) (apart : p ≢ q) (valid : Lengths (2 * n) start) where
    first : Lengths (2 * n) (whole_field p start)
    first = (lens size p wide hp).keeps _ start valid

    each : (r : ℕ) → r < 2 → taken_out size r (whole_field q (whole_field p start)) ≡ frame_of (held_of (d r)) size.h (taken_out size r start)
    each r hr = go (ℕ_discrete r q)
      where
        go : Dec (r ≡ q) → taken_out size r (whole_field q (whole_field p start)) ≡ frame_of (held_of (d r)) size.h (taken_out size r start)
        go (yes e) =
            subst (λ (k : ℕ). taken_out size k (whole_field q (whole_field p start)) ≡ frame_of (held_of (d k)) size.h (taken_out size k start)) (sym e)
            (taken-whole q hq (whole_field p start) first ∙ ap (frame_of (held_of (d q)) size.h) (other-field size p wide hp q hq (λ k. apart (sym k)) _ start))
        go (no m) =
            subst (λ (k : ℕ). taken_out size k (whole_field q (whole_field p start)) ≡ frame_of (held_of (d k)) size.h (taken_out size k start)) (sym (one_of p q r hp hq apart hr m))
            (other-field size q wide hq p hp apart _ (whole_field p start) ∙ taken-whole p hp start valid)

    pub both-wholes : (rs : List Arrival) → ((r : ℕ) → r < 2 → AllVisited size.w size.h (marks_for r (both_after size top bottom start rs)))
        → (both_after size top bottom start rs).frame ≡ whole_field q (whole_field p start)
    both-wholes rs all =
        frame_same size wide _ _ after ((lens size q wide hq).keeps _ (whole_field p start) first)
        (λ r hr. field-whole size top bottom wide start valid rs r hr (all r hr) ∙ sym (each r hr))
      where
        after : Lengths (2 * n) (both_after size top bottom start rs).frame
        after = all_valid (each-alone size top bottom wide 0 (omega arith)) rs (unvisited_both size start) valid

  -- the same of what two calls leave, each known by its contract: whichever field comes first
  pub both-whole : (p q : ℕ) → p < 2 → q < 2 → p ≢ q → {s t : Planes} → WholeOutcome (Field p) (d p) start 0 s → WholeOutcome (Field q) (d q) s 0 t
      → (rs : List Arrival) → ((r : ℕ) → r < 2 → AllVisited size.w size.h (marks_for r (both_after size top bottom start rs)))
      → (both_after size top bottom start rs).frame ≡ t
  both-whole p q hp hq apart {s} {t} a b rs all =
      both-wholes p q hp hq apart (answered-lengths (Field p) (d p) 0 size.h start (sym a.says)) rs all
      ∙ ap (whole_field q) (sym (whole (Field p) (d p) start s a))
      ∙ sym (whole (Field q) (d q) s t b)
