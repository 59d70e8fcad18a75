-- A visit of a field of a frame is the visit of the picture that the field is, and leaves the other field.
-- Assumes nothing.
use mathlib.Core.Path.{◌≡◌, refl, ap, ◌∙◌}
use mathlib.Core.Logic.{◌≢◌}
use mathlib.Core.Bool.{Bool, true, false, cond}
use Prim.Native.Nat.{ℕ, ◌+◌, ◌*◌, ◌/◌, ◌%◌, ◌<◌}
use native.Mathlib.Omega.{arith}
use borrow.Author.Tests.{eq-eqb, le-ltb}
use lib.Dec.{eqb}
use lib.ListN.{set}
use Rattle.fields.specs.Lens.{Lens}
use Rattle.edges.specs.Fields.{Lengths, taken_out, put_back}
use Rattle.edges.specs.Picture.{Planes, step_of}
use Rattle.edges.proofs.OnPart.{lens, other-field, lengths-kept}
use Rattle.sizes.specs.declared.Part.TheVariants.{Frame, Field}
use Rattle.sizes.specs.declared.Size.{Size}
use Rattle.pictures.specs.Checks.{Lent, held_of}
use Rattle.visits.specs.Checks.{early_in}
use Rattle.visits.specs.Promise.{step_in, visit_in, visit_of, VisitOutcome}
use Rattle.visits.specs.Visit.{At, State, answer, serve, visit}
use Rattle.visits.proofs.Outcome.{outcome-is-visit, outcome-of-visit}

-- the field of parity p as a picture of its own, with its marks
abbrev pub as_picture : Size → ℕ → State Planes → State Planes
as_picture size p s = (taken_out size p s.0, s.1)

module _ (d : Lent) (wide : 0 < d.size.w) (p : ℕ) (parity : p < 2) (s : State Planes) (f : Lengths (2 * (d.size.w * d.size.h)) s.0) where
  abbrev w : ℕ
  w = d.size.w

  abbrev n : ℕ
  n = d.size.w * d.size.h

  l : Lens (Lengths (2 * n)) (Lengths n) (taken_out d.size p) (put_back d.size p)
  l = lens d.size p wide parity

  -- the checks of the field are those of the picture
  pub same-early : (r : At) → early_in (Field p) d s r ≡ early_in Frame d (as_picture d.size p s) r
  unfolding early_in
  same-early r =
      let t = l.fits s.0 f in
      rw (le-ltb 1 p (omega arith), eq-eqb _ _ f.luma, eq-eqb _ _ f.u, eq-eqb _ _ f.v, eq-eqb _ _ t.luma, eq-eqb _ _ t.u, eq-eqb _ _ t.v)

  same_answer : (r : At) → answer w (early_in (Field p) d) s r ≡ answer w (early_in Frame d) (as_picture d.size p s) r
  unfolding answer
  same_answer r = rw (same-early r)

  step-taken : (i : ℕ) → taken_out d.size p (step_in (Field p) d i s.0) ≡ step_of (held_of d) i (taken_out d.size p s.0)
  step-taken i = l.taken-put _ s.0 f (lengths-kept (held_of d) n (i % w) (i / w) (taken_out d.size p s.0) (l.fits s.0 f))

  served : (k : ℕ) (r : At) → as_picture d.size p (serve w (step_in (Field p) d) k s r) ≡ serve w (step_of (held_of d)) k (as_picture d.size p s) r
  served k r = go (eqb k 0)
    where
      i : ℕ
      i = r.1 * w + r.0

      go : (b : Bool) → as_picture d.size p (cond b (step_in (Field p) d i s.0, set s.1 i 1) s)
          ≡ cond b (step_of (held_of d) i (taken_out d.size p s.0), set s.1 i 1) (as_picture d.size p s)
      go true = λ k. (step-taken i k, set s.1 i 1)
      go false = refl

  pub own-visit : (r : At) → as_picture d.size p (visit_in (Field p) d s r).1 ≡ (visit_of d (as_picture d.size p s) r).1
  unfolding visit
  own-visit r =
      served (answer w (early_in (Field p) d) s r) r
      ∙ ap (λ (k : ℕ). serve w (step_of (held_of d)) k (as_picture d.size p s) r) (same_answer r)

  pub own-says : (r : At) → (visit_in (Field p) d s r).0 ≡ (visit_of d (as_picture d.size p s) r).0
  unfolding visit
  own-says r = same_answer r

  -- so whoever keeps the contract of a visit of the field keeps that of a visit of the picture
  pub as-picture : {r : At} {k : ℕ} {t : State Planes} → VisitOutcome (Field p) d s r k t → VisitOutcome Frame d (as_picture d.size p s) r k (as_picture d.size p t)
  as-picture {r} {k} {t} o =
      let e = outcome-is-visit o in
      let says : k ≡ (visit_of d (as_picture d.size p s) r).0 = e.0 ∙ own-says r in
      let leaves : as_picture d.size p t ≡ (visit_of d (as_picture d.size p s) r).1 = ap (as_picture d.size p) e.1 ∙ own-visit r in
      rw (says, leaves) outcome-of-visit

  pub lengths-stay : (r : At) → Lengths (2 * n) (visit_in (Field p) d s r).1.0
  unfolding visit
  lengths-stay r = go (eqb (answer w (early_in (Field p) d) s r) 0)
    where
      i : ℕ
      i = r.1 * w + r.0

      go : (b : Bool) → let t : State Planes = cond b (step_in (Field p) d i s.0, set s.1 i 1) s in Lengths (2 * n) t.0
      go true = l.keeps _ s.0 f
      go false = f

  pub other-visit : (q : ℕ) → q < 2 → q ≢ p → (r : At) → taken_out d.size q (visit_in (Field p) d s r).1.0 ≡ taken_out d.size q s.0
  unfolding visit
  other-visit q h k r = go (eqb (answer w (early_in (Field p) d) s r) 0)
    where
      i : ℕ
      i = r.1 * w + r.0

      go : (b : Bool) → let t : State Planes = cond b (step_in (Field p) d i s.0, set s.1 i 1) s in taken_out d.size q t.0 ≡ taken_out d.size q s.0
      go true = other-field d.size p wide parity q h k _ s.0
      go false = refl
