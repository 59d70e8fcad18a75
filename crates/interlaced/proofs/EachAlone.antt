-- Each field of a frame is a part of it of its own: requests to it do what visits of the picture do, requests
-- to the other, and to no field, leave it. Assumes nothing.
use mathlib.Core.Path.{◌≡◌, refl, sym, ap, subst, ◌∙◌}
use mathlib.Core.Logic.{◌≢◌}
use mathlib.Core.Bool.{Bool, true, false, cond}
use Prim.Native.Nat.{ℕ, zero, suc, ◌*◌, ◌≤◌, ◌<◌}
use native.Mathlib.Omega.{arith}
use borrow.Author.Tests.{ne_eqb, ltb-false, lt-ltb}
use lib.Dec.{eqb}
use lib.ListN.{length}
use Rattle.edges.specs.Fields.{Lengths}
use Rattle.edges.specs.Picture.{Planes}
use Rattle.sizes.specs.Sizes.{bad_size, outside_of}
use Rattle.sizes.specs.declared.Part.TheVariants.{Field}
use Rattle.sizes.specs.declared.Size.{Size}
use Rattle.pictures.specs.Checks.{Lent}
use Rattle.visits.specs.Checks.{early_in}
use Rattle.visits.specs.Promise.{visit_in, visit_of}
use Rattle.visits.specs.Visit.{At, State, answer, visit}
use Rattle.visits.proofs.Outcome.{answer-early}
use Rattle.visits.proofs.VisitFits.{checked-visit-fits}
use Rattle.interlaced.specs.Alone.{Alone}
use Rattle.interlaced.specs.Both.{Arrival, OfField, Both, both, marks_for, stored_for, lent_for, both_visit}
use Rattle.interlaced.proofs.OneField.{as_picture, own-visit, own-says, lengths-stay, other-visit}

-- ---- a visit that no earlier check refuses has planes of the right lengths, and a parity that there is
module _ (d : Lent) (p : ℕ) (s : State Planes) (r : At) where
  pub early-lengths : early_in (Field p) d s r ≡ 0 → Lengths (2 * (d.size.w * d.size.h)) s.0
  unfolding early_in
  early-lengths e =
      let f = (checked-visit-fits (Field p) d (length s.0.luma) (length s.0.u) (length s.0.v) s.1 r e).fit in
      record { luma = f.luma; u = f.u; v = f.v }

  early-parity : early_in (Field p) d s r ≡ 0 → p < 2
  unfolding early_in
  early-parity e =
      let f = (checked-visit-fits (Field p) d (length s.0.luma) (length s.0.u) (length s.0.v) s.1 r e).fit in
      let k = ltb-false 1 p f.parity in
      omega arith

  -- 19 comes straight after 2, whatever else is lent
  pub bad-parity-19 : 2 ≤ p → bad_size d.size ≡ false → outside_of d.size r.0 r.1 ≡ false → early_in (Field p) d s r ≡ 19
  unfolding early_in
  bad-parity-19 l a b = rw (a, b, lt-ltb 1 p l)

  -- where an earlier check applies nothing changes
  pub refused-early : early_in (Field p) d s r ≢ 0 → visit_in (Field p) d s r ≡ (early_in (Field p) d s r, s)
  unfolding visit
  refused-early h =
      let a = answer-early d.size.w (early_in (Field p) d) s r h in
      let e : eqb (answer d.size.w (early_in (Field p) d) s r) 0 ≡ false = ne_eqb _ 0 (λ k. h (sym a ∙ k)) in
      let t : (visit_in (Field p) d s r).1 ≡ s = rw e in
      λ i. (a i, t i)

-- what is stored where nothing changed
pub stored_same : (p : ℕ) (u : Both) → stored_for p (u.frame, marks_for p u) u ≡ u
stored_same p u = go (eqb p 0)
  where
    go : (b : Bool) → both u.frame (cond b (cond b u.top u.bottom) u.top) (cond b u.bottom (cond b u.top u.bottom)) ≡ u
    go true = refl
    go false = refl

module _ (size : Size) (top bottom : OfField) where
  abbrev call : Both → Arrival → ℕ × Both
  call = both_visit size top bottom

  abbrev d : ℕ → Lent
  d = lent_for size top bottom

  -- a request to a field, by what its visit does
  pub refused-both : (u : Both) (p : ℕ) (r : At) → early_in (Field p) (d p) (u.frame, marks_for p u) r ≢ 0
      → call u (p, r) ≡ (early_in (Field p) (d p) (u.frame, marks_for p u) r, u)
  unfolding both_visit
  refused-both u p r h =
      let e = refused-early (d p) p (u.frame, marks_for p u) r h in
      λ i. ((e i).0, (ap (λ (o : ℕ × State Planes). stored_for p o.1 u) e ∙ stored_same p u) i)

  -- a request to no field changes nothing
  pub no_field : (u : Both) (p : ℕ) (r : At) → 2 ≤ p → (call u (p, r)).1 ≡ u
  no_field u p r h = ap (λ (o : ℕ × Both). o.1) (refused-both u p r (λ e. let k = early-parity (d p) p (u.frame, marks_for p u) r e in absurd (no k)))
    where
      no : p < 2 → ⊥
      no k = omega arith

  module _ (wide : 0 < size.w) where
    abbrev pub FrameLengths : Both → Type 0
    FrameLengths u = Lengths (2 * (size.w * size.h)) u.frame

    both-keeps : (u : Both) (r : Arrival) → FrameLengths u → FrameLengths (call u r).1
    unfolding both_visit
    both-keeps u (zero, r) v = lengths-stay (d 0) wide 0 (omega arith) (u.frame, u.top) v r
    both-keeps u (suc zero, r) v = lengths-stay (d 1) wide 1 (omega arith) (u.frame, u.bottom) v r
    both-keeps u (suc (suc p), r) v = subst FrameLengths (sym (no_field u (suc (suc p)) r (omega arith))) v

    -- the field of parity p as a picture of its own, with its marks
    abbrev pub field_in : ℕ → Both → State Planes
    field_in p u = as_picture size p (u.frame, marks_for p u)

    top-alone : Alone FrameLengths call 0 (field_in 0) (visit_of (d 0))
    unfolding both_visit
    top-alone = record {
      keeps = both-keeps;
      says = λ u r v. own-says (d 0) wide 0 (omega arith) (u.frame, u.top) v r;
      own = λ u r v. own-visit (d 0) wide 0 (omega arith) (u.frame, u.top) v r;
      other = left;
    }
      where
        left : (u : Both) (r : Arrival) → FrameLengths u → r.0 ≢ 0 → field_in 0 (call u r).1 ≡ field_in 0 u
        left u (zero, r) v n = absurd (n refl)
        left u (suc zero, r) v n = λ k. (other-visit (d 1) wide 1 (omega arith) (u.frame, u.bottom) v 0 (omega arith) (omega arith) r k, u.top)
        left u (suc (suc p), r) v n = ap (field_in 0) (no_field u (suc (suc p)) r (omega arith))

    bottom-alone : Alone FrameLengths call 1 (field_in 1) (visit_of (d 1))
    unfolding both_visit
    bottom-alone = record {
      keeps = both-keeps;
      says = λ u r v. own-says (d 1) wide 1 (omega arith) (u.frame, u.bottom) v r;
      own = λ u r v. own-visit (d 1) wide 1 (omega arith) (u.frame, u.bottom) v r;
      other = left;
    }
      where
        left : (u : Both) (r : Arrival) → FrameLengths u → r.0 ≢ 1 → field_in 1 (call u r).1 ≡ field_in 1 u
        left u (zero, r) v n = λ k. (other-visit (d 0) wide 0 (omega arith) (u.frame, u.top) v 1 (omega arith) (omega arith) r k, u.bottom)
        left u (suc zero, r) v n = absurd (n refl)
        left u (suc (suc p), r) v n = ap (field_in 1) (no_field u (suc (suc p)) r (omega arith))

    pub each-alone : (p : ℕ) → p < 2 → Alone FrameLengths call p (field_in p) (visit_of (d p))
    each-alone zero h = top-alone
    each-alone (suc zero) h = bottom-alone
    each-alone (suc (suc p)) h = absurd (no h)
      where
        no : suc (suc p) < 2 → ⊥
        no k = omega arith
