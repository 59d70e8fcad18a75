-- The two fields of a frame, visited in the order in which their macroblocks arrive: docs/RULES.md, "Fields".
-- Both are of one size; each has strengths, QPs, 8x8 flags, offsets or slices, and marks of its own, the
-- planes are the frame's.
use Rattle.std.specs.Prelude.{ℕ, cond, List, [], ◌∷◌, eqb}
use Rattle.edges.specs.Fields.{taken_out}
use Rattle.edges.specs.Picture.{Planes, step_of}
use Rattle.sizes.specs.declared.Part.TheVariants.{Field}
use Rattle.sizes.specs.declared.Size.{Size}
use Rattle.slices.specs.Slicing.{Slicing}
use Rattle.pictures.specs.Checks.{Lent, lent_by, held_of}
use Rattle.visits.specs.AnyOrder.{AnyOrderIn}
use Rattle.visits.specs.Checks.{early_in}
use Rattle.visits.specs.Promise.{visit_in}
use Rattle.visits.specs.Visit.{At, State, fresh, run, itself}

-- a request: the parity of its field, and the place there
abbrev pub Arrival : Type 0
Arrival = ℕ × At

-- the list without the requests to q
abbrev pub without : ℕ → List Arrival → List Arrival
without q [] = []
without q (r ∷ rs) = cond (eqb r.0 q) (without q rs) (r ∷ without q rs)

-- what is lent for one field, and only read
pub record OfField : Type 0 where
  pub slicing : Slicing
  pub strengths : List ℕ
  pub qps : List ℕ
  pub t8s : List ℕ

abbrev pub of_field_by : Slicing → List ℕ → List ℕ → List ℕ → OfField
of_field_by sl s q t = record { slicing = sl; strengths = s; qps = q; t8s = t }

-- the frame's planes, and the marks of the top field, of parity 0, and of the bottom field
pub record Both : Type 0 where
  pub frame : Planes
  pub top : List ℕ
  pub bottom : List ℕ

abbrev pub both : Planes → List ℕ → List ℕ → Both
both p t b = record { frame = p; top = t; bottom = b }

-- the marks, and below what is lent, for the field of parity p. A visit with a parity that no field has is
-- refused before any of it is looked at
abbrev pub marks_for : ℕ → Both → List ℕ
marks_for p u = cond (eqb p 0) u.top u.bottom

-- after a visit of the field of parity p: its marks are new, the other's stay
abbrev pub stored_for : ℕ → State Planes → Both → Both
stored_for p s u = both s.0 (cond (eqb p 0) s.1 u.top) (cond (eqb p 0) u.bottom s.1)

abbrev pub unvisited_both : Size → Planes → Both
unvisited_both size start = both start (fresh size.w size.h) (fresh size.w size.h)

module _ (size : Size) (top bottom : OfField) where
  abbrev pub lent_for : ℕ → Lent
  lent_for p = let f = cond (eqb p 0) top bottom in lent_by size f.slicing f.strengths f.qps f.t8s

  -- a visit of the field that the request names
  unfoldable pub both_visit : Both → Arrival → ℕ × Both
  both_visit u r =
      let o = visit_in (Field r.0) (lent_for r.0) (u.frame, marks_for r.0 u) r.1 in
      (o.0, stored_for r.0 o.1 u)

  -- the state that requests lead to from nothing visited
  abbrev pub both_after : Planes → List Arrival → Both
  both_after start rs = run both_visit rs (unvisited_both size start)

  -- demand 3 of the field of parity p: its lines are the picture, its marks the marks, its visits the visits;
  -- whatever the other field has
  abbrev pub FieldAnyOrder : ℕ → Planes → Both → Type 0
  FieldAnyOrder p start now =
      AnyOrderIn size.w size.h (λ (u : Both). taken_out size p u.frame) (marks_for p) (step_of (held_of (lent_for p)))
      (λ (u : Both) (r : At). early_in (Field p) (lent_for p) (u.frame, marks_for p u) r) itself
      (λ (u : Both) (r : At). both_visit u (p, r)) (taken_out size p start) now
