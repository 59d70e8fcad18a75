-- What else holds of two fields: they do not see each other, some visit of a field that is not finished is
-- done, and a finished one is filtered whole. Assumes nothing.
use mathlib.Core.Path.{◌≡◌, refl, sym, ap, subst, ◌∙◌}
use mathlib.Core.Logic.{◌⊎◌, inl, inr, ◌≢◌}
use mathlib.Core.Bool.{true}
use mathlib.Core.List.{List}
use Prim.Native.Nat.{ℕ, ◌*◌, ◌<◌}
use native.Mathlib.Omega.{arith}
use Rattle.edges.specs.Fields.{Lengths, taken_out}
use Rattle.edges.specs.Picture.{Planes, frame_of}
use Rattle.edges.proofs.OnPart.{lens}
use Rattle.sizes.specs.declared.Size.{Size}
use Rattle.motion.specs.Grids.{Grids}
use Rattle.pictures.specs.Checks.{Lent, held_of}
use Rattle.pictures.specs.Standard.{Derived, picture_of}
use Rattle.visits.specs.AnyOrder.{AllVisited}
use Rattle.visits.specs.Checks.{Sound}
use Rattle.visits.specs.Promise.{visit_of}
use Rattle.visits.specs.Visit.{State, fresh, run, answers}
use Rattle.visits.proofs.Demand3.{never_stuck, same-as-whole, visited-from-grids}
use Rattle.interlaced.specs.Alone.{only, said_to}
use Rattle.interlaced.specs.Both.{Arrival, without, OfField, Both, marks_for, unvisited_both, lent_for, both_visit, both_after}
use Rattle.interlaced.proofs.Apart.{all_valid, only-without}
use Rattle.interlaced.proofs.EachAlone.{FrameLengths, field_in, each-alone}
use Rattle.interlaced.proofs.FieldsDemand3.{field-run, field-answers, stays, dec_lengths}

-- ---- what one field comes to rests on what it is lent, its lines and its requests alone: all else may
-- differ
pub unseen-field : (size : Size) (wide : 0 < size.w) (top bottom top' bottom' : OfField) (start start' : Planes)
    → Lengths (2 * (size.w * size.h)) start → Lengths (2 * (size.w * size.h)) start' → (rs rs' : List Arrival) (p : ℕ) → p < 2
    → lent_for size top bottom p ≡ lent_for size top' bottom' p → taken_out size p start ≡ taken_out size p start' → only p rs ≡ only p rs'
    → (taken_out size p (both_after size top bottom start rs).frame ≡ taken_out size p (both_after size top' bottom' start' rs').frame)
    × (marks_for p (both_after size top bottom start rs) ≡ marks_for p (both_after size top' bottom' start' rs'))
    × (said_to p rs (answers (both_visit size top bottom) rs (unvisited_both size start)) ≡ said_to p rs' (answers (both_visit size top' bottom') rs' (unvisited_both size start')))
unseen-field size wide top bottom top' bottom' start start' v v' rs rs' p h e f g = (ap (λ (s : State Planes). s.0) k, ap (λ (s : State Planes). s.1) k, a)
  where
    k : field_in size top bottom wide p (both_after size top bottom start rs) ≡ field_in size top' bottom' wide p (both_after size top' bottom' start' rs')
    k =
        field-run size top bottom wide start v p h rs
        ∙ (λ i. run (visit_of (e i)) (g i) (f i, fresh size.w size.h))
        ∙ sym (field-run size top' bottom' wide start' v' p h rs')

    a : said_to p rs (answers (both_visit size top bottom) rs (unvisited_both size start)) ≡ said_to p rs' (answers (both_visit size top' bottom') rs' (unvisited_both size start'))
    a =
        field-answers size top bottom wide start v p h rs
        ∙ (λ i. answers (visit_of (e i)) (g i) (f i, fresh size.w size.h))
        ∙ sym (field-answers size top' bottom' wide start' v' p h rs')

module _ (size : Size) (top bottom : OfField) (wide : 0 < size.w) where
  abbrev d : ℕ → Lent
  d = lent_for size top bottom

  abbrev after : Planes → List Arrival → Both
  after = both_after size top bottom

  -- so leaving out all requests to one field changes nothing on the other's lines and marks, whatever the
  -- planes
  pub left_out : (start : Planes) (rs : List Arrival) (p q : ℕ) → p < 2 → p ≢ q
      → (taken_out size p (after start rs).frame ≡ taken_out size p (after start (without q rs)).frame) × (marks_for p (after start rs) ≡ marks_for p (after start (without q rs)))
  left_out start rs p q h n = go (dec_lengths (2 * (size.w * size.h)) start)
    where
      go : Dec (Lengths (2 * (size.w * size.h)) start)
          → (taken_out size p (after start rs).frame ≡ taken_out size p (after start (without q rs)).frame) × (marks_for p (after start rs) ≡ marks_for p (after start (without q rs)))
      go (yes v) = let k = unseen-field size wide top bottom top bottom start start v v rs (without q rs) p h refl refl (sym (only-without p q n rs)) in (k.0, k.1)
      go (no w) =
          let e = stays size top bottom wide start w rs ∙ sym (stays size top bottom wide start w (without q rs)) in
          (ap (λ (u : Both). taken_out size p u.frame) e, ap (marks_for p) e)

  module _ (start : Planes) (valid : Lengths (2 * (size.w * size.h)) start) (rs : List Arrival) where
    lengths-after : FrameLengths size top bottom wide (after start rs)
    lengths-after = all_valid (each-alone size top bottom wide 0 (omega arith)) rs (unvisited_both size start) valid

    -- "while one is unvisited, some visit is ready": with valid data of the field it answers 0
    pub field-never-stuck : (p : ℕ) → p < 2 → Sound (d p)
        → AllVisited size.w size.h (marks_for p (after start rs))
        ⊎ ((x : ℕ) × (y : ℕ) × (x < size.w) × (y < size.h) × ((both_visit size top bottom (after start rs) (p, (x, y))).0 ≡ 0))
    field-never-stuck p h v = go (never_stuck (d p) wide v (taken_out size p start) ((lens size p wide h).fits start valid) (only p rs))
      where
        e : field_in size top bottom wide p (after start rs) ≡ run (visit_of (d p)) (only p rs) (taken_out size p start, fresh size.w size.h)
        e = field-run size top bottom wide start valid p h rs

        now : State Planes
        now = run (visit_of (d p)) (only p rs) (taken_out size p start, fresh size.w size.h)

        go : AllVisited size.w size.h now.1 ⊎ ((x : ℕ) × (y : ℕ) × (x < size.w) × (y < size.h) × ((visit_of (d p) now (x, y)).0 ≡ 0))
            → AllVisited size.w size.h (marks_for p (after start rs))
            ⊎ ((x : ℕ) × (y : ℕ) × (x < size.w) × (y < size.h) × ((both_visit size top bottom (after start rs) (p, (x, y))).0 ≡ 0))
        go (inl a) = inl (subst (λ (s : State Planes). AllVisited size.w size.h s.1) (sym e) a)
        go (inr (x, y, a, b, z)) =
            inr (x, y, a, b, (each-alone size top bottom wide p h).says (after start rs) (x, y) lengths-after ∙ ap (λ (s : State Planes). (visit_of (d p) s (x, y)).0) e ∙ z)

    -- all of a field visited: its lines are what filtering it whole gives, and with strengths that were
    -- derived from its grids the standard's picture straight from these
    pub field-whole : (p : ℕ) → p < 2 → AllVisited size.w size.h (marks_for p (after start rs))
        → taken_out size p (after start rs).frame ≡ frame_of (held_of (d p)) size.h (taken_out size p start)
    field-whole p h all =
        ap (λ (s : State Planes). s.0) e
        ∙ same-as-whole (d p) wide (taken_out size p start) (only p rs) (subst (λ (s : State Planes). AllVisited size.w size.h s.1) e all)
      where
        e : field_in size top bottom wide p (after start rs) ≡ run (visit_of (d p)) (only p rs) (taken_out size p start, fresh size.w size.h)
        e = field-run size top bottom wide start valid p h rs

    pub field-from-grids : (p : ℕ) → p < 2 → (g : Grids) → Derived true g size (d p).t8s (d p).strengths → AllVisited size.w size.h (marks_for p (after start rs))
        → taken_out size p (after start rs).frame ≡ picture_of true g size (d p).qps (d p).t8s (d p).slicing (taken_out size p start)
    field-from-grids p h g k all =
        ap (λ (s : State Planes). s.0) e
        ∙ visited-from-grids (d p) wide true g k (taken_out size p start) (only p rs) (subst (λ (s : State Planes). AllVisited size.w size.h s.1) e all)
      where
        e : field_in size top bottom wide p (after start rs) ≡ run (visit_of (d p)) (only p rs) (taken_out size p start, fresh size.w size.h)
        e = field-run size top bottom wide start valid p h rs
