-- As before: where the chroma offsets of each field are equal, visits of both are what they were when one
-- served U and V. Assumes nothing.
use mathlib.Core.Path.{◌≡◌, ◌∙◌}
use mathlib.Core.Bool.{Bool, true, false, cond}
use mathlib.Core.List.{List}
use Prim.Native.Nat.{ℕ}
use lib.Dec.{eqb}
use Rattle.edges.specs.Picture.{Planes}
use Rattle.edges.specs.declared.Offsets.{Offsets}
use Rattle.sizes.specs.declared.Part.TheVariants.{Field}
use Rattle.sizes.specs.declared.Size.{Size}
use Rattle.pictures.specs.Checks.{lent_by}
use Rattle.visits.specs.Promise.{visit_in}
use Rattle.visits.specs.Visit.{Call, run, answers}
use Rattle.visits.proofs.EqualOffsets.{one_visit, equal-visit-before}
use Rattle.interlaced.specs.Both.{Arrival, OfField, Both, marks_for, stored_for, lent_for, both_visit}
use Rattle.interlaced.specs.Inner.{of_field}
use Rattle.interlaced.specs.Promise.{arrivals, uneven_arrivals, FieldsOutcome}

module _ (size : Size) (o : Offsets) (s q t : List ℕ) (o' : Offsets) (s' q' t' : List ℕ) where
  abbrev top : OfField
  top = of_field o s q t

  abbrev bottom : OfField
  bottom = of_field o' s' q' t'

  -- a visit of the field that the request names, with one chroma offset in each field
  abbrev pub one_visit_for : ℕ → Call ℕ Planes
  one_visit_for p = cond (eqb p 0) (one_visit (Field p) size o s q t) (one_visit (Field p) size o' s' q' t')

  abbrev pub one_both_visit : Both → Arrival → ℕ × Both
  one_both_visit u r = let k = one_visit_for r.0 (u.frame, marks_for r.0 u) r.1 in (k.0, stored_for r.0 k.1 u)

  module _ (e : o.chroma_u ≡ o.chroma_v) (f : o'.chroma_u ≡ o'.chroma_v) where
    equal-for : (p : ℕ) → visit_in (Field p) (lent_for size top bottom p) ≡ one_visit_for p
    equal-for p = go (eqb p 0)
      where
        go : (b : Bool) → let g = cond b top bottom in visit_in (Field p) (lent_by size g.slicing g.strengths g.qps g.t8s)
            ≡ cond b (one_visit (Field p) size o s q t) (one_visit (Field p) size o' s' q' t')
        go true = equal-visit-before (Field p) size o s q t e
        go false = equal-visit-before (Field p) size o' s' q' t' f

    pub equal-both-before : both_visit size top bottom ≡ one_both_visit
    unfolding both_visit
    equal-both-before = λ i u r. let k = equal-for r.0 i (u.frame, marks_for r.0 u) r.1 in (k.0, stored_for r.0 k.1 u)

    pub equal-fields-before : (ps xs ys : List ℕ) (u : Both) (out : List ℕ) {n : ℕ} {u' : Both} {out' : List ℕ} → FieldsOutcome size top bottom ps xs ys u out n u' out'
        → (n ≡ cond (uneven_arrivals ps xs ys out) 4 0)
        × (u' ≡ cond (uneven_arrivals ps xs ys out) u (run one_both_visit (arrivals ps xs ys) u))
        × (out' ≡ cond (uneven_arrivals ps xs ys out) out (answers one_both_visit (arrivals ps xs ys) u))
    equal-fields-before ps xs ys u out r = (
      r.says,
      r.leaves ∙ (λ i. cond (uneven_arrivals ps xs ys out) u (run (equal-both-before i) (arrivals ps xs ys) u)),
      r.writes ∙ (λ i. cond (uneven_arrivals ps xs ys out) out (answers (equal-both-before i) (arrivals ps xs ys) u)),
    )
