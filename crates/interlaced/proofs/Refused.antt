-- Wrong versions that look right, each shown to break a promise of a visit of a field or of both fields.
-- Assumes nothing.
use mathlib.Core.Path.{◌≡◌, sym, ap, ◌∙◌}
use mathlib.Core.Logic.{◌≢◌}
use mathlib.Core.Bool.{false}
use mathlib.Core.List.{List, []}
use Prim.Native.Nat.{ℕ, ◌*◌, ◌≤◌, ◌<◌}
use native.Mathlib.Omega.{arith}
use Rattle.edges.specs.Fields.{Lengths, taken_out}
use Rattle.edges.specs.Picture.{Planes}
use Rattle.sizes.specs.Sizes.{bad_size, outside_of}
use Rattle.sizes.specs.declared.Part.TheVariants.{Field}
use Rattle.sizes.specs.declared.Size.{Size}
use Rattle.pictures.specs.Checks.{Lent}
use Rattle.visits.specs.Promise.{VisitOutcome}
use Rattle.visits.specs.Visit.{At, State}
use Rattle.visits.proofs.Outcome.{outcome-is-visit}
use Rattle.interlaced.specs.Both.{OfField, Both}
use Rattle.interlaced.specs.Promise.{FieldsOutcome}
use Rattle.interlaced.proofs.EachAlone.{bad-parity-19, refused-early}
use Rattle.interlaced.proofs.OneField.{other-visit}

-- a visit of one field that touches a line of the other
pub visit-touches-other : (d : Lent) (p q : ℕ) → 0 < d.size.w → p < 2 → q < 2 → q ≢ p → (s t : State Planes) (r : At) (n : ℕ) → Lengths (2 * (d.size.w * d.size.h)) s.0
    → taken_out d.size q t.0 ≢ taken_out d.size q s.0 → VisitOutcome (Field p) d s r n t → ⊥
visit-touches-other d p q wide hp hq apart s t r n f h o =
    h (ap (λ (u : State Planes). taken_out d.size q u.0) (outcome-is-visit o).1 ∙ other-visit d wide p hp s f q hq apart r)

-- 19 asked after 3, or not at all: any other number for a parity that no field has, where neither 1 nor 2
-- applies
pub visit-not-19 : (d : Lent) (p : ℕ) → 2 ≤ p → (s t : State Planes) (r : At) (n : ℕ) → bad_size d.size ≡ false → outside_of d.size r.0 r.1 ≡ false → n ≢ 19
    → VisitOutcome (Field p) d s r n t → ⊥
visit-not-19 d p l s t r n a b h o =
    let e = bad-parity-19 d p s r l a b in
    h ((outcome-is-visit o).0 ∙ ap (λ (k : ℕ × State Planes). k.0) (refused-early d p s r (λ z. let k : ◌≡◌ {A = ℕ} 19 0 = sym e ∙ z in omega arith)) ∙ e)

-- requests to both fields always refused
pub fields-always-refuse : (size : Size) (top bottom : OfField) (u v : Both) (n : ℕ) (out : List ℕ) → n ≢ 0 → FieldsOutcome size top bottom [] [] [] u [] n v out → ⊥
fields-always-refuse size top bottom u v n out h r = h r.says
