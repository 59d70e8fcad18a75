-- Apart: no promise to a caller of the public calls rests on it. What the function beneath the call promises:
-- one visit of the field that a request names.
use Rattle.std.specs.Prelude.{ℕ, ◌≡◌, List}
use Rattle.edges.specs.declared.Offsets.{Offsets}
use Rattle.sizes.specs.declared.Size.{Size}
use Rattle.slices.specs.Slicing.{single}
use Rattle.interlaced.specs.Both.{Arrival, OfField, of_field_by, Both, both_visit}

pub record OneVisit (size : Size) (top bottom : OfField) (u : Both) (r : Arrival) (n : ℕ) (u' : Both) : Type 0 where
  pub says : n ≡ (both_visit size top bottom u r).0
  pub leaves : u' ≡ (both_visit size top bottom u r).1

-- what is lent for a field with one pair of offsets
abbrev pub of_field : Offsets → List ℕ → List ℕ → List ℕ → OfField
of_field o = of_field_by (single o)
