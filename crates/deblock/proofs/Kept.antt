-- An outcome is kept where the part, the offsets, or what check 12 says, are replaced by equal ones; and what
-- a number for a kind comes to. Assumes nothing.
use mathlib.Core.Path.{◌≡◌, refl, ap, ◌∙◌, subst}
use mathlib.Core.Bool.{Bool, true, false, cond, ◌||◌}
use mathlib.Core.List.{List}
use Prim.Native.Nat.{ℕ}
use lib.Dec.{ltb}
use Rattle.edges.specs.Picture.{Planes}
use Rattle.edges.specs.declared.Offsets.{Offsets}
use Rattle.sizes.specs.declared.Part.{Part}
use Rattle.sizes.specs.declared.Size.{Size}
use Rattle.motion.specs.Grids.{Grids}
use Rattle.strengths.specs.Calls.{DeriveOutcome, untrue_known, untrue_kind}
use Rattle.pictures.specs.Checks.{lent}
use Rattle.pictures.specs.Rows.{RowOutcome}
use Rattle.strengths.specs.Kinds.{kind_number, known_number}
use Rattle.strengths.specs.declared.kinds.Known.{Known}
use Rattle.strengths.specs.declared.kinds.Known.TheVariants.{Stated, NoKind}
use Rattle.visits.specs.Promise.{VisitOutcome}
use Rattle.visits.specs.Visit.{At, State}
use Rattle.deblock.specs.Numbers.{request, untrue_number}

-- ---- the part and the offsets
module _ (size : Size) {part part' : Part} {o o' : Offsets} (s q t : List ℕ) where
  pub rows-kept : (a b : ℕ) (p : Planes) (n : ℕ) (p' : Planes) → part ≡ part' → o ≡ o' → RowOutcome part (lent size o s q t) a b p n p' → RowOutcome part' (lent size o' s q t) a b p n p'
  rows-kept a b p n p' f e h =
      subst (λ (k : Offsets). RowOutcome part' (lent size k s q t) a b p n p') e (subst (λ (k : Part). RowOutcome k (lent size o s q t) a b p n p') f h)

  pub visit-kept : (p : State Planes) (r : At) (n : ℕ) (p' : State Planes) → part ≡ part' → o ≡ o' → VisitOutcome part (lent size o s q t) p r n p' → VisitOutcome part' (lent size o' s q t) p r n p'
  visit-kept p r n p' f e h =
      subst (λ (k : Offsets). VisitOutcome part' (lent size k s q t) p r n p') e (subst (λ (k : Part). VisitOutcome k (lent size o s q t) p r n p') f h)

-- ---- check 12
pub kind-kept : (size : Size) (field : Bool) (x y : ℕ) (t8s : List ℕ) (g : Grids) {u u' : Bool} (s : List ℕ) (n : ℕ) (s' : List ℕ) → u ≡ u' → DeriveOutcome size field x y t8s g u s n s' → DeriveOutcome size field x y t8s g u' s n s'
kind-kept size field x y t8s g s n s' e h = subst (λ (u : Bool). DeriveOutcome size field x y t8s g u s n s') e h

-- what a number says is as untrue as the number
pub number-known : (size : Size) (x y k : ℕ) (g : Grids) (known : Known) → known ≡ known_number k → untrue_known known g size.w x y ≡ untrue_number size x y k g
number-known size x y k g known e = ap (λ (n : Known). untrue_known n g size.w x y) e ∙ go (ltb 3 k)
  where
    go : (b : Bool) → untrue_known (cond b NoKind (Stated (kind_number k))) g size.w x y ≡ (b || untrue_kind size (request x y (kind_number k)) g)
    go true = refl
    go false = refl
