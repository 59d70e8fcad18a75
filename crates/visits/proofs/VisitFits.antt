-- What a visit knows once its checks of lengths have passed. Assumes nothing.
use mathlib.Core.Path.{◌≡◌}
use mathlib.Core.Bool.{Bool, false, not, ◌||◌}
use mathlib.Core.List.{List}
use Prim.Native.Nat.{ℕ, ◌+◌, ◌*◌, ◌<◌, ◌≤◌}
use native.Mathlib.Omega.{arith}
use borrow.Author.Tests.{leb-false}
use lib.Dec.{eqb, leb}
use lib.ListN.{length}
use Rattle.laws.specs.Refusal.{refusal}
use Rattle.laws.proofs.Bools.{or-false, equal}
use Rattle.laws.proofs.Grid.{index-lt, row_fits}
use Rattle.laws.proofs.Refusal.{passes}
use Rattle.sizes.specs.Sizes.{outside_of}
use Rattle.sizes.specs.declared.Part.{Part}
use Rattle.slices.specs.Slicing.{bad_number_count}
use Rattle.pictures.specs.Checks.{Lent, picture_checks, grid_checks}
use Rattle.pictures.specs.Inner.{GridsHold}
use Rattle.pictures.proofs.Fitting.{Fitting, fitting, grids-hold}
use Rattle.visits.specs.Visit.{At}
use Rattle.visits.specs.Checks.{visit_checks}
use Rattle.sizes.specs.Inner.{InPicture}

-- ly, lu, lv, lm are the lengths of planes and marks
pub record VisitFits (part : Part) (d : Lent) (ly lu lv lm : ℕ) (r : At) : Type 0 where
  pub fit : Fitting part d ly lu lv
  pub column : r.0 < d.size.w
  pub row : r.1 < d.size.h
  pub marks : lm ≡ d.size.w * d.size.h

module _ (part : Part) (d : Lent) (ly lu lv : ℕ) where
  -- checks 1, 2, 19, 3 and 4
  pub visit-fits : (lm : ℕ) (r : At) → Fitting part d ly lu lv → outside_of d.size r.0 r.1 ≡ false → not (eqb lm (d.size.w * d.size.h)) ≡ false
      → VisitFits part d ly lu lv lm r
  visit-fits lm r f two four =
      let place = or-false (leb d.size.w r.0) (leb d.size.h r.1) two in
      record { fit = f; column = leb-false d.size.w r.0 place.0; row = leb-false d.size.h r.1 place.1; marks = equal _ _ four }

  -- by all checks
  pub checked-visit-fits : (ms : List ℕ) (r : At) → refusal (visit_checks part d ly lu lv ms r) ≡ 0 → VisitFits part d ly lu lv (length ms) r
  checked-visit-fits ms r e =
      let four = or-false _ _ (passes 4 cs tt e) in
      visit-fits (length ms) r (fitting part d ly lu lv (passes 1 cs tt e) (passes 19 cs tt e) (passes 3 cs tt e) four.0) (passes 2 cs tt e) (or-false (bad_number_count d.slicing (d.size.w * d.size.h)) _ four.1).1
    where
      cs : List (ℕ × Bool)
      cs = visit_checks part d ly lu lv ms r

  pub checked-grids : (ms : List ℕ) (r : At) → refusal (visit_checks part d ly lu lv ms r) ≡ 0 → (m : ℕ) → m ≤ d.size.w * d.size.h → GridsHold m d
  checked-grids ms r e m h =
      let four = or-false _ _ (passes 4 (visit_checks part d ly lu lv ms r) tt e) in
      grids-hold part d ly lu lv m (checked-visit-fits ms r e).fit (or-false (bad_number_count d.slicing (d.size.w * d.size.h)) _ four.1).0 h

  module _ (lm : ℕ) (r : At) (g : VisitFits part d ly lu lv lm r) where
    pub index : r.1 * d.size.w + r.0 < d.size.w * d.size.h
    index = index-lt d.size.w d.size.h r.0 r.1 g.column g.row

    pub in-picture : (n : ℕ) → n ≡ d.size.w * d.size.h → InPicture d.size.w r.0 r.1 n
    in-picture n e = record { column = g.column; index = omega (arith, index) }

    pub in-largest : InPicture d.size.w r.0 r.1 36864
    in-largest = record { column = g.column; index = omega (arith, index, g.fit.sides.most) }

    -- what the filter asks: room for the row
    pub row-inside : r.1 * d.size.w + d.size.w ≤ d.size.w * d.size.h
    row-inside = row_fits r.1 d.size.w d.size.h g.row

    -- what the third group asks
    pub entries-lie : InPicture d.size.w r.0 r.1 lm × InPicture d.size.w r.0 r.1 (length d.qps) × InPicture d.size.w r.0 r.1 36864 × (32 * (r.1 * d.size.w + r.0) + 32 ≤ length d.strengths) × (eqb (length d.t8s) 0 ≡ false → r.1 * d.size.w + r.0 < length d.t8s)
    entries-lie =
        let i = index in
        let f = g.fit in
        (in-picture lm g.marks, in-picture (length d.qps) f.qps, in-largest, omega (arith, i, f.strengths), λ h. omega (arith, i, f.t8s h))

  -- by the first two groups of checks, whatever else they ask: the place
  pub grouped-visit-fits : (lm : ℕ) (r : At) (other six : Bool) → refusal (picture_checks part d.size (outside_of d.size r.0 r.1) ly lu lv) ≡ 0
      → refusal (grid_checks (d.size.w * d.size.h) (length d.strengths) (length d.qps) (length d.t8s) (other || not (eqb lm (d.size.w * d.size.h))) six) ≡ 0
      → VisitFits part d ly lu lv lm r
  grouped-visit-fits lm r other six z e =
      let four = or-false _ _ (passes 4 grids tt e) in
      visit-fits lm r (fitting part d ly lu lv (passes 1 picture tt z) (passes 19 picture tt z) (passes 3 picture tt z) four.0) (passes 2 picture tt z) (or-false other _ four.1).1
    where
      picture : List (ℕ × Bool)
      picture = picture_checks part d.size (outside_of d.size r.0 r.1) ly lu lv

      grids : List (ℕ × Bool)
      grids = grid_checks (d.size.w * d.size.h) (length d.strengths) (length d.qps) (length d.t8s) (other || not (eqb lm (d.size.w * d.size.h))) six

  -- .. and the grids up to it
  pub grouped-grids : (lm : ℕ) (r : At) (six : Bool) → refusal (picture_checks part d.size (outside_of d.size r.0 r.1) ly lu lv) ≡ 0
      → refusal (grid_checks (d.size.w * d.size.h) (length d.strengths) (length d.qps) (length d.t8s) (bad_number_count d.slicing (d.size.w * d.size.h) || not (eqb lm (d.size.w * d.size.h))) six) ≡ 0
      → (m : ℕ) → m ≤ d.size.w * d.size.h → GridsHold m d
  grouped-grids lm r six z e m h =
      let four = or-false _ _ (passes 4 grids tt e) in
      grids-hold part d ly lu lv m (grouped-visit-fits lm r (bad_number_count d.slicing (d.size.w * d.size.h)) six z e).fit (or-false (bad_number_count d.slicing (d.size.w * d.size.h)) _ four.1).0 h
    where
      grids : List (ℕ × Bool)
      grids = grid_checks (d.size.w * d.size.h) (length d.strengths) (length d.qps) (length d.t8s) (bad_number_count d.slicing (d.size.w * d.size.h) || not (eqb lm (d.size.w * d.size.h))) six
