-- In a sequence from nothing visited it is known beforehand what a visit makes final: its upper neighbour
-- always, its left one in the last row, itself if it is the last macroblock. Assumes nothing.
use mathlib.Core.Path.{◌≡◌, refl, sym, ap, ◌∙◌}
use mathlib.Core.Bool.{false, not, ◌&&◌}
use mathlib.Core.List.{List}
use Prim.Native.Nat.{ℕ, ◌+◌, ◌-◌, ◌*◌, ◌<◌}
use native.Mathlib.Decide.{dec_lt}
use native.Mathlib.Omega.{arith}
use borrow.Author.Tests.{lt-ltb, le-ltb}
use lib.Dec.{ltb}
use lib.ListN.{length, set, length-set}
use lib.Seq.{get_or-set_other}
use Rattle.laws.specs.Grid.{Near, is-left, is_up, is-up-right}
use Rattle.laws.specs.Order.{Closed, Dep, Ready}
use Rattle.laws.specs.Raster.{Marked}
use Rattle.laws.proofs.Bools.{never_true}
use Rattle.laws.proofs.Grid.{dep-lt, index-lt}
use Rattle.laws.proofs.Raster.{mark-same, mark-stays}
use Rattle.laws.proofs.Refusal.{passes}
use Rattle.edges.specs.Picture.{Planes}
use Rattle.pictures.specs.Checks.{Lent}
use Rattle.sizes.specs.Sizes.{bad_size}
use Rattle.sizes.specs.declared.Part.TheVariants.{Frame}
use Rattle.sizes.specs.declared.Size.{Size}
use Rattle.visits.specs.Beyond.{Bits}
use Rattle.visits.specs.Checks.{visit_checks, early_in, early_of}
use Rattle.visits.specs.Promise.{visit_of, unvisited}
use Rattle.visits.specs.Visit.{At, State, run}
use Rattle.visits.proofs.Late.{done-here}
use Rattle.visits.proofs.LateUntouched.{ready-here}
use Rattle.visits.proofs.Marks.{set-bits}
use Rattle.visits.proofs.Neighbours.{near→dep}
use Rattle.finality.specs.Final.{has_right, has_lower, finals, finals_of}
use Rattle.finality.proofs.Members.{made-never-refused, own-tells, own-said, left-tells, left-said, upper-tells, upper-said}
use Rattle.finality.proofs.Settled.{run-inv}

-- ---- marks in which each marked macroblock was ready, and (x, y), which is unmarked and ready
module _ (size : Size) (good : bad_size size ≡ false) (ms : List ℕ) (full : length ms ≡ size.w * size.h) (bits : Bits ms) (closed : Closed (Dep size.w) (size.w * size.h) ms)
    (x y : ℕ) (column : x < size.w) (row : y < size.h) (unmarked : Marked ms (y * size.w + x) → ⊥) (ready : Ready (Dep size.w) ms (y * size.w + x)) where
  abbrev W : ℕ
  W = size.w

  abbrev i : ℕ
  i = y * W + x

  -- the marks once it is marked
  abbrev after : List ℕ
  after = set ms i 1

  inside : i < length ms
  inside = omega (arith, full, index-lt W size.h x y column row)

  -- what it waits for is marked, and what waits for it is not
  waited : (a b : ℕ) → a < W → Near a b x y → Marked after (b * W + a)
  waited a b h n = mark-stays ms i inside (b * W + a) (ready (b * W + a) (near→dep W a b x y h column n))

  not_yet : (a b : ℕ) → a < W → b < size.h → Near x y a b → Marked after (b * W + a) → ⊥
  not_yet a b ha hb n m =
      let dep = near→dep W x y a b column ha n in
      let later = dep-lt W (omega arith) i (b * W + a) dep in
      unmarked (closed (b * W + a) (index-lt W size.h a b ha hb) (sym (get_or-set_other ms i (b * W + a) 1 0 (omega arith)) ∙ m) i dep)

  z : (finals_of size after x y).number ≡ 0
  z = made-never-refused size after x y good column row (length-set ms i 1 ∙ full) (set-bits ms i bits)

  own_value : Dec (x + 1 < W) → Dec (y + 1 < size.h) → (finals_of size after x y).own ≡ (not (has_right size x) && not (has_lower size y))
  own_value (yes h) k = rw (lt-ltb (x + 1) W h) (never_true _ (λ e. not_yet (x + 1) y h row (is-left refl refl) ((own-tells size after x y z e).right h)))
  own_value (no h) (yes k) = rw (le-ltb (x + 1) W (omega arith), lt-ltb (y + 1) size.h k) (never_true _ (λ e. not_yet x (y + 1) column k (is_up refl refl) ((own-tells size after x y z e).lower k)))
  own_value (no h) (no k) =
      rw (le-ltb (x + 1) W (omega arith), le-ltb (y + 1) size.h (omega arith))
      (own-said size after x y z (record { own = mark-same ms i inside; right = λ l. absurd (h l); lower = λ l. absurd (k l) }))

  left-value : Dec (0 < x) → Dec (y + 1 < size.h) → (finals_of size after x y).left ≡ (ltb 0 x && not (has_lower size y))
  left-value (no h) k = rw (le-ltb 0 x (omega arith)) (never_true _ (λ e. h (left-tells size after x y z e).0))
  left-value (yes h) (yes k) =
      rw (lt-ltb 0 x h, lt-ltb (y + 1) size.h k)
      (never_true _ (λ e. not_yet (x - 1) (y + 1) (omega arith) k (is-up-right (omega arith) refl) ((left-tells size after x y z e).1.lower k)))
  left-value (yes h) (no k) =
      let at : y * W + (x - 1 + 1) ≡ i = omega arith in
      rw (lt-ltb 0 x h, le-ltb (y + 1) size.h (omega arith))
      (left-said size after x y z h (record { own = waited (x - 1) y (omega arith) (is-left (omega arith) refl); right = λ l. rw at (mark-same ms i inside); lower = λ l. absurd (k l) }))

  upper-value : Dec (0 < y) → (finals_of size after x y).upper ≡ ltb 0 y
  upper-value (no h) = rw (le-ltb 0 y (omega arith)) (never_true _ (λ e. h (upper-tells size after x y z e).0))
  upper-value (yes h) =
      let row_at : y - 1 + 1 ≡ y = omega arith in
      let at : (y - 1 + 1) * W + x ≡ i = ap (λ (k : ℕ). k * W + x) row_at in
      rw (lt-ltb 0 y h)
      (upper-said size after x y z h (record { own = waited x (y - 1) column (is_up refl row_at); right = λ l. waited (x + 1) (y - 1) l (is-up-right refl row_at); lower = λ l. rw at (mark-same ms i inside) }))

  pub made-by-marks : finals_of size after x y ≡ finals 0 (not (has_right size x) && not (has_lower size y)) (ltb 0 x && not (has_lower size y)) (ltb 0 y)
  made-by-marks = λ j. record { number = z j; own = own_value (dec_lt (x + 1) W) (dec_lt (y + 1) size.h) j; left = left-value (dec_lt 0 x) (dec_lt (y + 1) size.h) j; upper = upper-value (dec_lt 0 y) j }

-- ---- a visit that is done, after any requests
good-size : (d : Lent) (s : State Planes) (r : At) → early_of d s r ≡ 0 → bad_size d.size ≡ false
unfolding early_in
good-size d s r e = passes 1 (visit_checks Frame d (length s.0.luma) (length s.0.u) (length s.0.v) s.1 r) tt e

pub made-in-sequence : (d : Lent) (start : Planes) (rs : List At) (x y : ℕ) → let now = run (visit_of d) rs (unvisited d start) in (visit_of d now (x, y)).0 ≡ 0
    → finals_of d.size (visit_of d now (x, y)).1.1 x y ≡ finals 0 (not (has_right d.size x) && not (has_lower d.size y)) (ltb 0 x && not (has_lower d.size y)) (ltb 0 y)
made-in-sequence d start rs x y z =
    let now = run (visit_of d) rs (unvisited d start) in
    let k = done-here d now (x, y) z in
    let v = run-inv d (omega (arith, k.column)) start rs in
    ap (λ (s : State Planes). finals_of d.size s.1 x y) k.after
    ∙ made-by-marks d.size (good-size d now (x, y) k.early-passed) now.1 v.full v.bits v.closed x y k.column k.row k.unvisited (ready-here d now (x, y) z)
