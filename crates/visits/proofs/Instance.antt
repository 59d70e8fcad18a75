-- What demand 3 asks of an instance, of the filter and the checks here: check 2 is among the earlier ones,
-- steps commute unless the later waits for the earlier, and with valid data no earlier check applies inside
-- the picture. Assumes nothing.
use mathlib.Core.Path.{◌≡◌, refl, ◌∙◌}
use mathlib.Core.Bool.{Bool, false, not, ◌&&◌, ◌||◌}
use mathlib.Core.List.{List}
use Prim.Native.Nat.{ℕ, ◌+◌, ◌-◌, ◌*◌, ◌/◌, ◌%◌, ◌<◌}
use borrow.Author.Tests.{le-ltb, lt-leb, eq-eqb}
use lib.Dec.{T, eqb, ltb}
use lib.ListN.{length, get_or}
use Rattle.laws.proofs.Some.{some-idle}
use Rattle.laws.proofs.Table.{bounded, at_most}
use Rattle.edges.specs.Picture.{Planes, step_of}
use Rattle.edges.proofs.Steps.{step-commute}
use Rattle.edges.proofs.Pictures.{macroblock-sized}
use Rattle.visits.specs.Instance.{AsksPlace, Commutes, Passes}
use Rattle.visits.specs.Beyond.{Bits}
use Rattle.sizes.specs.Sizes.{outside_of, bad_planes}
use Rattle.sizes.specs.declared.Part.{Part}
use Rattle.sizes.specs.declared.Part.TheVariants.{Frame}
use Rattle.pictures.specs.Checks.{Lent, held_of, bad_lent, bad_qp, bad_strength, some_bad, some_bad_flag}
use Rattle.sizes.specs.Entries.{bad_flag}
use Rattle.slices.specs.Slicing.{Slicing, single, sliced, bad_number, bad_number_count, some_bad_number}
use Rattle.visits.specs.Checks.{bad_mark, bad_marks, bad_around, visit_checks, early_in, early_of, Sound, Fit}
use Rattle.laws.proofs.Bools.{and-false}
use Rattle.laws.proofs.Refusal.{none-applies}
use Rattle.visits.proofs.VisitFits.{checked-visit-fits}

pub asks-place-in : (part : Part) (d : Lent) → AsksPlace d.size.w d.size.h (early_in part d)
unfolding early_in
asks-place-in part d s r e = let g = checked-visit-fits part d (length s.0.luma) (length s.0.u) (length s.0.v) s.1 r e in (g.column, g.row)

pub asks-place : (d : Lent) → AsksPlace d.size.w d.size.h (early_of d)
asks-place = asks-place-in Frame

pub commutes : (d : Lent) → 0 < d.size.w → Commutes d.size.w (step_of (held_of d))
commutes d wide = step-commute (held_of d) wide

-- the planes keep their lengths
pub fit-kept : (d : Lent) (i : ℕ) (p : Planes) → Fit d p → Fit d (step_of (held_of d) i p)
fit-kept d i p f =
    let k = macroblock-sized (held_of d) (i % d.size.w) (i / d.size.w) p p (record { luma = refl; u = refl; v = refl }) in
    record { luma = k.luma ∙ f.luma; u = k.u ∙ f.u; v = k.v ∙ f.v }

-- a small grid with no entry above `top`
pub none_over : (top : ℕ) (xs : List ℕ) → T (bounded top xs) → (i : ℕ) → ltb top (get_or xs i 0) ≡ false
none_over top xs t i = le-ltb top (get_or xs i 0) (at_most top xs t i)

-- a grid with no bad entry holds none anywhere
module _ (bad : ℕ → Bool) (xs : List ℕ) (fine : (i : ℕ) → bad (get_or xs i 0) ≡ false) where
  fine-where : (there : Bool) (i : ℕ) → (there && bad (get_or xs i 0)) ≡ false
  fine-where there i = and-false there (fine i)

  none-bad : (a b : ℕ) → some_bad bad a b xs ≡ false
  unfolding some_bad
  none-bad a b = some-idle (b - a) _ (λ i. fine (a + i))

marks-fine : (ms : List ℕ) → Bits ms → (w x y : ℕ) → bad_marks ms w x y ≡ false
unfolding bad_marks
marks-fine ms b w x y =
    let i = y * w + x in
    rw (k i, fine-where bad_mark ms k (ltb 0 x) (i - 1), fine-where bad_mark ms k (ltb 0 y) (i - w), fine-where bad_mark ms k (ltb 0 y && ltb (x + 1) w) (i - (w - 1)))
  where
    k : (i : ℕ) → bad_mark (get_or ms i 0) ≡ false
    k i = le-ltb 1 (get_or ms i 0) (b i)

pub near-fine : (bad : ℕ → Bool) (xs : List ℕ) → ((i : ℕ) → bad (get_or xs i 0) ≡ false) → (w x y : ℕ) → bad_around bad xs w x y ≡ false
unfolding bad_around
near-fine bad xs k w x y =
    let i = y * w + x in
    rw (k i, fine-where bad xs k (ltb 0 x) (i - 1), fine-where bad xs k (ltb 0 y) (i - w))

numbers-fine : (sl : Slicing) → ((i : ℕ) → some_bad_number sl (λ bad ns. bad (get_or ns i 0)) ≡ false) → (w x y : ℕ) → some_bad_number sl (λ bad ns. bad_around bad ns w x y) ≡ false
numbers-fine (single o) k w x y = refl
numbers-fine (sliced c t ns) k w x y = near-fine (bad_number t) ns k w x y

pub passes-valid : (d : Lent) → Sound d → Passes d.size.w d.size.h (early_of d) (Fit d)
unfolding early_in
passes-valid d v s f l b x y hx hy =
    none-applies (visit_checks Frame d (length s.0.luma) (length s.0.u) (length s.0.v) s.1 (x, y))
    (v.sides, (place, (refl, (planes, (grids, (v.range, (flags, (near-fine bad_qp d.qps v.qp d.size.w x y, (none-bad bad_strength d.strengths v.strength _ _, (numbers-fine d.slicing v.number d.size.w x y, (v.mode, tt)))))))))))
  where
    place : outside_of d.size x y ≡ false
    place = rw (lt-leb d.size.w x hx, lt-leb d.size.h y hy)

    planes : bad_planes (d.size.w * d.size.h) (length s.0.luma) (length s.0.u) (length s.0.v) ≡ false
    planes = rw (eq-eqb _ _ f.luma, eq-eqb _ _ f.u, eq-eqb _ _ f.v)

    grids : (bad_lent (d.size.w * d.size.h) (length d.strengths) (length d.qps) (length d.t8s)
        || (bad_number_count d.slicing (d.size.w * d.size.h) || not (eqb (length s.1) (d.size.w * d.size.h)))) ≡ false
    grids = rw (v.lengths, v.numbers, eq-eqb _ _ l)

    flags : (some_bad_flag (y * d.size.w + x) (y * d.size.w + x + 1) d.t8s || bad_marks s.1 d.size.w x y) ≡ false
    flags =
        rw (and-false (not (eqb (length d.t8s) 0)) (none-bad bad_flag d.t8s v.flag (y * d.size.w + x) (y * d.size.w + x + 1)), marks-fine s.1 b d.size.w x y)
