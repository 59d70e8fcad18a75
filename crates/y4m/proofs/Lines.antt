-- What the checks of the two lines come to, one after the other. Assumes nothing.
use Prim.Native.Nat.{ℕ, ◌/◌, ◌%◌, ◌≤◌}
use mathlib.Core.Path.{◌≡◌, refl, sym, ap, ◌∙◌}
use mathlib.Core.Bool.{Bool, true, false, cond, not, ◌&&◌, ◌||◌}
use mathlib.Core.List.{List, [], ◌∷◌}
use native.Mathlib.Omega.{arith}
use borrow.Author.Tests.{le-leb}
use denote.Ref.{Bor}
use lib.Dec.{eqb}
use lib.ListN.{length}
use Rattle.std.specs.Prelude.{Option, Some, None, option_map, Result, Ok, Err, slice_get}
use Rattle.laws.specs.Refusal.{refusal}
use Rattle.laws.proofs.Bools.{or-false}
use Rattle.laws.proofs.Refusal.{stop, skip}
use Rattle.refusals.specs.Refusals.{number_of}
use Rattle.refusals.specs.declared.Refusal.{Refusal}
use Rattle.sizes.specs.Sizes.{bad_size}
use Rattle.sizes.specs.declared.Size.{Size}
use Rattle.sizes.proofs.Sized.{sized}
use Rattle.y4m.specs.Text.{ascii, all}
use Rattle.y4m.specs.Stream.{good_header, well_formed, one_number, is_ours, other_planes, bad_sides, widths, heights, colours, pixels, size_in}
use Rattle.y4m.specs.Places.{capped, bad_two, form_checks, colour_checks, side_checks, line_checks, other_value, SizeOf, SizeIn}
use Rattle.y4m.specs.Calls.{GoodSize}
use Rattle.y4m.proofs.Sides.{sides-capped, sides-true}

-- ---- a check of a line's form that passes, and one that does not
pub formed : (b : Bool) → ◌≡◌ {A = ℕ} 0 (cond (not b) 15 0) → b ≡ true
formed true e = refl
formed false e = absurd (omega arith)

unformed : (b : Bool) {n : ℕ} → n ≡ cond (not b) 15 0 → (n ≡ 0 → ⊥) → (b ≡ false) × (n ≡ 15)
unformed true e z = absurd (z e)
unformed false e z = (refl, e)

-- ---- 16, of the values of the tag C, of which there is one at most
value-other : (vs : List (List ℕ)) (c : Option (Bor (List ℕ))) → length vs ≤ 1 → option_map (λ v. v.now) c ≡ slice_get vs 0 → other_value c ≡ not (all is_ours vs)
value-other [] None h e = refl
value-other [] (Some v) h e = cc
value-other (w ∷ []) None h e = cc
value-other (w ∷ []) (Some v) h e = let same : v.now ≡ w = cc in ap (λ (u : List ℕ). not (is_ours u)) same ∙ ap not (and-one (is_ours w))
  where
    and-one : (b : Bool) → b ≡ (b && true)
    and-one true = refl
    and-one false = refl
value-other (w ∷ x ∷ vs) c h e = absurd (omega arith)

-- ---- a size that is not refused
module _ (l : List ℕ) (e : bad_sides l ≡ false) where
  no-bad-size : bad_size (size_in l) ≡ false
  unfolding bad_sides
  no-bad-size = (or-false (not (eqb (pixels (widths l) % 16) 0) || not (eqb (pixels (heights l) % 16) 0)) (bad_size (size_in l)) e).1

  pub within : GoodSize (size_in l)
  within = let s = sized (size_in l) no-bad-size in record { w-most = s.both.w-most; h-most = s.both.h-most; most = s.most }

-- ---- the checks of both lines
module _ (l f : List ℕ) where
  module _ (first : well_formed (ascii "YUV4MPEG2") l ≡ true) (w-once : one_number (widths l) ≡ true) (h-once : one_number (heights l) ≡ true) (few : length (colours l) ≤ 1) where
    good : good_header l ≡ true
    good = rw (first, w-once, h-once) (le-leb (length (colours l)) 1 few)

    pub frame-refused : {n : ℕ} → n ≡ refusal (form_checks (ascii "FRAME") f) → (n ≡ 0 → ⊥) → n ≡ refusal (line_checks l f)
    frame-refused e z =
        let k = unformed (well_formed (ascii "FRAME") f) e z in
        let t : not (good_header l && well_formed (ascii "FRAME") f) ≡ true = rw (good, k.0) in
        k.1 ∙ stop 15 _ t

    module _ (second : well_formed (ascii "FRAME") f ≡ true) (c : Option (Bor (List ℕ))) (value : option_map (λ v. v.now) c ≡ slice_get (colours l) 0) where
      fifteen : not (good_header l && well_formed (ascii "FRAME") f) ≡ false
      fifteen = rw (good, second)

      sixteen : other_value c ≡ other_planes l
      unfolding other_planes
      sixteen = value-other (colours l) c few value

      pub colours-refused : {n : ℕ} → n ≡ refusal (colour_checks c) → (n ≡ 0 → ⊥) → n ≡ refusal (line_checks l f)
      colours-refused {n} e z = skip 15 fifteen (go (other_value c) sixteen e)
        where
          go : (b : Bool) → b ≡ other_planes l → n ≡ cond b 16 0 → n ≡ cond (other_planes l) 16 (cond (bad_sides l) 17 0)
          go true h k = k ∙ stop 16 _ (sym h)
          go false h k = absurd (z k)

      module _ (passed : 0 ≡ refusal (colour_checks c)) {w h : ℕ} (w-is : w ≡ capped (pixels (widths l))) (h-is : h ≡ capped (pixels (heights l))) where
        sides-are : bad_two w h ≡ bad_sides l
        unfolding bad_sides size_in
        sides-are = (λ i. bad_two (w-is i) (h-is i)) ∙ sides-capped (pixels (widths l)) (pixels (heights l))

        ours : (b : Bool) → ◌≡◌ {A = ℕ} 0 (cond b 16 0) → b ≡ false
        ours true e = absurd (omega arith)
        ours false e = refl

        pub sides-refused : {n : ℕ} → n ≡ refusal (side_checks w h) → n ≡ refusal (line_checks l f)
        sides-refused e = skip 15 fifteen (skip 16 (sym sixteen ∙ ours (other_value c) passed) (e ∙ ap (λ (b : Bool). cond b 17 0) sides-are))

        uncut : bad_sides l ≡ false → record { w = w / 16; h = h / 16 } ≡ size_in l
        unfolding bad_sides size_in
        uncut z =
            let t = sides-true (pixels (widths l)) (pixels (heights l)) z in
            λ i. record { w = (w-is ∙ t.0) i / 16; h = (h-is ∙ t.1) i / 16 }

        pub size-found : (r : Result Size Refusal) → number_of r ≡ refusal (side_checks w h) → SizeOf w h r → SizeIn l r
        size-found (Ok s) e k = (k.0 ∙ uncut (sym sides-are ∙ even (bad_two w h) e), k.1)
          where
            even : (b : Bool) → ◌≡◌ {A = ℕ} 0 (cond b 17 0) → b ≡ false
            even true e = absurd (omega arith)
            even false e = refl
        size-found (Err r) e k = tt
