-- `is_final`: the three ways out are those of the promise. Assumes nothing.
use Rattle.std.proofs.lemmas.Bool.Decides.{nat_tests}
use Rattle.std.proofs.Common.{rules, ◌≡◌, ◌+◌, ◌<◌, ℕ, Bool, ◌&&◌, ◌||◌, List, [], ◌∷◌, eqb, ltb, length, refl, sym, ◌∙◌, arith}
use Rattle.laws.proofs.Refusal.{first-applies, first-passed, skip, stop}
use Rattle.refusals.proofs.Codes.{code-positive}
use Rattle.refusals.specs.declared.Refusal.TheVariants.{Flag}
use Rattle.sizes.specs.declared.Size.{Size}
use Rattle.finality.specs.Final.{is_final, bad_asked, place_checks, finality_of}
use Rattle.finality.proofs.Asked.{answer-refused, answer-told, placed, own_in, right-in, lower_in, own_mark, right_mark, lower_mark, final-by-index, bad-by-index}
use Rattle.finality.proofs.calls.is_final.Goals as goal

module _ (size : Size) (ms : List ℕ) (x y : ℕ) where
  -- checks 1, 2 and 4, and 7
  abbrev place : List (ℕ × Bool)
  place = place_checks size (length ms) x y

  abbrev seven : List (ℕ × Bool)
  seven = (7, bad_asked size ms x y) ∷ []

  bad : {r l : ℕ} → r ≡ right_mark size ms x y → l ≡ lower_mark size ms x y → (ltb 1 (own_mark size ms x y) || ltb 1 r || ltb 1 l) ≡ bad_asked size ms x y
  bad e f = (λ i. ltb 1 (own_mark size ms x y) || ltb 1 (e i) || ltb 1 (f i)) ∙ bad-by-index size ms x y

  final : {r l : ℕ} → r ≡ right_mark size ms x y → l ≡ lower_mark size ms x y → (eqb (own_mark size ms x y) 1 && eqb r 1 && eqb l 1) ≡ is_final size ms x y
  final e f = (λ i. eqb (own_mark size ms x y) 1 && eqb (e i) 1 && eqb (f i) 1) ∙ final-by-index size ms x y

pub returns-in_err-check_place : goal.returns-in_err-check_place
unfolding finality_of
returns-in_err-check_place c =
    let a = c.args in
    let e = c.in_err-check_place.field-0.0 in
    answer-refused _ (search rules) (first-applies (place a.size a.marks.now a.x a.y) (seven a.size a.marks.now a.x a.y) tt c.in_err-check_place.ensures (code-positive e))

pub bounds-marks-i : goal.bounds-marks-i
bounds-marks-i c =
    let a = c.args in
    own_in a.size (length a.marks.now) a.x a.y (placed a.size (length a.marks.now) a.x a.y (sym c.in_ok-check_place.ensures))

pub mark_if-right-requires : goal.mark_if-right-requires
mark_if-right-requires c h =
    let a = c.args in
    let there : a.x + 1 < a.size.w = grind (arith, nat_tests) in
    right-in a.size (length a.marks.now) a.x a.y (placed a.size (length a.marks.now) a.x a.y (sym c.in_ok-check_place.ensures)) there

pub mark_if-lower-requires : goal.mark_if-lower-requires
mark_if-lower-requires c h =
    let a = c.args in
    let there : a.y + 1 < a.size.h = grind (arith, nat_tests) in
    lower_in a.size (length a.marks.now) a.x a.y (placed a.size (length a.marks.now) a.x a.y (sym c.in_ok-check_place.ensures)) there

pub returns-then-is_one_unknown : goal.returns-then-is_one_unknown
unfolding finality_of
returns-then-is_one_unknown c =
    let a = c.args in
    answer-refused {e = Flag} _ refl
    (first-passed (place a.size a.marks.now a.x a.y) (seven a.size a.marks.now a.x a.y) tt (sym c.in_ok-check_place.ensures)
    (stop 7 0 (sym (bad a.size a.marks.now a.x a.y c.mark_if-right.ensures c.mark_if-lower.ensures) ∙ sym c.is_one_unknown.ensures ∙ c.if-is_one_unknown.true)))

pub returns : goal.returns
unfolding finality_of
returns c =
    let a = c.args in
    let none = sym (bad a.size a.marks.now a.x a.y c.mark_if-right.ensures c.mark_if-lower.ensures) ∙ sym c.is_one_unknown.ensures ∙ c.if-is_one_unknown.false in
    answer-told
    (first-passed (place a.size a.marks.now a.x a.y) (seven a.size a.marks.now a.x a.y) tt (sym c.in_ok-check_place.ensures) (skip 7 none refl))
    (c.are_set.ensures ∙ final a.size a.marks.now a.x a.y c.mark_if-right.ensures c.mark_if-lower.ensures)
