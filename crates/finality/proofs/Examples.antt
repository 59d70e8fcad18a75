-- Worked examples of docs/RULES.md, "Final macroblocks". Assumes nothing.
use mathlib.Core.Path.{◌≡◌, refl}
use mathlib.Core.Bool.{true, false}
use mathlib.Core.List.{List, [], ◌∷◌}
use Prim.Native.Nat.{ℕ}
use Rattle.sizes.specs.declared.Size.{Size}
use Rattle.finality.specs.Final.{is_final, bad_asked, finality, finality_of, finals, finals_of}

abbrev pub by : ℕ → ℕ → Size
by w h = record { w = w; h = h }

-- 2 by 2, all visited but the last: of the three that are marked just the first is final
abbrev three : List ℕ
three = 1 ∷ 1 ∷ 1 ∷ 0 ∷ []

pub first-final : finality_of (by 2 2) three 0 0 ≡ finality 0 true
unfolding finality_of is_final bad_asked
first-final = refl

pub second-not : finality_of (by 2 2) three 1 0 ≡ finality 0 false
unfolding finality_of is_final bad_asked
second-not = refl

pub third-not : finality_of (by 2 2) three 0 1 ≡ finality 0 false
unfolding finality_of is_final bad_asked
third-not = refl

-- a neighbour that does not exist is not waited for
pub only_one : finality_of (by 1 1) (1 ∷ []) 0 0 ≡ finality 0 true
unfolding finality_of is_final bad_asked
only_one = refl

-- the numbers, each with those after it wrong too: 1, 2, 4, and 7 of the right mark though the own one is 0
pub no_size : finality_of (by 0 1) (9 ∷ []) 5 5 ≡ finality 1 false
unfolding finality_of is_final bad_asked
no_size = refl

pub beyond-it : finality_of (by 2 1) (9 ∷ []) 2 0 ≡ finality 2 false
unfolding finality_of is_final bad_asked
beyond-it = refl

pub too_few : finality_of (by 2 1) (9 ∷ []) 0 0 ≡ finality 4 false
unfolding finality_of is_final bad_asked
too_few = refl

pub no-mark : finality_of (by 2 1) (0 ∷ 9 ∷ []) 0 0 ≡ finality 7 false
unfolding finality_of is_final bad_asked
no-mark = refl

-- .. and a mark that is none of the three is not looked at: 2 by 2, the last one
pub unread : finality_of (by 2 2) (1 ∷ 1 ∷ 1 ∷ 9 ∷ []) 0 0 ≡ finality 0 true
unfolding finality_of is_final bad_asked
unread = refl

-- the visits of 2 by 2 in raster order: what each makes final, itself, its left, its upper neighbour
pub second-makes : finals_of (by 2 2) (1 ∷ 1 ∷ 0 ∷ 0 ∷ []) 1 0 ≡ finals 0 false false false
unfolding finals_of finality_of is_final bad_asked
second-makes = refl

pub third-makes : finals_of (by 2 2) three 0 1 ≡ finals 0 false false true
unfolding finals_of finality_of is_final bad_asked
third-makes = refl

pub fourth-makes : finals_of (by 2 2) (1 ∷ 1 ∷ 1 ∷ 1 ∷ []) 1 1 ≡ finals 0 true true true
unfolding finals_of finality_of is_final bad_asked
fourth-makes = refl

-- 7 of a mark that only the question about the left neighbour reads, its lower one: 2 by 2
pub left-refused : finals_of (by 2 2) (1 ∷ 1 ∷ 9 ∷ 0 ∷ []) 1 0 ≡ finals 7 false false false
unfolding finals_of finality_of is_final bad_asked
left-refused = refl
