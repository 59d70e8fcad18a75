-- A table that is read through record by record: none of them, one more, all; and what such a reading keeps,
-- from its beginning, over a turn, to its end. The calls look for each of both instead (`any_bad`); these
-- laws say that one reading comes to the same. Assumes nothing.
use mathlib.Core.Path.{◌≡◌, refl, ap, ◌∙◌}
use mathlib.Core.Bool.{Bool, false, ◌||◌}
use mathlib.Core.List.{List}
use Prim.Native.Nat.{ℕ, ◌+◌, ◌<◌, ◌≤◌, zero-le}
use native.Mathlib.Nat.{le_antisymm}
use native.Mathlib.Omega.{arith}
use lib.ListN.{length}
use Rattle.laws.proofs.Some.{some-none, some_more}
use Rattle.laws.specs.Some.{some}
use Rattle.slices.specs.declared.SliceRecord.{SliceRecord}
use Rattle.slices.specs.Table.{record_of, bad_pair, bad_mode, some_bad_pair, some_bad_mode}

-- what a table comes to: the number of its records, and whether one of them, used or not, has an offset out
-- of range or an unknown mode
pub record Survey : Type 0 where
  pub count : ℕ
  pub bad_pair : Bool
  pub bad_mode : Bool

abbrev pub surveyed : ℕ → Bool → Bool → Survey
surveyed n six m = record { count = n; bad_pair = six; bad_mode = m }

abbrev pub seen : Survey → SliceRecord → Survey
seen s r = surveyed s.count (s.bad_pair || bad_pair r) (s.bad_mode || bad_mode r)

unfoldable pub survey_up : List SliceRecord → ℕ → Survey
survey_up t n = surveyed (length t) (some n (λ k. bad_pair (record_of t k))) (some n (λ k. bad_mode (record_of t k)))

abbrev pub survey_of : List SliceRecord → Survey
survey_of t = surveyed (length t) (some_bad_pair t) (some_bad_mode t)

pub none_yet : (t : List SliceRecord) → surveyed (length t) false false ≡ survey_up t 0
unfolding survey_up
none_yet t = λ i. surveyed (length t) (some-none (λ k. bad_pair (record_of t k)) i) (some-none (λ k. bad_mode (record_of t k)) i)

pub one_more : (t : List SliceRecord) (n : ℕ) → seen (survey_up t n) (record_of t n) ≡ survey_up t (n + 1)
unfolding survey_up
one_more t n = λ i. surveyed (length t) (some_more n (λ k. bad_pair (record_of t k)) refl refl i) (some_more n (λ k. bad_mode (record_of t k)) refl refl i)

pub whole_survey : (t : List SliceRecord) → survey_up t (length t) ≡ survey_of t
unfolding survey_up some_bad_pair some_bad_mode
whole_survey t = refl

module _ (table : List SliceRecord) (s : Survey) (s-is : s ≡ surveyed (length table) false false) where
  pub record survey-of-Inv (s1 : Survey) (i1 : ℕ) : Type 0 where
    pub high : i1 ≤ length table
    pub so_far : s1 ≡ survey_up table i1

  pub survey-of-begins : survey-of-Inv s 0
  survey-of-begins = record { high = zero-le; so_far = s-is ∙ none_yet table }

  pub survey-of-turns : (s1 : Survey) (i1 : ℕ) → i1 < length table → survey-of-Inv s1 i1 → (r : SliceRecord) → r ≡ record_of table i1 → (s2 : Survey) → s2 ≡ seen s1 r
      → survey-of-Inv s2 (i1 + 1)
  survey-of-turns s1 i1 less inv r r-is s2 s2-is =
      record { high = omega (arith, less); so_far = s2-is ∙ (λ i. seen (inv.so_far i) (r-is i)) ∙ one_more table i1 }

  pub survey-of-ends : (s1 : Survey) (i1 : ℕ) → length table ≤ i1 → survey-of-Inv s1 i1 → s1 ≡ survey_of table
  survey-of-ends s1 i1 past inv = inv.so_far ∙ ap (survey_up table) (le_antisymm inv.high past) ∙ whole_survey table
