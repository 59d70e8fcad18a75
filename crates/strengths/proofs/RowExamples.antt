-- Worked examples of a row, by computing, on two intra macroblocks, side by side or one above the other; and
-- wrong calls that look right, each shown to break the promise there. Assumes nothing.
use mathlib.Core.Path.{◌≡◌, refl, sym, ap, ◌∙◌}
use mathlib.Core.Bool.{false}
use mathlib.Core.List.{List, [], ◌∷◌, ◌++◌, map, replicate}
use Prim.Native.Nat.{ℕ}
use native.Mathlib.Omega.{arith}
use borrow.Author.Tests.{ltb-true}
use lib.IntN.{pos, negsuc}
use lib.ListN.{length, get_or}
use Rattle.laws.specs.Loop.{up_to}
use Rattle.laws.specs.Some.{some, every}
use Rattle.motion.specs.Grids.{Grids, grids, block_read}
use Rattle.sizes.specs.Entries.{flag_at}
use Rattle.strengths.specs.Blocks.{some_read}
use Rattle.strengths.specs.Calls.{answer_of, derive_row_answer, DeriveRowOutcome}
use Rattle.strengths.specs.Checks.{bad_table, disagree}
use Rattle.strengths.specs.Kinds.{uniform, flat}
use Rattle.strengths.specs.Strength.{frame, coded, between, strength_at, written}
use Rattle.strengths.proofs.Examples.{intra, four_rows, high, wide_two, two_intra}
use Rattle.strengths.proofs.Written.{written_at}

abbrev wide : List ℕ → ℕ
wide kinds = derive_row_answer wide_two 0 kinds [] two_intra 64

-- no kinds; both Intra, which is true; the right one Skip, the left one no kind, which are not
told : map wide ([] ∷ (0 ∷ 0 ∷ []) ∷ (0 ∷ 1 ∷ []) ∷ (4 ∷ 0 ∷ []) ∷ []) ≡ 0 ∷ 0 ∷ 12 ∷ 12 ∷ []
unfolding derive_row_answer up_to answer_of some_read some disagree bad_table uniform flat every block_read
told = refl

-- a size without macroblocks; the row below the picture, whatever the kinds; one kind for two macroblocks,
-- even where the grids are too short, which is 5 without it
asked : (derive_row_answer (record { w = 0; h = 1 }) 0 (0 ∷ []) [] two_intra 64 ≡ 1)
    × (derive_row_answer wide_two 1 (0 ∷ []) [] two_intra 64 ≡ 2)
    × (map (λ kinds. derive_row_answer wide_two 0 kinds [] intra 64) ((0 ∷ []) ∷ [] ∷ []) ≡ 4 ∷ 5 ∷ [])
unfolding derive_row_answer up_to answer_of some_read some disagree bad_table
asked = (refl, refl, refl)

-- the kind of the lower macroblock counts in its row; and the first refusal is the answer, not the least: the
-- left macroblock is said to be Skip, 12, and the right one's inter is 2, which is 7
abbrev beside_two : Grids
beside_two = grids (four_rows (replicate 4 0 ++ replicate 4 2)) (replicate 32 0) (replicate 32 (negsuc 0)) (replicate 64 (pos 0)) [] [] [] []

answered : (derive_row_answer high 1 (3 ∷ 0 ∷ []) [] two_intra 64 ≡ 0) × (derive_row_answer wide_two 0 (1 ∷ 0 ∷ []) [] beside_two 64 ≡ 12)
unfolding derive_row_answer up_to answer_of some_read some disagree bad_table uniform flat every block_read
answered = (refl, refl)

-- ---- wrong calls. By the kind of column x in place of macroblock (x, y): in the lower of two rows a true
-- kind is refused for the one above it
by-column : (s s' : List ℕ) → length s ≡ 64 → DeriveRowOutcome high false 1 (3 ∷ 0 ∷ []) [] two_intra s 12 s' → ⊥
by-column s s' l r = no (r.says ∙ ap (derive_row_answer high 1 (3 ∷ 0 ∷ []) [] two_intra) l ∙ answered.0)
  where
    no : ◌≡◌ {A = ℕ} 12 0 → ⊥
    no e = omega arith

-- the least refusal in place of the first
least : (s s' : List ℕ) → length s ≡ 64 → DeriveRowOutcome wide_two false 0 (1 ∷ 0 ∷ []) [] beside_two s 7 s' → ⊥
least s s' l r = no (r.says ∙ ap (derive_row_answer wide_two 0 (1 ∷ 0 ∷ []) [] beside_two) l ∙ answered.1)
  where
    no : ◌≡◌ {A = ℕ} 7 12 → ⊥
    no e = omega arith

-- the left macroblock written before the right one is refused: byte 4, inside it, would have 3
abbrev bare : List ℕ
bare = replicate 64 0

abbrev left : ℕ → ℕ
left = strength_at frame two_intra 2 (flag_at []) 0 0

inside : left 4 ≡ 3
unfolding strength_at coded flag_at between block_read
inside = refl

written-before : DeriveRowOutcome wide_two false 0 (0 ∷ 1 ∷ []) [] two_intra bare 12 (written 0 left bare) → ⊥
written-before r = no (sym inside ∙ sym (written_at 0 left bare 4 (ltb-true 4 32 refl) (omega arith)) ∙ ap (λ (t : List ℕ). get_or t 4 0) r.leaves)
  where
    no : ◌≡◌ {A = ℕ} 3 0 → ⊥
    no e = omega arith
