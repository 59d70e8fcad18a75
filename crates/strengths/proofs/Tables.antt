-- Grids with other tables, and the checks of a strength call as far as they ask about tables: the list of
-- checks by what is told of 5, 10 and 22, and what 5 tells once it has passed. Assumes nothing.
use mathlib.Core.Path.{◌≡◌, refl, sym, ap, ◌∙◌}
use mathlib.Core.Bool.{Bool, false, not, ◌&&◌, ◌||◌, true≢false}
use mathlib.Core.List.{List, [], ◌∷◌}
use Prim.Native.Nat.{ℕ, ◌*◌}
use native.Mathlib.Decide.{ℕ_discrete}
use borrow.Author.Tests.{eq-eqb, ne_eqb}
use lib.Dec.{eqb}
use lib.IntN.{ℤ}
use lib.ListN.{length}
use Rattle.laws.specs.Refusal.{refusal}
use Rattle.laws.specs.Some.{some}
use Rattle.laws.proofs.Bools.{or-false}
use Rattle.laws.proofs.Refusal.{passes}
use Rattle.motion.specs.Grids.{Grids, grids}
use Rattle.sizes.specs.Sizes.{bad_size, outside_of}
use Rattle.sizes.specs.declared.Size.{Size}
use Rattle.strengths.specs.Calls.{derive_checks}
use Rattle.strengths.specs.Checks.{bad_by_macroblock, bad_grids, one_table, bad_inter, bad_flags, bad_table, disagree}

-- the same grids with these tables
abbrev pub with_tables : Grids → List ℤ → List ℤ → Grids
with_tables g p q = grids g.inter g.nnz g.ref0 g.mv0 g.ref1 g.mv1 p q

-- ---- all checks but 12
abbrev pub checks_by : Size → ℕ → ℕ → List ℕ → Grids → ℕ → Bool → Bool → Bool → List (ℕ × Bool)
checks_by size x y t8s g n five ten pictures =
    (1, bad_size size)
    ∷ (2, outside_of size x y)
    ∷ (4, bad_by_macroblock (size.w * size.h) n (length t8s))
    ∷ (5, five)
    ∷ (7, bad_inter g size.w x y || bad_flags t8s size.w x y)
    ∷ (10, ten)
    ∷ (22, pictures)
    ∷ (11, disagree g.inter size.w x y)
    ∷ []

-- check 5, of the tables
abbrev pub tables_fit : Grids → Type 0
tables_fit g = one_table (length g.ref1) (length g.pictures0) (length g.pictures1) ≡ false

pub passed-tables : (size : Size) (x y : ℕ) (t8s : List ℕ) (g : Grids) (n : ℕ) → refusal (derive_checks size x y t8s g n) ≡ 0 → tables_fit g
passed-tables size x y t8s g n e = (or-false (bad_grids (16 * (size.w * size.h)) g) _ (passes 5 (derive_checks size x y t8s g n) tt e)).1

-- both are empty, or list 0's is not, and then list 1's is not or list 1 is not lent
module _ (r p q : ℕ) (e : one_table r p q ≡ false) where
  pub neither : p ≡ 0 → q ≡ 0
  neither z = go (ℕ_discrete q 0)
    where
      go : Dec (q ≡ 0) → q ≡ 0
      go (yes h) = h
      go (no h) = absurd (true≢false (sym (λ i. (eq-eqb p 0 z i && not (ne_eqb q 0 h i)) || (not (eqb p 0) && eqb q 0 && not (eqb r 0))) ∙ e))

  pub unlent : (p ≡ 0 → ⊥) → q ≡ 0 → r ≡ 0
  unlent f z = go (ℕ_discrete r 0)
    where
      one : one_table r p q ≡ not (eqb r 0)
      one = λ i. (ne_eqb p 0 f i && not (eq-eqb q 0 z i)) || (not (ne_eqb p 0 f i) && eq-eqb q 0 z i && not (eqb r 0))

      go : Dec (r ≡ 0) → r ≡ 0
      go (yes h) = h
      go (no h) = absurd (true≢false (sym (ap not (ne_eqb r 0 h)) ∙ sym one ∙ e))

-- check 22, of an empty table
pub empty-good : bad_table [] ≡ false
unfolding bad_table some
empty-good = refl
