use Rattle.std.proofs.Common.{◌≡◌, ℕ, Bool, true, false, not, ◌&&◌, ◌||◌, List, ltb, ℤ, negsuc, length, refl, sym, ap, ◌∙◌, arith}
use borrow.Author.Tests.{eqb-true, eqb-false}
use lib.ListN.{get_or-eq_default}
use lib.Signed.{lt_z}
use Rattle.laws.proofs.Some.{some-idle}
use Rattle.strengths.specs.Blocks.{own_block, left_block, above_block, some_read}
use Rattle.strengths.specs.Checks.{below_none}
use Rattle.strengths.proofs.ReadPlaces.{beside_within}
use Rattle.strengths.proofs.checks.bad_list.Goals as goal

-- a test that no block passes
idle : (w x y : ℕ) (f : ℕ → Bool) → ((i : ℕ) → f i ≡ false) → some_read w x y f ≡ false
unfolding some_read
idle w x y f h =
    rw (some-idle 4 _ (λ r. some-idle 4 (λ c. f (own_block w x y r c)) (λ c. h _)), some-idle 4 (λ k. f (left_block w x y k)) (λ k. h _), some-idle 4 (λ k. f (above_block w x y k)) (λ k. h _))
    (neither (ltb 0 x) (ltb 0 y))
  where
    neither : (s t : Bool) → (false || (s && false) || (t && false)) ≡ false
    neither true true = refl
    neither true false = refl
    neither false true = refl
    neither false false = refl

empty : (refs : List ℤ) → length refs ≡ 0 → (i : ℕ) → below_none refs i ≡ false
empty refs h i = ap (λ (size : ℤ). lt_z size (negsuc 0)) (get_or-eq_default refs (negsuc 0) {n = i} (omega (arith, h)))

pub some_read-requires : goal.some_read-requires
some_read-requires c =
    let p = c.args.blocks.place in
    let refs = c.args.list.now.references.now in
    let e : length refs ≡ 0 → ⊥ = eqb-false (length refs) 0 (sym c.is_empty.ensures ∙ c.if-not-is_empty.true) in
    λ i b κs ref met ranges sizes u. beside_within (c.requires (omega (arith, e))) b

pub returns-else-not-is_empty : goal.returns-else-not-is_empty
returns-else-not-is_empty c =
    let p = c.args.blocks.place in
    let refs = c.args.list.now.references.now in
    ap not c.if-not-is_empty.false ∙ sym (idle p.w p.x p.y (below_none refs) (empty refs (eqb-true (length refs) 0 (sym c.is_empty.ensures ∙ c.if-not-is_empty.false))))
