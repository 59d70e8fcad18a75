-- The picture that a reference names: worked examples, and laws for the grids and the crates above. Assumes
-- nothing.
use Rattle.std.proofs.Common.{◌≡◌, ◌<◌, ◌≤◌, true, false, T, List, [], ◌∷◌, map, length, get_or, ℤ, pos, negsuc, nat_abs, sym, refl, true≢false, not-suc-le-zero, arith, ltb-true}
use lib.ListN.{get_or-eq_default}
use lib.Signed.{lt_z, non_neg}
use Rattle.laws.proofs.Lists.{within-any}
use Rattle.motion.specs.Pictures.{none, picture_in, named_by}

-- ---- by the table 7, 9, 7 indices 0 and 2 name one picture, and 3 is past it. With no table a reference is
-- its own number
examples : (map (named_by (pos 7 ∷ pos 9 ∷ pos 7 ∷ [])) (negsuc 0 ∷ pos 0 ∷ pos 1 ∷ pos 2 ∷ pos 3 ∷ []) ≡ none ∷ pos 7 ∷ pos 9 ∷ pos 7 ∷ none ∷ [])
    × (map (named_by []) (negsuc 0 ∷ pos 0 ∷ pos 3 ∷ []) ≡ none ∷ pos 0 ∷ pos 3 ∷ [])
unfolding named_by
examples = (refl, refl)

-- ---- none is none by every table
pub none_named : (pictures : List ℤ) → named_by pictures none ≡ none
unfolding named_by
none_named [] = refl
none_named (p ∷ pictures) = refl

-- ---- an index below 0, one that is past the table, and one that it holds
pub index-nonneg : (r : ℤ) → lt_z r (pos 0) ≡ false → T (non_neg r)
index-nonneg (pos i) e = tt
index-nonneg (negsuc i) e = absurd (true≢false e)

module _ (pictures : List ℤ) where
  pub below-named : (r : ℤ) → lt_z r (pos 0) ≡ true → none ≡ picture_in pictures r
  below-named (pos i) e = absurd (not-suc-le-zero (ltb-true i 0 e))
  below-named (negsuc i) e = refl

  pub past-named : (r : ℤ) → length pictures ≤ nat_abs r → none ≡ picture_in pictures r
  past-named (pos i) h = sym (get_or-eq_default pictures none {n = i} h)
  past-named (negsuc i) h = refl

  pub held-named : (r : ℤ) → lt_z r (pos 0) ≡ false → nat_abs r < length pictures → get_or pictures (nat_abs r) (pos 0) ≡ picture_in pictures r
  held-named (pos i) e h = within-any pictures i (pos 0) none h
  held-named (negsuc i) e h = absurd (true≢false e)

-- ---- a table that is not empty is asked, and one that is empty is not
pub by_entry : (pictures : List ℤ) (r : ℤ) → (length pictures ≡ 0 → ⊥) → picture_in pictures r ≡ named_by pictures r
unfolding named_by
by_entry [] r h = absurd (h refl)
by_entry (p ∷ pictures) r h = refl

pub by_number : (pictures : List ℤ) (r : ℤ) → length pictures ≡ 0 → r ≡ named_by pictures r
unfolding named_by
by_number [] r e = refl
by_number (p ∷ pictures) r e = absurd (no e)
  where
    no : length (p ∷ pictures) ≡ 0 → ⊥
    no e = omega arith
