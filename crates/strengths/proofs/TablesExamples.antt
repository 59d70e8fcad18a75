-- Worked examples of tables, by computing; they read with docs/RULES.md, "Strengths" and "Answers". One
-- inter macroblock without counts and with vectors 0, whose first block alone has other references: bytes 4
-- and 20 stand between it and the blocks to its right and below it. Assumes nothing.
use mathlib.Core.Path.{◌≡◌, refl, sym, ap, ◌∙◌}
use mathlib.Core.Bool.{true, false, cond}
use mathlib.Core.List.{List, [], ◌∷◌, map, replicate}
use Prim.Native.Nat.{ℕ, zero, suc, ◌<◌}
use native.Mathlib.Decide.{ℕ_discrete}
use native.Mathlib.Omega.{arith}
use borrow.Author.Tests.{ne_eqb}
use lib.Dec.{eqb, ltb, lit≤}
use lib.IntN.{ℤ, pos, negsuc}
use lib.ListN.{get_or}
use Rattle.laws.specs.Some.{some, every}
use Rattle.motion.specs.Far.{outside}
use Rattle.motion.specs.Grids.{Grids, grids, block_read}
use Rattle.motion.specs.Motion.{used, mismatched, differ, inter_strength, same_motion}
use Rattle.motion.specs.Pictures.{none, named_by}
use Rattle.sizes.specs.Entries.{flag_at}
use Rattle.strengths.specs.Blocks.{some_read}
use Rattle.strengths.specs.Calls.{answer_of}
use Rattle.strengths.specs.Checks.{bad_table, disagree}
use Rattle.strengths.specs.Kinds.{uniform, flat}
use Rattle.strengths.specs.Strength.{frame, coded, between, strength_at}
use Rattle.strengths.proofs.Examples.{one_mb}
use Rattle.strengths.proofs.IdentityTables.{Itself}
use Rattle.strengths.proofs.RenamedPictures.{Renaming}

-- list 0 has a in the first block and b in the others, and this table; list 1 is not lent
abbrev pub one_list : ℤ → ℤ → List ℤ → Grids
one_list a b p = grids (replicate 16 1) (replicate 16 0) (a ∷ replicate 15 b) (replicate 32 (pos 0)) [] [] p []

-- list 1 likewise has c and d
abbrev pub two_lists : ℤ → ℤ → ℤ → ℤ → List ℤ → List ℤ → Grids
two_lists a b c d p q =
    grids (replicate 16 1) (replicate 16 0) (a ∷ replicate 15 b) (replicate 32 (pos 0)) (c ∷ replicate 15 d) (replicate 32 (pos 0)) p q

abbrev byte4 : Grids → ℕ
byte4 g = strength_at frame g 1 (flag_at []) 0 0 4

-- indices 1 and 0: two numbers, two pictures, one picture
two-indices : (map (λ p. byte4 (one_list (pos 1) (pos 0) p)) ([] ∷ (pos 7 ∷ pos 9 ∷ []) ∷ (pos 7 ∷ pos 7 ∷ []) ∷ []) ≡ 1 ∷ 1 ∷ 0 ∷ [])
unfolding strength_at coded flag_at between block_read inter_strength named_by differ mismatched used outside
two-indices = refl

-- an index past the table is no reference: beside index 0 there is one more used, beside another past index
-- and beside -1 there is none on either side
past : (byte4 (one_list (pos 2) (pos 0) (pos 0 ∷ pos 7 ∷ [])) ≡ 1)
    × (byte4 (one_list (pos 2) (pos 127) (pos 0 ∷ pos 7 ∷ [])) ≡ 0)
    × (byte4 (one_list (pos 2) none (pos 0 ∷ pos 7 ∷ [])) ≡ 0)
unfolding strength_at coded flag_at between block_read inter_strength named_by differ mismatched used outside
past = (refl, refl, refl)

-- a picture is the same whichever list names it: picture 9 by index 1 of list 0 and by index 0 of list 1;
-- index 0 of both lists, picture 7 and picture 9
either-list : (byte4 (two_lists (pos 1) none none (pos 0) (pos 7 ∷ pos 9 ∷ []) (pos 9 ∷ [])) ≡ 0)
    × (byte4 (two_lists (pos 0) none none (pos 0) (pos 7 ∷ pos 9 ∷ []) (pos 9 ∷ [])) ≡ 1)
unfolding strength_at coded flag_at between block_read inter_strength named_by differ mismatched used outside
either-list = (refl, refl)

-- uniform and flat are judged on pictures
one-motion : (map (λ p. uniform (one_list (pos 1) (pos 0) p) 1 0 0) ([] ∷ (pos 7 ∷ pos 9 ∷ []) ∷ (pos 7 ∷ pos 7 ∷ []) ∷ []) ≡ false ∷ false ∷ true ∷ [])
    × (flat (one_list (pos 1) (pos 0) (pos 7 ∷ pos 7 ∷ [])) 1 0 0 ≡ true)
    × (flat (one_list (pos 2) none (pos 7 ∷ pos 7 ∷ [])) 1 0 0 ≡ true)
unfolding uniform flat every same_motion block_read named_by
one-motion = (refl, refl, refl)

-- check 5: just list 1's table, whether list 1 is lent or not; just list 0's where list 1 is lent. Where it
-- is not that is done
abbrev asked : Grids → ℕ
asked g = answer_of one_mb 0 0 [] g false 32

one_table : (asked (grids (replicate 16 1) (replicate 16 0) (replicate 16 (pos 0)) (replicate 32 (pos 0)) [] [] [] (pos 7 ∷ [])) ≡ 5)
    × (map (λ p. asked (two_lists (pos 0) (pos 0) (pos 0) (pos 0) p (pos 7 ∷ []))) ([] ∷ (pos 7 ∷ []) ∷ []) ≡ 5 ∷ 0 ∷ [])
    × (asked (two_lists (pos 0) (pos 0) (pos 0) (pos 0) (pos 7 ∷ []) []) ≡ 5)
    × (asked (one_list (pos 0) (pos 0) (pos 7 ∷ [])) ≡ 0)
unfolding answer_of some_read some disagree bad_table
one_table = (refl, refl, refl, refl)

-- check 22: the limits, in an entry that no block names; in list 1's table where list 1 is not lent; after
-- 10, and before 11
numbers : (map (λ p. asked (one_list (pos 0) (pos 0) (pos 7 ∷ p ∷ []))) (negsuc 0 ∷ pos 0 ∷ pos 65535 ∷ pos 65536 ∷ []) ≡ 22 ∷ 0 ∷ 0 ∷ 22 ∷ [])
    × (asked (grids (replicate 16 1) (replicate 16 0) (replicate 16 (pos 0)) (replicate 32 (pos 0)) [] [] (pos 7 ∷ []) (pos 65536 ∷ [])) ≡ 22)
    × (asked (one_list (negsuc 1) (pos 0) (pos 65536 ∷ [])) ≡ 10)
    × (asked (grids (0 ∷ replicate 15 1) (replicate 16 0) (replicate 16 (pos 0)) (replicate 32 (pos 0)) [] [] (pos 65536 ∷ []) []) ≡ 22)
unfolding answer_of some_read some disagree bad_table
numbers = (refl, refl, refl, refl)

-- ---- pictures 7 and 9 exchanged are renamed one to one, and the table 0, 1, 2 names each index by itself
abbrev exchange : ℕ → ℕ
exchange p = cond (eqb p 7) 9 (cond (eqb p 9) 7 p)

exchange-twice : (p : ℕ) → exchange (exchange p) ≡ p
exchange-twice p = go (ℕ_discrete p 7) (ℕ_discrete p 9)
  where
    go : Dec (p ≡ 7) → Dec (p ≡ 9) → exchange (exchange p) ≡ p
    go (yes e) h = ap (λ (n : ℕ). exchange (exchange n)) e ∙ sym e
    go (no h) (yes e) = ap (λ (n : ℕ). exchange (exchange n)) e ∙ sym e
    go (no h) (no k) = rw (ne_eqb p 7 h, ne_eqb p 9 k, ne_eqb p 7 h, ne_eqb p 9 k)

exchanged : Renaming exchange
exchanged = record {
  one-to-one = λ p q e. sym (exchange-twice p) ∙ ap exchange e ∙ exchange-twice q;
  numbers = λ p. go p (ℕ_discrete p 7) (ℕ_discrete p 9);
}
  where
    go : (p : ℕ) → Dec (p ≡ 7) → Dec (p ≡ 9) → ltb 65535 (exchange p) ≡ ltb 65535 p
    go p (yes e) h = ap (λ (n : ℕ). ltb 65535 (exchange n)) e ∙ sym (ap (ltb 65535) e)
    go p (no h) (yes e) = ap (λ (n : ℕ). ltb 65535 (exchange n)) e ∙ sym (ap (ltb 65535) e)
    go p (no h) (no k) = rw (ne_eqb p 7 h, ne_eqb p 9 k)

by_itself : Itself (pos 0 ∷ pos 1 ∷ pos 2 ∷ [])
by_itself = record { each = each; numbers = lit≤ tt }
  where
    each : (i : ℕ) → i < 3 → get_or (pos 0 ∷ pos 1 ∷ pos 2 ∷ []) i none ≡ pos i
    each zero h = refl
    each (suc zero) h = refl
    each (suc (suc zero)) h = refl
    each (suc (suc (suc i))) h = absurd (omega arith)
