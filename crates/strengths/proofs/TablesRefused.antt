-- Wrong calls with tables that look right, each shown to break the promise on one macroblock. Assumes
-- nothing.
use mathlib.Core.Path.{◌≡◌, refl}
use mathlib.Core.Bool.{false}
use mathlib.Core.List.{List, [], ◌∷◌}
use Prim.Native.Nat.{ℕ}
use native.Mathlib.Omega.{arith}
use borrow.Author.Tests.{ltb-true}
use lib.Dec.{eqb}
use lib.IntN.{ℤ, pos, negsuc}
use lib.ListN.{get_or}
use Rattle.laws.specs.Some.{some}
use Rattle.motion.specs.Far.{outside}
use Rattle.motion.specs.Grids.{Grids, ref_at, vector_at, block_of, block_read, blk_at}
use Rattle.motion.specs.Motion.{used, mismatched, differ, inter_strength}
use Rattle.motion.specs.Pictures.{none, named_by}
use Rattle.motion.specs.declared.blocks.Blk.{Blk}
use Rattle.sizes.specs.Entries.{flag_at}
use Rattle.strengths.specs.Blocks.{some_read}
use Rattle.strengths.specs.Calls.{answer_of, DeriveOutcome}
use Rattle.strengths.specs.Checks.{bad_table, disagree}
use Rattle.strengths.specs.Strength.{frame, coded, between, strength_at, written}
use Rattle.strengths.proofs.BeforePictures.{stored_block, strength_from}
use Rattle.strengths.proofs.Examples.{one_mb}
use Rattle.strengths.proofs.Refused.{unwritten, agree}
use Rattle.strengths.proofs.Tables.{with_tables}
use Rattle.strengths.proofs.TablesExamples.{one_list, two_lists}

-- a call that writes the strengths of other blocks
abbrev Writes : Grids → (ℕ → Blk) → List ℕ → Type 0
Writes g block s = s ≡ written 0 (strength_from block frame g 1 (flag_at []) 0 0) unwritten

-- indices compared: indices 1 and 0 name one picture, and byte 4 has 0
abbrev one_picture : Grids
one_picture = one_list (pos 1) (pos 0) (pos 7 ∷ pos 7 ∷ [])

pub indices-compared : (s : List ℕ) → Writes one_picture (stored_block one_picture) s → DeriveOutcome one_mb false 0 0 [] one_picture false unwritten 0 s → ⊥
unfolding strength_at coded flag_at between block_read inter_strength named_by differ mismatched used outside
indices-compared s e r =
    let z : ◌≡◌ {A = ℕ} 1 0 = agree (strength_from (stored_block one_picture) frame one_picture 1 (flag_at []) 0 0) (strength_at frame one_picture 1 (flag_at []) 0 0) 4 (ltb-true 4 32 refl) e r.leaves in
    omega arith

-- list 0's table used for list 1: picture 7 by list 0, picture 9 by list 1, and byte 4 has 1
abbrev two_pictures : Grids
two_pictures = two_lists (pos 0) none none (pos 0) (pos 7 ∷ []) (pos 9 ∷ [])

pub table0-for-list1 : (s : List ℕ) → Writes two_pictures (blk_at (with_tables two_pictures (pos 7 ∷ []) (pos 7 ∷ []))) s
    → DeriveOutcome one_mb false 0 0 [] two_pictures false unwritten 0 s → ⊥
unfolding strength_at coded flag_at between block_read inter_strength named_by differ mismatched used outside
table0-for-list1 s e r =
    let z : ◌≡◌ {A = ℕ} 0 1 = agree (strength_from (blk_at (with_tables two_pictures (pos 7 ∷ []) (pos 7 ∷ []))) frame two_pictures 1 (flag_at []) 0 0) (strength_at frame two_pictures 1 (flag_at []) 0 0) 4 (ltb-true 4 32 refl) e r.leaves in
    omega arith

-- a past index taken as picture 0: index 1 is past, index 0 is picture 0, and byte 4 has 1
abbrev one_none : Grids
one_none = one_list (pos 1) (pos 0) (pos 0 ∷ [])

abbrev past_zero : List ℤ → ℤ → ℤ
past_zero t (pos i) = get_or t i (pos 0)
past_zero t (negsuc i) = none

abbrev zero_block : ℕ → Blk
zero_block i =
    block_of (eqb (get_or one_none.inter i 0) 1) (vector_at (past_zero one_none.pictures0 (ref_at one_none.ref0 i)) one_none.mv0 i) (vector_at none [] i)

pub past-as-0 : (s : List ℕ) → Writes one_none zero_block s → DeriveOutcome one_mb false 0 0 [] one_none false unwritten 0 s → ⊥
unfolding strength_at coded flag_at between block_read inter_strength named_by differ mismatched used outside
past-as-0 s e r =
    let z : ◌≡◌ {A = ℕ} 0 1 = agree (strength_from zero_block frame one_none 1 (flag_at []) 0 0) (strength_at frame one_none 1 (flag_at []) 0 0) 4 (ltb-true 4 32 refl) e r.leaves in
    omega arith

-- an entry out of range let through because no block names it
pub entry-unasked : (s : List ℕ) → DeriveOutcome one_mb false 0 0 [] (one_list (pos 0) (pos 0) (pos 7 ∷ pos 65536 ∷ [])) false unwritten 0 s → ⊥
unfolding answer_of some_read some disagree bad_table
entry-unasked s r = let z : ◌≡◌ {A = ℕ} 0 22 = r.says in omega arith

-- just list 0's table taken where list 1 is lent
pub one-table-taken : (s : List ℕ) → DeriveOutcome one_mb false 0 0 [] (two_lists (pos 0) (pos 0) (pos 0) (pos 0) (pos 7 ∷ []) []) false unwritten 0 s → ⊥
unfolding answer_of some_read some disagree bad_table
one-table-taken s r = let z : ◌≡◌ {A = ℕ} 0 5 = r.says in omega arith
