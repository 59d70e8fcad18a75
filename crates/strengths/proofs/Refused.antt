-- Wrong calls that look right, each shown to break the promise on a small input: one macroblock of 16 blocks,
-- or two. Assumes nothing.
use mathlib.Core.Path.{◌≡◌, refl, sym, ap, ◌∙◌}
use mathlib.Core.Bool.{Bool, true, false, ◌&&◌, false≢true}
use mathlib.Core.List.{List, [], ◌∷◌, ◌++◌, replicate}
use Prim.Native.Nat.{ℕ, ◌+◌, ◌*◌, ◌%◌, ◌≤◌, ◌<◌}
use native.Mathlib.Omega.{arith}
use borrow.Author.Tests.{ltb-true}
use lib.Dec.{eqb}
use lib.IntN.{pos, negsuc}
use lib.ListN.{length, get_or}
use Rattle.laws.specs.Refusal.{refusal}
use Rattle.laws.specs.Some.{some}
use Rattle.motion.specs.Far.{outside}
use Rattle.motion.specs.Grids.{Grids, grids, counted, block_read, blk_at}
use Rattle.motion.specs.Motion.{used, mismatched, differ, inter_strength}
use Rattle.motion.specs.Pictures.{named_by}
use Rattle.sizes.specs.Entries.{flag_at}
use Rattle.strengths.specs.Blocks.{some_read}
use Rattle.strengths.specs.Checks.{bad_inter, bad_refs, bad_table, disagree}
use Rattle.strengths.specs.Calls.{length_checks, answer_of, DeriveOutcome}
use Rattle.strengths.specs.Strength.{vertical, edge, q_block, p_block, frame, field, skipped, coded, between, strength_at, written}
use Rattle.strengths.specs.ByKind.{strength_by}
use Rattle.strengths.specs.Eights.{coded_by}
use Rattle.strengths.specs.declared.kinds.MbKind.TheVariants.{InterUniform}
use Rattle.strengths.proofs.Examples.{one_mb, intra, answered, border-zero, inside-three, beside_moved, first_moved, moved_by, high, wide_two, two_intra}
use Rattle.strengths.proofs.Written.{written_at}

-- a strengths grid of one macroblock, nothing written
abbrev pub unwritten : List ℕ
unwritten = replicate 32 0

-- where macroblock i of t holds f and is to hold h, the two agree at each byte
pub agree-in : (i : ℕ) (t : List ℕ) → 32 * i + 32 ≤ length t → (f h : ℕ → ℕ) {s : List ℕ} (k : ℕ) → k < 32 → s ≡ written i f t → s ≡ written i h t → f k ≡ h k
agree-in i t m f h k l p q =
    sym (written_at i f t k l m) ∙ ap (λ (u : List ℕ). get_or u (32 * i + k) 0) (sym p ∙ q) ∙ written_at i h t k l m

pub agree : (f h : ℕ → ℕ) {s : List ℕ} (k : ℕ) → k < 32 → s ≡ written 0 f unwritten → s ≡ written 0 h unwritten → f k ≡ h k
agree = agree-in 0 unwritten (omega arith)

-- ---- a strength call that always refuses
pub always_refuses : (n : ℕ) (s : List ℕ) → (n ≡ 0 → ⊥) → DeriveOutcome one_mb false 0 0 [] intra false unwritten n s → ⊥
always_refuses n s h r = h (r.says ∙ answered)

-- ---- one that writes the same strength everywhere: an intra macroblock by itself has 0 on its outer and 3
-- on its inner edges
pub constant : (c : ℕ) (s : List ℕ) → ((k : ℕ) → k < 32 → get_or s k 0 ≡ c) → DeriveOutcome one_mb false 0 0 [] intra false unwritten 0 s → ⊥
constant c s h r =
    let f = strength_at frame intra 1 (flag_at []) 0 0 in
    let p : c ≡ 0 = sym (h 0 (ltb-true 0 32 refl)) ∙ ap (λ (t : List ℕ). get_or t 0 0) r.leaves ∙ written_at 0 f unwritten 0 (ltb-true 0 32 refl) (omega arith) ∙ border-zero in
    let q : c ≡ 3 = sym (h 4 (ltb-true 4 32 refl)) ∙ ap (λ (t : List ℕ). get_or t 4 0) r.leaves ∙ written_at 0 f unwritten 4 (ltb-true 4 32 refl) (omega arith) ∙ inside-three in
    omega arith

-- ---- the 8x8 transform honoured on vertical edges only: byte 20 is the first of horizontal edge 1
abbrev upright : Bool → ℕ → Bool
upright t8 k = t8 && vertical k && eqb (edge k % 2) 1

pub not-upright : ((k : ℕ) → upright true k ≡ skipped true k) → ⊥
not-upright h = false≢true (h 20)

-- ---- motion inside a macroblock not compared, as if it were uniform: the first block moves, and byte 4,
-- between it and the next, has 1
pub not-as-uniform : strength_by InterUniform frame (first_moved (pos 4) (pos 0)) 1 (record { own = false; left = false; above = false }) 0 0 4 ≡ moved_by frame (pos 4) (pos 0) 4 → ⊥
unfolding strength_by coded_by strength_at coded flag_at between block_read inter_strength named_by differ mismatched used outside
not-as-uniform e = let k : ◌≡◌ {A = ℕ} 0 1 = e in omega arith

-- ---- one block's coefficients ignored: only the block to the left has any, and byte 0 has 2
abbrev q_count : Grids → ℕ → ℕ → ℕ → ℕ → ℕ
q_count g w x y k = between 3 3 (counted g.nnz (q_block w x y k)) (blk_at g (p_block w x y k)) (blk_at g (q_block w x y k))

pub not-own-count : q_count beside_moved 2 1 0 0 ≡ strength_at frame beside_moved 2 (flag_at []) 1 0 0 → ⊥
unfolding strength_at coded flag_at between block_read inter_strength named_by differ mismatched used outside
not-own-count e = let k : ◌≡◌ {A = ℕ} 1 2 = e in omega arith

-- ---- 11 before 10: block 5 alone is inter, and its reference is -2. The answer is 10
abbrev mixed_inter : Grids
mixed_inter =
    grids
    (replicate 5 0 ++ 1 ∷ replicate 10 0)
    (replicate 16 0)
    (replicate 5 (negsuc 0) ++ negsuc 1 ∷ replicate 10 (negsuc 0))
    (replicate 32 (pos 0))
    [] [] [] []

abbrev exchanged : ℕ
exchanged = refusal (length_checks one_mb 0 0 [] mixed_inter 32 ++ (7, bad_inter mixed_inter 1 0 0) ∷ (11, disagree mixed_inter.inter 1 0 0) ∷ (10, bad_refs mixed_inter 1 0 0) ∷ [])

pub not-exchanged : exchanged ≡ answer_of one_mb 0 0 [] mixed_inter false 32 → ⊥
unfolding answer_of some_read some disagree bad_table
not-exchanged e = let k : ◌≡◌ {A = ℕ} 11 10 = e in omega arith

-- ---- 4 on the upper edge of a field: byte 16 of the lower of two intra macroblocks has 3
pub field-not-4 : (s : List ℕ) → get_or s 48 0 ≡ 4 → DeriveOutcome high true 0 1 [] two_intra false (replicate 64 0) 0 s → ⊥
unfolding strength_at coded flag_at between block_read
field-not-4 s e r =
    let z : ◌≡◌ {A = ℕ} 4 3 = sym e ∙ ap (λ (t : List ℕ). get_or t 48 0) r.leaves ∙ written_at 1 (strength_at field two_intra 1 (flag_at []) 0 1) (replicate 64 0) 16 (ltb-true 16 32 refl) (omega arith) in
    omega arith

-- ---- 3 on the left edge of a field too: byte 0 of the right one has 4
pub field-left-not-3 : (s : List ℕ) → get_or s 32 0 ≡ 3 → DeriveOutcome wide_two true 1 0 [] two_intra false (replicate 64 0) 0 s → ⊥
unfolding strength_at coded flag_at between block_read
field-left-not-3 s e r =
    let z : ◌≡◌ {A = ℕ} 3 4 = sym e ∙ ap (λ (t : List ℕ). get_or t 32 0) r.leaves ∙ written_at 1 (strength_at field two_intra 2 (flag_at []) 1 0) (replicate 64 0) 0 (ltb-true 0 32 refl) (omega arith) in
    omega arith

-- ---- far from 4 on in a field, as in a frame: the first block moves down by 2, and byte 4 has 1
pub field-not-late : (s : List ℕ) → s ≡ written 0 (moved_by (record { limit = 3; upper = 3 }) (pos 0) (pos 2)) unwritten
    → DeriveOutcome one_mb true 0 0 [] (first_moved (pos 0) (pos 2)) false unwritten 0 s → ⊥
unfolding strength_at coded flag_at between block_read inter_strength named_by differ mismatched used outside
field-not-late s e r =
    let z : ◌≡◌ {A = ℕ} 0 1 = agree (moved_by (record { limit = 3; upper = 3 }) (pos 0) (pos 2)) (moved_by field (pos 0) (pos 2)) 4 (ltb-true 4 32 refl) e r.leaves in
    omega arith

-- ---- a frame call by the mode of fields: there it has 0
pub frame-not-field : (s : List ℕ) → s ≡ written 0 (moved_by field (pos 0) (pos 2)) unwritten
    → DeriveOutcome one_mb false 0 0 [] (first_moved (pos 0) (pos 2)) false unwritten 0 s → ⊥
unfolding strength_at coded flag_at between block_read inter_strength named_by differ mismatched used outside
frame-not-field s e r =
    let z : ◌≡◌ {A = ℕ} 1 0 = agree (moved_by field (pos 0) (pos 2)) (moved_by frame (pos 0) (pos 2)) 4 (ltb-true 4 32 refl) e r.leaves in
    omega arith
