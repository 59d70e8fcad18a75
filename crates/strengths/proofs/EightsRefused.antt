-- Wrong calls under 8x8 transforms, each shown to break the promise on one macroblock or two. Assumes
-- nothing.
use mathlib.Core.Path.{◌≡◌, refl, sym, ◌∙◌}
use mathlib.Core.Bool.{Bool, true, false, cond, ◌||◌}
use mathlib.Core.List.{List, [], ◌∷◌, replicate}
use Prim.Native.Nat.{ℕ}
use native.Mathlib.Omega.{arith}
use borrow.Author.Tests.{ltb-true}
use Rattle.laws.specs.Some.{some}
use Rattle.motion.specs.Far.{outside}
use Rattle.motion.specs.Grids.{counted, block_read, blk_at}
use Rattle.motion.specs.Motion.{used, mismatched, differ, inter_strength}
use Rattle.motion.specs.Pictures.{named_by}
use Rattle.sizes.specs.Entries.{flag_at}
use Rattle.strengths.specs.Blocks.{in_eight}
use Rattle.strengths.specs.Calls.{DeriveOutcome, KindOutcome}
use Rattle.strengths.specs.Strength.{q_block, p_block, border, frame, intra_strength, skipped, coded, between, strength_at, written}
use Rattle.strengths.specs.declared.kinds.MbKind.TheVariants.{Intra}
use Rattle.strengths.specs.declared.kinds.Request.{Request}
use Rattle.strengths.proofs.Examples.{one_mb, intra, inside-three, wide_two, two_intra}
use Rattle.strengths.proofs.EightsExamples.{left_count, bad-flags}
use Rattle.strengths.proofs.Refused.{unwritten, agree-in, agree}

-- ---- a kind call that does not look at the flag: byte 4, the first of vertical edge 1, has 0 and not 3
abbrev as_intra : Request
as_intra = record { x = 0; y = 0; kind = Intra }

pub kind-ignores-8x8 : (s : List ℕ) → s ≡ written 0 (strength_at frame intra 1 (flag_at []) 0 0) unwritten → KindOutcome one_mb false as_intra (1 ∷ []) intra unwritten 0 s → ⊥
unfolding strength_at flag_at
kind-ignores-8x8 s e r =
    let z : ◌≡◌ {A = ℕ} 3 0 = sym inside-three ∙ agree (strength_at frame intra 1 (flag_at []) 0 0) (strength_at frame intra 1 (flag_at (1 ∷ [])) 0 0) 4 (ltb-true 4 32 refl) e r.leaves in
    omega arith

-- ---- where the second of two macroblocks holds f and is to hold h, the two agree at byte 0
agree_right : (f h : ℕ → ℕ) {s : List ℕ} → s ≡ written 1 f (replicate 64 0) → s ≡ written 1 h (replicate 64 0) → f 0 ≡ h 0
agree_right f h = agree-in 1 (replicate 64 0) (omega arith) f h 0 (ltb-true 0 32 refl)

-- ---- coefficients of p found in a wrong way: two macroblocks side by side, the left one with a count in row
-- 0, column 2, and byte 0 of the right one
abbrev by_way : (ℕ → Bool) → (ℕ → Bool) → ℕ → ℕ
by_way t8s way k =
    cond
    (border 1 0 k || skipped (t8s 1) k)
    0
    (between 3 (intra_strength frame k) (way (p_block 2 1 0 k) || coded left_count 2 t8s (q_block 2 1 0 k)) (blk_at left_count (p_block 2 1 0 k)) (blk_at left_count (q_block 2 1 0 k)))

-- 8x8 blocks on q's side only: p's own count, where the left macroblock is 8x8
pub eights-of-q-only : (s : List ℕ) → s ≡ written 1 (by_way (flag_at (1 ∷ 0 ∷ [])) (counted left_count.nnz)) (replicate 64 0)
    → DeriveOutcome wide_two false 1 0 (1 ∷ 0 ∷ []) left_count false (replicate 64 0) 0 s → ⊥
unfolding strength_at coded flag_at some between block_read inter_strength named_by differ mismatched used outside
eights-of-q-only s e r =
    let z : ◌≡◌ {A = ℕ} 0 2 = agree_right (by_way (flag_at (1 ∷ 0 ∷ [])) (counted left_count.nnz)) (strength_at frame left_count 2 (flag_at (1 ∷ 0 ∷ [])) 1 0) e r.leaves in
    omega arith

-- the four nearest blocks of the neighbour in the place of eight
abbrev nearest : ℕ → Bool
nearest i = some 2 (λ r. counted left_count.nnz (in_eight 2 i r 1))

pub four-nearest : (s : List ℕ) → s ≡ written 1 (by_way (flag_at (1 ∷ 0 ∷ [])) nearest) (replicate 64 0)
    → DeriveOutcome wide_two false 1 0 (1 ∷ 0 ∷ []) left_count false (replicate 64 0) 0 s → ⊥
unfolding strength_at coded flag_at some between block_read inter_strength named_by differ mismatched used outside
four-nearest s e r =
    let z : ◌≡◌ {A = ℕ} 0 2 = agree_right (by_way (flag_at (1 ∷ 0 ∷ [])) nearest) (strength_at frame left_count 2 (flag_at (1 ∷ 0 ∷ [])) 1 0) e r.leaves in
    omega arith

-- the own flag used for the neighbour, where the own one alone is set
pub own-for-left : (s : List ℕ) → s ≡ written 1 (by_way (flag_at (0 ∷ 1 ∷ [])) (coded left_count 2 (λ i. true))) (replicate 64 0)
    → DeriveOutcome wide_two false 1 0 (0 ∷ 1 ∷ []) left_count false (replicate 64 0) 0 s → ⊥
unfolding strength_at coded flag_at some between block_read inter_strength named_by differ mismatched used outside
own-for-left s e r =
    let z : ◌≡◌ {A = ℕ} 2 0 = agree_right (by_way (flag_at (0 ∷ 1 ∷ [])) (coded left_count 2 (λ i. true))) (strength_at frame left_count 2 (flag_at (0 ∷ 1 ∷ [])) 1 0) e r.leaves in
    omega arith

-- ---- a neighbour's flag of 2 let through, as where the own flag alone is checked
pub own-flag-only : (s : List ℕ) → DeriveOutcome wide_two false 1 0 (2 ∷ 0 ∷ []) two_intra false (replicate 64 0) 0 s → ⊥
own-flag-only s r = let z : ◌≡◌ {A = ℕ} 0 7 = r.says ∙ bad-flags.2 in omega arith
