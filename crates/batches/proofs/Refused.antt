-- Wrong versions that look right, each shown to come to something else than the promise on a small input.
-- Assumes nothing.
use mathlib.Core.Path.{◌≡◌, subst, ap}
use mathlib.Core.List.{◌++◌}
use Prim.Native.Nat.{ℕ, ◌+◌}
use lib.Dec.{T, eqb}
use lib.ListN.{get_or, replicate}
use Rattle.laws.specs.Clip.{clip3, clip1}
use Rattle.laws.specs.Loop.{up_to}
use Rattle.laws.specs.Places.{Plane}
use Rattle.lines.specs.Depth.{eight}
use Rattle.lines.specs.Filter.{delta_of}
use Rattle.lines.specs.Luma.{line, nudge_of, inner_of, luma_normal, strong_side, luma_strong, normal_line, strong_line, luma_line}
use Rattle.lines.specs.declared.luma.Line.{Line}
use Rattle.lines.specs.Chroma.{chroma_normal, normal_short, chroma_line}
use Rattle.lines.specs.Planes.{chroma_at}
use Rattle.lines.specs.Inner.{cap_row}
use Rattle.lines.specs.Tables.{tc0s}
use Rattle.lines.specs.declared.luma.Six.{Six}
use Rattle.batches.specs.Lines.{segment_strength, short_lines, upper, lower, short_at}
use Rattle.batches.specs.Lanes.{at_slot, spread_of, four_each, two_each}
use Rattle.batches.specs.Moves.{copied_row}
use Rattle.batches.specs.declared.lanes.Four.{Four}
use Rattle.batches.proofs.Examples.{mixed_four, thirty, alpha_off, steps, one_first, two_first}

-- 60 60 60 60 | 70 70 70 70
abbrev step_up : Line
step_up = line 60 60 60 60 70 70 70 70

abbrev again : Line → Six → Line
again l r = line l.p3 r.p2 r.p1 r.p0 r.q0 r.q1 r.q2 l.q3

-- the pass of strengths 1 to 3 lends a cap to lines of strength 4 too: p0 becomes 64, rightly 63 (P4)
pub cap-for-strong : (strong_line 25 8 (again step_up (normal_line eight 25 8 0 step_up))).p0 ≡ (luma_line eight 4 25 8 0 step_up).p0 → ⊥
unfolding delta_of nudge_of inner_of luma_normal strong_side luma_strong normal_line strong_line luma_line clip3 clip1
cap-for-strong e = subst (λ (n : ℕ). T (eqb n 64)) e tt

-- the second chroma edge three samples after the first: q0 of the second stays 80, rightly 78
pub near-edge : short_lines eight two_first thirty 3 8 1 (short_lines eight one_first thirty 0 8 1 steps) ≡ short_lines eight two_first thirty 4 8 1 (short_lines eight one_first thirty 0 8 1 steps) → ⊥
unfolding short_lines up_to chroma_at chroma_line normal_short chroma_normal delta_of clip3 clip1 tc0s
near-edge e = subst (λ (n : ℕ). T (eqb n 80)) (ap (λ (xs : Plane). get_or xs 6 0) e) tt

-- V's lines by U's thresholds: in a batch of two rows of 60 above two of 70, where V's alpha is 0, p0 of its
-- first line becomes 62, rightly 60
abbrev step_down : Plane
step_down = replicate 32 60 ++ replicate 32 70

pub v-by-u : short_at eight upper one_first thirty thirty 8 step_down ≡ short_at eight upper one_first thirty alpha_off 8 step_down → ⊥
unfolding up_to chroma_at chroma_line normal_short chroma_normal delta_of clip3 clip1 tc0s
v-by-u e = subst (λ (n : ℕ). T (eqb n 62)) (ap (λ (xs : Plane). get_or xs 24 0) e) tt

-- four chroma lines to a segment, as in luma: line 5 would have the strength of the second segment, rightly
-- that of the third
pub four-to-a-segment : ((s : Four) (k : ℕ) → segment_strength 4 s k ≡ segment_strength 2 s k) → ⊥
four-to-a-segment e = subst (λ (n : ℕ). T (eqb n 2)) (e mixed_four 5) tt

-- the second segment's lines with the strength of the third, and the other way: line 4 would be left, rightly
-- it is lent a cap
pub segments-exchanged : let x = at_slot (cap_row eight 30) in spread_of (x 0) (x 0) (x 4) (x 4) (x 2) (x 2) (x 9) (x 9) ≡ four_each (cap_row eight 30) mixed_four → ⊥
unfolding tc0s
segments-exchanged e = subst (λ (xs : Plane). T (eqb (get_or xs 4 0) 0)) e tt

-- V's caps at U's index: line 10 would have that of index 30, 2, rightly that of index 51, 18
pub v-caps-of-u : two_each (cap_row eight 30) (cap_row eight 30) mixed_four ≡ two_each (cap_row eight 30) (cap_row eight 51) mixed_four → ⊥
unfolding tc0s
v-caps-of-u e = subst (λ (xs : Plane). T (eqb (get_or xs 10 0) 2)) e tt

-- strength 4 lent a cap, as if tC0 had a fourth: line 8 would be filtered twice, rightly its cap is 0
pub cap-of-four : get_or (cap_row eight 30) 3 0 ≡ get_or (cap_row eight 30) 4 0 → ⊥
unfolding tc0s
cap-of-four e = subst (λ (n : ℕ). T (eqb n 3)) e tt

-- the second edge's lines two rows too early: in a batch of six rows of 60 above two of 70, p0 stays 60,
-- rightly 62
abbrev low_step : Plane
low_step = replicate 96 60 ++ replicate 32 70

pub lower-rows : short_at eight (λ k. 32 + k) one_first thirty thirty 0 low_step ≡ short_at eight lower one_first thirty thirty 0 low_step → ⊥
unfolding up_to chroma_at chroma_line normal_short chroma_normal delta_of clip3 clip1 tc0s
lower-rows e = subst (λ (n : ℕ). T (eqb n 60)) (ap (λ (xs : Plane). get_or xs 80 0) e) tt

-- a sample too few of each row: the last stays as it was
pub sample-short : copied_row 15 0 0 (replicate 16 1) (replicate 16 0) ≡ copied_row 16 0 0 (replicate 16 1) (replicate 16 0) → ⊥
unfolding copied_row up_to
sample-short e = subst (λ (xs : Plane). T (eqb (get_or xs 15 0) 0)) e tt
