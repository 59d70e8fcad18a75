-- The visits of the pictures of specs/Smallest.antt, and a sample that the last of them changes. Assumes
-- nothing.
use mathlib.Core.Path.{◌≡◌, refl}
use mathlib.Core.List.{[], ◌∷◌, ◌++◌}
use Prim.Native.Nat.{ℕ, ◌<◌}
use native.Mathlib.Omega.{arith}
use borrow.Author.Tests.{eq-eqb}
use lib.Dec.{T}
use lib.ListN.{get_or}
use Rattle.laws.specs.Clip.{clip3, clip1}
use Rattle.laws.specs.Loop.{up_to}
use Rattle.laws.proofs.Table.{bounded, at_most}
use Rattle.lines.specs.Filter.{delta_of}
use Rattle.lines.specs.Tables.{alphas, betas, tc0s}
use Rattle.lines.specs.Thresholds.{average, index_of}
use Rattle.lines.specs.Luma.{nudge_of, inner_of, luma_normal, normal_line, luma_line}
use Rattle.lines.specs.Planes.{luma_at}
use Rattle.edges.specs.Edge.{luma_rule, luma_edge}
use Rattle.edges.specs.Macroblock.{luma_way, luma_both}
use Rattle.edges.specs.Picture.{Planes, luma_of, macroblock_at, step_of}
use Rattle.sizes.specs.Entries.{flag_at}
use Rattle.pictures.specs.Checks.{held_of}
use Rattle.visits.specs.Checks.{early_of, Sound, Fit}
use Rattle.visits.specs.Fault.{band, outer_strengths}
use Rattle.visits.specs.Promise.{visit_of}
use Rattle.visits.specs.Smallest.{one_strengths, one_lent, one_planes, pair_lent, pair_planes, column_lent, column_planes}
use Rattle.visits.specs.Visit.{waiting, answer, visit}
use Rattle.visits.proofs.Instance.{none_over, passes-valid}

-- ---- one macroblock
abbrev pub single_step : ℕ → Planes → Planes
single_step = step_of (held_of one_lent)

pub one-sound : Sound one_lent
one-sound = record { sides = refl; lengths = refl; numbers = refl; range = refl; flag = none_over 1 [] tt; qp = none_over 51 (40 ∷ []) tt; strength = none_over 4 one_strengths tt; number = λ i. refl; mode = refl }

pub one-fit : Fit one_lent one_planes
unfolding band
one-fit = record { luma = refl; u = refl; v = refl }

pub one-clear : early_of one_lent (one_planes, 0 ∷ []) (0, 0) ≡ 0
one-clear = passes-valid one_lent one-sound (one_planes, 0 ∷ []) one-fit refl (at_most 1 (0 ∷ []) tt) 0 0 (omega arith) (omega arith)

pub one-first : visit_of one_lent (one_planes, 0 ∷ []) (0, 0) ≡ (0, (single_step 0 one_planes, 1 ∷ []))
unfolding visit answer waiting
one-first = rw (eq-eqb _ 0 one-clear)

-- luma sample (3, 0), before and after
pub one-samples : (get_or one_planes.luma 3 0 ≡ 100) × (get_or (single_step 0 one_planes).luma 3 0 ≡ 101)
unfolding band macroblock_at luma_of flag_at up_to luma_rule luma_edge luma_way luma_both luma_at luma_line normal_line luma_normal nudge_of inner_of delta_of clip3 clip1 average index_of alphas betas tc0s
one-samples = (refl, refl)

-- ---- two side by side
abbrev pub pair_step : ℕ → Planes → Planes
pair_step = step_of (held_of pair_lent)

pub pair-sound : Sound pair_lent
pair-sound = record { sides = refl; lengths = refl; numbers = refl; range = refl; flag = none_over 1 [] tt; qp = none_over 51 (40 ∷ 40 ∷ []) tt; strength = none_over 4 (outer_strengths 0 0 ++ outer_strengths 1 0) tt; number = λ i. refl; mode = refl }

pub pair-fit : Fit pair_lent pair_planes
unfolding band
pair-fit = record { luma = refl; u = refl; v = refl }

pub pair-clear : (p : Planes) → Fit pair_lent p → (a b x : ℕ) → T (bounded 1 (a ∷ b ∷ [])) → x < 2 → early_of pair_lent (p, a ∷ b ∷ []) (x, 0) ≡ 0
pair-clear p f a b x m h = passes-valid pair_lent pair-sound (p, a ∷ b ∷ []) f refl (at_most 1 (a ∷ b ∷ []) m) x 0 h (omega arith)

pub pair-first : visit_of pair_lent (pair_planes, 0 ∷ 0 ∷ []) (0, 0) ≡ (0, (pair_step 0 pair_planes, 1 ∷ 0 ∷ []))
unfolding visit answer waiting
pair-first = rw (eq-eqb _ 0 (pair-clear pair_planes pair-fit 0 0 0 tt (omega arith)))

pub pair-second : (p : Planes) → Fit pair_lent p → visit_of pair_lent (p, 1 ∷ 0 ∷ []) (1, 0) ≡ (0, (pair_step 1 p, 1 ∷ 1 ∷ []))
unfolding visit answer waiting
pair-second p f = rw (eq-eqb _ 0 (pair-clear p f 1 0 1 tt (omega arith)))

-- luma sample (15, 0), before and after the second
pub pair-samples : (get_or (pair_step 0 pair_planes).luma 15 0 ≡ 100) × (get_or (pair_step 1 (pair_step 0 pair_planes)).luma 15 0 ≡ 101)
unfolding band macroblock_at luma_of flag_at up_to luma_rule luma_edge luma_way luma_both luma_at luma_line normal_line luma_normal nudge_of inner_of delta_of clip3 clip1 average index_of alphas betas tc0s
pair-samples = (refl, refl)

-- ---- one above the other
abbrev pub column_step : ℕ → Planes → Planes
column_step = step_of (held_of column_lent)

pub column-sound : Sound column_lent
column-sound = record { sides = refl; lengths = refl; numbers = refl; range = refl; flag = none_over 1 [] tt; qp = none_over 51 (40 ∷ 40 ∷ []) tt; strength = none_over 4 (outer_strengths 0 0 ++ outer_strengths 0 1) tt; number = λ i. refl; mode = refl }

pub column-fit : Fit column_lent column_planes
unfolding band
column-fit = record { luma = refl; u = refl; v = refl }

column-clear : (p : Planes) → Fit column_lent p → (a b y : ℕ) → T (bounded 1 (a ∷ b ∷ [])) → y < 2 → early_of column_lent (p, a ∷ b ∷ []) (0, y) ≡ 0
column-clear p f a b y m h = passes-valid column_lent column-sound (p, a ∷ b ∷ []) f refl (at_most 1 (a ∷ b ∷ []) m) 0 y (omega arith) h

pub column-first : visit_of column_lent (column_planes, 0 ∷ 0 ∷ []) (0, 0) ≡ (0, (column_step 0 column_planes, 1 ∷ 0 ∷ []))
unfolding visit answer waiting
column-first = rw (eq-eqb _ 0 (column-clear column_planes column-fit 0 0 0 tt (omega arith)))

pub column-second : (p : Planes) → Fit column_lent p → visit_of column_lent (p, 1 ∷ 0 ∷ []) (0, 1) ≡ (0, (column_step 1 p, 1 ∷ 1 ∷ []))
unfolding visit answer waiting
column-second p f = rw (eq-eqb _ 0 (column-clear p f 1 0 1 tt (omega arith)))

-- luma sample (0, 15), before and after the second
pub column-samples : (get_or (column_step 0 column_planes).luma 240 0 ≡ 100) × (get_or (column_step 1 (column_step 0 column_planes)).luma 240 0 ≡ 102)
unfolding band macroblock_at luma_of flag_at up_to luma_rule luma_edge luma_way luma_both luma_at luma_line normal_line luma_normal nudge_of inner_of delta_of clip3 clip1 average index_of alphas betas tc0s
column-samples = (refl, refl)
