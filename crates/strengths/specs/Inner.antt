-- Apart: no promise to a caller of the public calls rests on it. What functions of this crate ask of the
-- place, what they write, what the quick test of the own blocks compares, and what a stretch of a row comes
-- to.
use Rattle.std.specs.Prelude.{ℕ, ◌+◌, ◌*◌, ◌<◌, ◌≡◌, Bool, false, cond, List, eqb, ltb, ℤ, length, set, Option, None, Some, Result, Ok, Err}
use Rattle.laws.specs.Loop.{up_to, span}
use Rattle.laws.specs.Refusal.{or_else}
use Rattle.laws.specs.Some.{every}
use Rattle.motion.specs.Grids.{Grids, ref_at, vector_at}
use Rattle.motion.specs.Inner.{HoldBlocks}
use Rattle.motion.specs.Motion.{equal_motion}
use Rattle.motion.specs.declared.blocks.Motion.{Motion}
use Rattle.sizes.specs.Entries.{flag_at}
use Rattle.sizes.specs.declared.Size.{Size}
use Rattle.strengths.specs.Blocks.{own_block}
use Rattle.strengths.specs.Calls.{answer_at}
use Rattle.strengths.specs.Kinds.{kind_number}
use Rattle.strengths.specs.Strength.{mode_of, strength_at, written}
use Rattle.strengths.specs.declared.kinds.Known.{Known}
use Rattle.strengths.specs.declared.kinds.MbKind.{MbKind}
use Rattle.strengths.specs.declared.kinds.NoSuchKind.{NoSuchKind}

-- the macroblock's blocks lie in grids of n blocks
pub record InGrids (w x y n : ℕ) : Type 0 where
  pub column : x < w
  pub last : own_block w x y 3 3 < n

-- .. of the grids
pub record GridsReach (g : Grids) (w x y : ℕ) : Type 0 where
  pub hold : HoldBlocks g (own_block w x y 3 3 + 1)
  pub counts : InGrids w x y (length g.nnz)

-- what is beside is there, and passes the test f
abbrev pub beside : Option ℕ → (ℕ → Bool) → Bool
beside None f = false
beside (Some i) f = f i

-- n values from `first` on
abbrev pub filled : ℕ → ℕ → (ℕ → ℕ) → List ℕ → List ℕ
filled n first f s = up_to n (λ k t. set t (first + k) (f k)) s

-- a list's reference and vector of block i as they are stored, whatever the reference names
abbrev pub stored_motion : List ℤ → List ℤ → ℕ → Motion
stored_motion refs mvs i = vector_at (ref_at refs i) mvs i

-- they are one for the 4 by 4 blocks from `at` on
unfoldable pub one_stored : List ℤ → List ℤ → ℕ → ℕ → Bool
one_stored refs mvs at stride =
    every 4 (λ j. every 4 (λ k. equal_motion (stored_motion refs mvs (at + j * stride + k)) (stored_motion refs mvs at)))

-- ---- the macroblocks of row y from a up to b: the first refusal, what is written, and both as one outcome
unfoldable pub stretch_answer : Size → ℕ → ℕ → ℕ → Known → List ℕ → List ℕ → Grids → ℕ → ℕ
stretch_answer size a b y known kinds t8s g n = span a b (λ x r. or_else r (answer_at size y known kinds t8s g n x)) 0

unfoldable pub stretch_written : Size → Bool → ℕ → ℕ → ℕ → List ℕ → Grids → List ℕ → List ℕ
stretch_written size field a b y t8s g s =
    span a b (λ x. written (y * size.w + x) (strength_at (mode_of field) g size.w (flag_at t8s) x y)) s

pub record StretchOutcome (size : Size) (field : Bool) (a b y : ℕ) (known : Known) (kinds t8s : List ℕ) (g : Grids) (s : List ℕ) (n : ℕ) (s' : List ℕ) : Type 0 where
  pub says : n ≡ stretch_answer size a b y known kinds t8s g (length s)
  pub leaves : s' ≡ cond (eqb n 0) (stretch_written size field a b y t8s g s) s

-- the kind that a number stands for
abbrev pub Decodes : ℕ → Result MbKind NoSuchKind → Type 0
Decodes k r = r ≡ cond (ltb 3 k) (Err (record { 0 = k })) (Ok (kind_number k))
