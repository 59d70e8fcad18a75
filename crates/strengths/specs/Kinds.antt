-- What a kind or a flag says of a macroblock's own blocks: docs/RULES.md, "Strengths" (same motion, uniform,
-- flat, kinds); and the numbers that stand for kinds.
use Rattle.std.specs.Prelude.{ℕ, Bool, cond, not, ◌&&◌, List, eqb, ltb, length, get_or}
use Rattle.laws.specs.Some.{every}
use Rattle.motion.specs.Grids.{Grids, counted, blk_at}
use Rattle.motion.specs.Motion.{same_motion}
use Rattle.strengths.specs.Blocks.{origin, own_block}
use Rattle.strengths.specs.declared.kinds.Known.{Known}
use Rattle.strengths.specs.declared.kinds.Known.TheVariants.{Stated, NoKind}
use Rattle.strengths.specs.declared.kinds.MbKind.{MbKind}
use Rattle.strengths.specs.declared.kinds.MbKind.TheVariants.{Intra, Skip, InterUniform, Inter}

-- every own block, by its index, passes the test f
abbrev pub every_own : ℕ → ℕ → ℕ → (ℕ → Bool) → Bool
every_own w x y f = every 4 (λ r. every 4 (λ c. f (own_block w x y r c)))

unfoldable pub uniform : Grids → ℕ → ℕ → ℕ → Bool
uniform g w x y = every_own w x y (λ i. (blk_at g i).inter && same_motion (blk_at g i) (blk_at g (origin w x y)))

-- by own counts: where all 16 are 0, so are those of every 8x8 block
unfoldable pub flat : Grids → ℕ → ℕ → ℕ → Bool
flat g w x y = uniform g w x y && every_own w x y (λ i. not (counted g.nnz i))

-- the kind is true of the grids
abbrev pub is_kind : Grids → ℕ → ℕ → ℕ → MbKind → Bool
is_kind g w x y Intra = every_own w x y (λ i. not (blk_at g i).inter)
is_kind g w x y Skip = flat g w x y
is_kind g w x y InterUniform = uniform g w x y
is_kind g w x y Inter = every_own w x y (λ i. (blk_at g i).inter)

-- ---- the kind that a number up to 3 stands for; what any number says; what the numbers of all macroblocks
-- say of macroblock i, or where none are lent what is known without them
abbrev pub kind_number : ℕ → MbKind
kind_number k = cond (eqb k 0) Intra (cond (eqb k 1) Skip (cond (eqb k 2) InterUniform Inter))

abbrev pub known_number : ℕ → Known
known_number k = cond (ltb 3 k) NoKind (Stated (kind_number k))

abbrev pub known_at : Known → List ℕ → ℕ → Known
known_at known kinds i = cond (eqb (length kinds) 0) known (known_number (get_or kinds i 0))
