-- The grids of a picture's 4x4 blocks, in raster order, the tables of its reference lists, and the block at a
-- place of the grids: docs/RULES.md, "Sizes and layouts".
use Rattle.std.specs.Prelude.{ℕ, ◌+◌, ◌*◌, Bool, not, List, ℤ, pos, ◌==◌, slice_index, slice_index_or}
use Rattle.motion.specs.Pictures.{none, named_by}
use Rattle.motion.specs.declared.blocks.Blk.{Blk}
use Rattle.motion.specs.declared.blocks.Motion.{Motion}

-- inter, 0 or 1; the coefficient count; of each list the reference, -1 for none, and the vector as two
-- numbers, x and y; and of each list its table, from index to picture
pub record Grids : Type 0 where
  pub inter : List ℕ
  pub nnz : List ℕ
  pub ref0 : List ℤ
  pub mv0 : List ℤ
  pub ref1 : List ℤ
  pub mv1 : List ℤ
  pub pictures0 : List ℤ
  pub pictures1 : List ℤ

abbrev pub grids : List ℕ → List ℕ → List ℤ → List ℤ → List ℤ → List ℤ → List ℤ → List ℤ → Grids
grids inters counts r m s n p q =
    record { inter = inters; nnz = counts; ref0 = r; mv0 = m; ref1 = s; mv1 = n; pictures0 = p; pictures1 = q }

-- block i's own count is not 0
abbrev pub counted : List ℕ → ℕ → Bool
counted nnz i = not (slice_index nnz i == 0)

-- ---- the motion of block i. An empty list holds no reference and the vector 0
abbrev pub ref_at : List ℤ → ℕ → ℤ
ref_at refs i = slice_index_or refs i none

-- the reference r with its vector
abbrev pub vector_at : ℤ → List ℤ → ℕ → Motion
vector_at r mvs i = record { reference = r; x = slice_index_or mvs (2 * i) (pos 0); y = slice_index_or mvs (2 * i + 1) (pos 0) }

-- with the picture that it names, by its list's table
abbrev pub motion_at : List ℤ → List ℤ → List ℤ → ℕ → Motion
motion_at pictures refs mvs i = vector_at (named_by pictures (ref_at refs i)) mvs i

-- a block of what each list holds
abbrev pub block_of : Bool → Motion → Motion → Blk
block_of inter m n = record { inter = inter; list0 = m; list1 = n }

-- block i of the grids but nnz, and of all of them
unfoldable pub block_read : List ℕ → List ℤ → List ℤ → List ℤ → List ℤ → List ℤ → List ℤ → ℕ → Blk
block_read inter ref0 mv0 ref1 mv1 pictures0 pictures1 i =
    block_of (slice_index inter i == 1) (motion_at pictures0 ref0 mv0 i) (motion_at pictures1 ref1 mv1 i)

abbrev pub blk_at : Grids → ℕ → Blk
blk_at g i = block_read g.inter g.ref0 g.mv0 g.ref1 g.mv1 g.pictures0 g.pictures1 i
