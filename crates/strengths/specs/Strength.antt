-- The 32 strengths of a macroblock, straight from the grids: ITU-T H.264, clause 8.7.2.1, for progressive
-- frames (`frame`) and for fields (`field`). Byte k is segment k % 4 of edge k / 4 % 4, vertical edges first.
-- Between blocks p and q an edge lies to the left of q or above it. A lone intra macroblock has 0 on edges 0
-- and 3 on the others; beside an intra one a macroblock has 4 on its left edge, below one 4 on its upper edge
-- in a frame and 3 in a field (proofs/Examples).
use Rattle.std.specs.Prelude.{ℕ, ◌+◌, ◌-◌, ◌*◌, ◌/◌, ◌%◌, Bool, true, false, cond, ◌&&◌, ◌||◌, List, eqb, ltb, set}
use Rattle.laws.specs.Loop.{up_to}
use Rattle.laws.specs.Some.{some}
use Rattle.motion.specs.Grids.{Grids, counted, blk_at}
use Rattle.motion.specs.Motion.{inter_strength}
use Rattle.motion.specs.declared.blocks.Blk.{Blk}
use Rattle.strengths.specs.Blocks.{own_block, macroblock_of, in_eight}
use Rattle.strengths.specs.declared.kinds.Mode.{Mode}

-- ---- byte k: its edge, the blocks beside it, and whether there is a neighbour across an outer edge
abbrev pub vertical : ℕ → Bool
vertical k = ltb k 16

abbrev pub edge : ℕ → ℕ
edge k = k / 4 % 4

abbrev pub segment : ℕ → ℕ
segment k = k % 4

-- the row and the column of q among the macroblock's own blocks
abbrev pub q_row : ℕ → ℕ
q_row k = cond (vertical k) (segment k) (edge k)

abbrev pub q_column : ℕ → ℕ
q_column k = cond (vertical k) (edge k) (segment k)

abbrev pub q_block : ℕ → ℕ → ℕ → ℕ → ℕ
q_block w x y k = own_block w x y (q_row k) (q_column k)

-- p stands one to the left, or one row up
abbrev pub p_block : ℕ → ℕ → ℕ → ℕ → ℕ
p_block w x y k = q_block w x y k - cond (vertical k) 1 (4 * w)

abbrev pub border : ℕ → ℕ → ℕ → Bool
border x y k = eqb (edge k) 0 && eqb (cond (vertical k) x y) 0

-- ---- frames: near vectors differ vertically by 3 at most, and an intra upper edge has 4
abbrev pub frame : Mode
frame = record { limit = 3; upper = 4 }

-- fields, clause 8.7.2.1: vertically vectors are far from 4 quarter frame samples on, which are 2 quarter
-- field samples, so near ones differ by 1 at most; and bS 4 asks for a vertical edge, so an intra upper edge
-- has 3
abbrev pub field : Mode
field = record { limit = 1; upper = 3 }

-- by whether it is a field
abbrev pub mode_of : Bool → Mode
mode_of true = field
mode_of false = frame

-- beside an intra block: 3 on an inner edge, 4 on the left one, on the upper one by the mode
abbrev pub outer_intra : Mode → Bool → ℕ
outer_intra mode left = cond left 4 mode.upper

abbrev pub intra_strength : Mode → ℕ → ℕ
intra_strength mode k = cond (eqb (edge k) 0) (outer_intra mode (vertical k)) 3

-- ---- t8s tells of each macroblock, by its index, whether it is 8x8 (transform_size_8x8_flag). Block i is
-- coded where it has coefficients; in an 8x8 macroblock, where its 8x8 block has: a count in any of the four
-- blocks counts for all four
unfoldable pub coded : Grids → ℕ → (ℕ → Bool) → ℕ → Bool
coded g w t8s i =
    cond (t8s (macroblock_of w i)) (some 2 (λ r. some 2 (λ c. counted g.nnz (in_eight w i r c)))) (counted g.nnz i)

-- between inter blocks by coefficients and motion, else the strength `intra`
unfoldable pub between : ℕ → ℕ → Bool → Blk → Blk → ℕ
between limit intra coded p q = cond (p.inter && q.inter) (inter_strength limit coded p q) intra

-- byte k, between the blocks of indices p and q
abbrev pub strength_between : Mode → Grids → ℕ → (ℕ → Bool) → ℕ → ℕ → ℕ → ℕ
strength_between mode g w t8s k p q =
    between mode.limit (intra_strength mode k) (coded g w t8s p || coded g w t8s q) (blk_at g p) (blk_at g q)

-- edges 1 and 3 are no transform edges of an 8x8 macroblock
abbrev pub skipped : Bool → ℕ → Bool
skipped t8 k = t8 && eqb (edge k % 2) 1

unfoldable pub strength_at : Mode → Grids → ℕ → (ℕ → Bool) → ℕ → ℕ → ℕ → ℕ
strength_at mode g w t8s x y k =
    cond (border x y k || skipped (t8s (y * w + x)) k) 0 (strength_between mode g w t8s k (p_block w x y k) (q_block w x y k))

-- the strengths grid with the 32 bytes of macroblock i written
unfoldable pub written : ℕ → (ℕ → ℕ) → List ℕ → List ℕ
written i f s = up_to 32 (λ k t. set t (32 * i + k) (f k)) s
