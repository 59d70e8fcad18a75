-- The checks of a strength call, each as whether it applies: docs/RULES.md, "Answers".
use Rattle.std.specs.Prelude.{ℕ, ◌-◌, ◌*◌, Bool, not, ◌&&◌, ◌||◌, List, eqb, ltb, ℤ, pos, length, get_or}
use Rattle.std.specs.Int.Signed.{lt_z}
use Rattle.laws.specs.Some.{some}
use Rattle.sizes.specs.Entries.{bad_flag_count, bad_flag, bad_near}
use Rattle.motion.specs.Grids.{Grids, ref_at}
use Rattle.motion.specs.Pictures.{none}
use Rattle.strengths.specs.Blocks.{origin, own_block, left_block, above_block, some_read}

-- 4: the strengths grid has the wrong length n, or that of the flags the wrong length t8s
abbrev pub bad_by_macroblock : ℕ → ℕ → ℕ → Bool
bad_by_macroblock area n t8s = not (eqb n (32 * area)) || bad_flag_count area t8s

-- 5: a 4x4 grid has the wrong length, or just one list 1 grid is empty. n is the number of blocks
abbrev pub bad_lengths : ℕ → ℕ → ℕ → ℕ → ℕ → ℕ → ℕ → Bool
bad_lengths n inter nnz ref0 mv0 ref1 mv1 =
    not (eqb inter n)
    || not (eqb nnz n)
    || not (eqb ref0 n)
    || not (eqb mv0 (2 * n))
    || not ((eqb ref1 0 && eqb mv1 0) || (eqb ref1 n && eqb mv1 (2 * n)))

abbrev pub bad_grids : ℕ → Grids → Bool
bad_grids n g = bad_lengths n (length g.inter) (length g.nnz) (length g.ref0) (length g.mv0) (length g.ref1) (length g.mv1)

-- .. or just one table is empty, unless it is list 1's and list 1 is not lent
abbrev pub one_table : ℕ → ℕ → ℕ → Bool
one_table ref1 pictures0 pictures1 =
    (eqb pictures0 0 && not (eqb pictures1 0)) || (not (eqb pictures0 0) && eqb pictures1 0 && not (eqb ref1 0))

abbrev pub bad_blocks : ℕ → Grids → Bool
bad_blocks n g = bad_grids n g || one_table (length g.ref1) (length g.pictures0) (length g.pictures1)

-- 7: an inter byte that is read is not 0 or 1; nor is a flag, of the macroblock or of its left or upper
-- neighbour, unless the grid of flags is empty
abbrev pub bad_inter : Grids → ℕ → ℕ → ℕ → Bool
bad_inter g w x y = some_read w x y (λ i. ltb 1 (get_or g.inter i 0))

abbrev pub bad_flags : List ℕ → ℕ → ℕ → ℕ → Bool
bad_flags t8s w x y = not (eqb (length t8s) 0) && bad_near bad_flag t8s w x y

-- 10: a reference number that is read is below -1, in a list that is lent
abbrev pub below_none : List ℤ → ℕ → Bool
below_none refs i = lt_z (ref_at refs i) none

abbrev pub bad_refs : Grids → ℕ → ℕ → ℕ → Bool
bad_refs g w x y = some_read w x y (below_none g.ref0) || some_read w x y (below_none g.ref1)

-- 22: an entry of a table is no picture's number, whether a block names it or not, and of list 1's table
-- whether list 1 is lent or not
abbrev pub not_picture : ℤ → Bool
not_picture p = lt_z p (pos 0) || lt_z (pos 65535) p

unfoldable pub bad_table : List ℤ → Bool
bad_table pictures = some (length pictures) (λ i. not_picture (get_or pictures i (pos 0)))

abbrev pub bad_pictures : Grids → Bool
bad_pictures g = bad_table g.pictures0 || bad_table g.pictures1

-- 11: the 16 blocks, the 4 to the left or the 4 above disagree on inter
abbrev pub differs : List ℕ → ℕ → ℕ → Bool
differs inter i j = not (eqb (get_or inter i 0) (get_or inter j 0))

unfoldable pub disagree : List ℕ → ℕ → ℕ → ℕ → Bool
disagree inter w x y =
    some 4 (λ r. some 4 (λ c. differs inter (own_block w x y r c) (origin w x y)))
    || (ltb 0 x && some 4 (λ k. differs inter (left_block w x y k) (origin w x y - 1)))
    || (ltb 0 y && some 4 (λ k. differs inter (above_block w x y k) (origin w x y - 4 * w)))
