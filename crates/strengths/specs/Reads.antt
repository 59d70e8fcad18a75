-- Apart: no promise to a caller rests on it, since each tells what its call comes to. What two inputs of a
-- strength call have in common where the call cannot tell them apart (the law `reads-alone`): docs/RULES.md,
-- "What each call reads".
use Rattle.std.specs.Prelude.{ℕ, ◌+◌, ◌-◌, ◌*◌, ◌<◌, ◌≡◌, Bool, true, List, ℤ, length, get_or}
use Rattle.motion.specs.Grids.{Grids, counted, ref_at, vector_at}
use Rattle.motion.specs.declared.blocks.Motion.{Motion}
use Rattle.sizes.specs.Entries.{flag_at}
use Rattle.strengths.specs.Blocks.{own_block, left_block, above_block}

-- the 16 blocks of macroblock (x, y), four to its left and four above it, where it has such neighbours
pub data Beside (w x y : ℕ) : ℕ → Type 0 where
  own-block : (r c : ℕ) → r < 4 → c < 4 → Beside w x y (own_block w x y r c)
  left-block : 0 < x → (k : ℕ) → k < 4 → Beside w x y (left_block w x y k)
  above-block : 0 < y → (k : ℕ) → k < 4 → Beside w x y (above_block w x y k)

-- the blocks whose counts are read: these, and the next four of a neighbour that is 8x8
pub data CountRead (t8s : ℕ → Bool) (w x y : ℕ) : ℕ → Type 0 where
  near : {i : ℕ} → Beside w x y i → CountRead t8s w x y i
  next-left : 0 < x → t8s (y * w + x - 1) ≡ true → (k : ℕ) → k < 4 → CountRead t8s w x y (left_block w x y k - 1)
  next-above : 0 < y → t8s (y * w + x - w) ≡ true → (k : ℕ) → k < 4 → CountRead t8s w x y (above_block w x y k - 4 * w)

-- ---- two inputs, of the same lengths
pub record EqualLengths (t8s t8s' : List ℕ) (g g' : Grids) : Type 0 where
  pub flags : length t8s ≡ length t8s'
  pub inters : length g.inter ≡ length g'.inter
  pub counts : length g.nnz ≡ length g'.nnz
  pub refs0 : length g.ref0 ≡ length g'.ref0
  pub mvs0 : length g.mv0 ≡ length g'.mv0
  pub refs1 : length g.ref1 ≡ length g'.ref1
  pub mvs1 : length g.mv1 ≡ length g'.mv1

-- block i is inter in both or in none, with the same reference and vector in each list
abbrev pub stored_at : List ℤ → List ℤ → ℕ → Motion
stored_at refs mvs i = vector_at (ref_at refs i) mvs i

pub record SameBlock (g g' : Grids) (i : ℕ) : Type 0 where
  pub inter : get_or g.inter i 0 ≡ get_or g'.inter i 0
  pub list0 : stored_at g.ref0 g.mv0 i ≡ stored_at g'.ref0 g'.mv0 i
  pub list1 : stored_at g.ref1 g.mv1 i ≡ stored_at g'.ref1 g'.mv1 i

-- which agree on the tables, on three flags, on the blocks beside the edges, and on which of the counts that
-- are read are 0
pub record SameReads (w x y : ℕ) (t8s t8s' : List ℕ) (g g' : Grids) : Type 0 where
  pub long : EqualLengths t8s t8s' g g'
  pub table0 : g.pictures0 ≡ g'.pictures0
  pub table1 : g.pictures1 ≡ g'.pictures1
  pub flag : get_or t8s (y * w + x) 0 ≡ get_or t8s' (y * w + x) 0
  pub flag-left : 0 < x → get_or t8s (y * w + x - 1) 0 ≡ get_or t8s' (y * w + x - 1) 0
  pub flag-above : 0 < y → get_or t8s (y * w + x - w) 0 ≡ get_or t8s' (y * w + x - w) 0
  pub block : (i : ℕ) → Beside w x y i → SameBlock g g' i
  pub count : (i : ℕ) → CountRead (flag_at t8s) w x y i → counted g.nnz i ≡ counted g'.nnz i
