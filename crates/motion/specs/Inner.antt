-- Apart: no promise to a caller of the public calls rests on it. What functions of this crate ask of the
-- grids, and the strength by one list.
use Rattle.std.specs.Prelude.{◌≡◌, ℕ, ◌*◌, ◌<◌, ◌≤◌, Bool, cond, List, length, ℤ}
use Rattle.motion.specs.Grids.{Grids, ref_at, vector_at, motion_at}
use Rattle.motion.specs.Motion.{if_used, mismatched}
use Rattle.motion.specs.declared.blocks.Motion.{Motion}
use Rattle.motion.specs.declared.grids.ReferenceList.{ReferenceList}

-- list 1's two grids are both empty, or both hold n blocks
pub record Optional (refs mvs : List ℤ) (n : ℕ) : Type 0 where
  pub empty : length refs ≡ 0 → length mvs ≡ 0
  pub full : 0 < length refs → (n ≤ length refs) × (2 * n ≤ length mvs)

-- the grids that a block's motion is read from hold n blocks
pub record Hold (inter : List ℕ) (ref0 mv0 ref1 mv1 : List ℤ) (n : ℕ) : Type 0 where
  pub inters : n ≤ length inter
  pub refs : n ≤ length ref0
  pub vectors : 2 * n ≤ length mv0
  pub list1 : Optional ref1 mv1 n

-- the strength between blocks that hold nothing in list 1, by what they hold in list 0
abbrev pub lone_strength : ℕ → Bool → Motion → Motion → ℕ
lone_strength v coded p q = cond coded 2 (cond (mismatched v (if_used p) (if_used q)) 1 0)

-- what a list holds of block i, as it is stored and by its table
abbrev pub stored_of : ReferenceList → ℕ → Motion
stored_of l i = vector_at (ref_at l.references.now i) l.vectors.now i

abbrev pub list_motion : ReferenceList → ℕ → Motion
list_motion l i = motion_at l.pictures.now l.references.now l.vectors.now i

-- a list holds something of n blocks, or nothing at all
abbrev pub HoldsOrEmpty : ReferenceList → ℕ → Type 0
HoldsOrEmpty l n = Optional l.references.now l.vectors.now n

-- the grids that a block's motion is read from hold n blocks
abbrev pub HoldBlocks : Grids → ℕ → Type 0
HoldBlocks g n = Hold g.inter g.ref0 g.mv0 g.ref1 g.mv1 n
