-- Apart: no promise to a caller of the public calls rests on it. How the code goes about the four strengths
-- of an edge, which are bytes k to k + 3 where k is a multiple of 4: what they depend on is asked once, of
-- byte k. That each is then `strength_by` is the law `asked_is`.
use Rattle.std.specs.Prelude.{ℕ, ◌≡◌, ◌+◌, ◌-◌, ◌*◌, ◌%◌, ◌<◌, Bool, false, cond, ◌&&◌, ◌||◌, List, [], eqb, ℤ, get_or}
use Rattle.motion.specs.Grids.{Grids, motion_at, blk_at}
use Rattle.motion.specs.Inner.{lone_strength}
use Rattle.motion.specs.Motion.{inter_strength}
use Rattle.motion.specs.declared.blocks.Blk.{Blk}
use Rattle.strengths.specs.Blocks.{origin}
use Rattle.strengths.specs.ByKind.{either_coded}
use Rattle.strengths.specs.Strength.{vertical, edge, q_block, p_block, border, skipped, outer_intra}
use Rattle.strengths.specs.declared.fours.Edge.{Edge}
use Rattle.strengths.specs.declared.eights.Transforms.{Transforms}
use Rattle.strengths.specs.declared.kinds.Asked.{Asked}
use Rattle.strengths.specs.declared.kinds.Asked.TheVariants.{Same, Coded, Moving}
use Rattle.strengths.specs.declared.kinds.MbKind.{MbKind}
use Rattle.strengths.specs.declared.kinds.MbKind.TheVariants.{Intra, Skip, InterUniform, Inter}
use Rattle.strengths.specs.declared.kinds.Mode.{Mode}

-- where the edge of byte k lies
abbrev pub edge_at : ℕ → ℕ → ℕ → ℕ → Edge
edge_at w x y k = record {
  q = origin w x y + edge k * cond (vertical k) 1 (4 * w);
  back = cond (vertical k) 1 (4 * w);
  along = cond (vertical k) (4 * w) 1;
  down = vertical k;
  «from» = edge k;
}

-- d is where the edge of byte k lies, the first of an edge that is no border
pub record IsEdge (w x y k : ℕ) (d : Edge) : Type 0 where
  pub is : d ≡ edge_at w x y k
  pub first : k % 4 ≡ 0
  pub byte : k < 32
  pub inside : border x y k ≡ false

-- ---- what its strengths depend on, and a strength by that
abbrev pub ask_inner : MbKind → Asked
ask_inner Intra = Same 3
ask_inner Skip = Same 0
ask_inner InterUniform = Coded
ask_inner Inter = Moving

abbrev pub ask_outer : Mode → Bool → Bool → Asked
ask_outer mode left both = cond both Moving (Same (outer_intra mode left))

-- the first blocks on both sides of an outer edge are inter
abbrev pub both_inter : List ℕ → ℕ → ℕ → ℕ → ℕ → Bool
both_inter inter w x y k = eqb (get_or inter (origin w x y - cond (vertical k) 1 (4 * w)) 0) 1 && eqb (get_or inter (origin w x y) 0) 1

abbrev pub ask_edge : MbKind → Mode → Bool → List ℕ → ℕ → ℕ → ℕ → ℕ → Asked
ask_edge kind mode t8 inter w x y k =
    cond (border x y k || skipped t8 k) (Same 0)
    (cond (eqb (edge k) 0) (ask_outer mode (vertical k) (both_inter inter w x y k)) (ask_inner kind))

abbrev pub by_asked : ℕ → Asked → Bool → Blk → Blk → ℕ
by_asked limit (Same v) coded p q = v
by_asked limit Coded coded p q = cond coded 2 0
by_asked limit Moving coded p q = inter_strength limit coded p q

-- ---- by motion too; of one list without a table, by its grids alone
abbrev pub moving_by : ℕ → Grids → ℕ → Transforms → ℕ → ℕ → ℕ → ℕ
moving_by limit g w t x y k = inter_strength limit (either_coded g.nnz w t x y k) (blk_at g (p_block w x y k)) (blk_at g (q_block w x y k))

abbrev pub lone_by : ℕ → List ℕ → List ℤ → List ℤ → ℕ → Transforms → ℕ → ℕ → ℕ → ℕ
lone_by limit nnz refs mvs w t x y k =
    lone_strength limit (either_coded nnz w t x y k) (motion_at [] refs mvs (p_block w x y k)) (motion_at [] refs mvs (q_block w x y k))

-- ---- an intra macroblock
abbrev pub intra_edge : Mode → Bool → ℕ → ℕ → ℕ → ℕ
intra_edge mode t8 x y k = cond (border x y k || skipped t8 k) 0 (cond (eqb (edge k) 0) (outer_intra mode (vertical k)) 3)
