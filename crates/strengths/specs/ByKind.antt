-- Apart: no promise to a caller of the public calls rests on it. How the code goes about docs/RULES.md,
-- "Strengths": what the own blocks show, the kind that follows, and the strengths by that kind, without
-- comparing motion where the kind tells. That they are `strength_at` is the law `kind-is`.
use Rattle.std.specs.Prelude.{ℕ, ◌*◌, Bool, true, false, cond, not, ◌&&◌, ◌||◌, List, eqb, get_or}
use Rattle.motion.specs.Grids.{Grids, blk_at}
use Rattle.motion.specs.Motion.{inter_strength}
use Rattle.motion.specs.declared.blocks.Blk.{Blk}
use Rattle.strengths.specs.Blocks.{origin}
use Rattle.strengths.specs.Eights.{across_flag, coded_by, p_odd, q_odd}
use Rattle.strengths.specs.Strength.{vertical, edge, q_block, p_block, border, skipped, outer_intra, between}
use Rattle.strengths.specs.declared.eights.Transforms.{Transforms}
use Rattle.strengths.specs.declared.kinds.Known.{Known}
use Rattle.strengths.specs.declared.kinds.Known.TheVariants.{Stated, Flags, NoKind}
use Rattle.strengths.specs.declared.kinds.Mode.{Mode}
use Rattle.strengths.specs.declared.kinds.MbKind.{MbKind}
use Rattle.strengths.specs.declared.kinds.MbKind.TheVariants.{Intra, Skip, InterUniform, Inter}

-- the first of the own blocks is inter
abbrev pub first_inter : List ℕ → ℕ → ℕ → ℕ → Bool
first_inter inter w x y = eqb (get_or inter (origin w x y) 0) 1

-- a kind is true of own blocks that agree on inter, where the first is inter, all 16 have one motion, some of
-- them has a count
abbrev pub kind_by : MbKind → Bool → Bool → Bool → Bool
kind_by Intra first same counted = not first
kind_by Skip first same counted = first && same && not counted
kind_by InterUniform first same counted = first && same
kind_by Inter first same counted = first

-- the kind that true flags amount to
abbrev pub kind_of : Bool → Bool → Bool → MbKind
kind_of first flat uniform = cond (not first) Intra (cond flat Skip (cond uniform InterUniform Inter))

abbrev pub is_intra : MbKind → Bool
is_intra Intra = true
is_intra Skip = false
is_intra InterUniform = false
is_intra Inter = false

-- ---- what a caller says: whether it says anything, whether motion and counts tell that it is untrue,
-- whether it is by what the own blocks show, and the kind to go by
abbrev pub says_any : Known → Bool
says_any (Stated kind) = true
says_any (Flags flat uniform) = flat || uniform
says_any NoKind = true

abbrev pub asks_motion : Known → Bool
asks_motion (Stated Intra) = false
asks_motion (Stated Skip) = true
asks_motion (Stated InterUniform) = true
asks_motion (Stated Inter) = false
asks_motion (Flags flat uniform) = flat || uniform
asks_motion NoKind = false

abbrev pub untrue_by : Known → Bool → Bool → Bool → Bool
untrue_by (Stated kind) first same counted = not (kind_by kind first same counted)
untrue_by (Flags flat uniform) first same counted = (flat && not (first && same && not counted)) || (uniform && not (first && same))
untrue_by NoKind first same counted = true

abbrev pub kind_known : Known → Bool → MbKind
kind_known (Stated kind) first = kind
kind_known (Flags flat uniform) first = kind_of first flat uniform
kind_known NoKind first = Inter

-- ---- an inner edge by kind
abbrev pub inside : MbKind → ℕ → Bool → Blk → Blk → ℕ
inside Intra limit coded p q = 3
inside Skip limit coded p q = 0
inside InterUniform limit coded p q = cond coded 2 0
inside Inter limit coded p q = inter_strength limit coded p q

-- an edge of which `outer` says whether it is an outer one, and `left` whether it is vertical
abbrev pub across_by : MbKind → Mode → Bool → Bool → Bool → Blk → Blk → ℕ
across_by kind mode outer left coded p q =
    cond outer (between mode.limit (outer_intra mode left) coded p q) (inside kind mode.limit coded p q)

-- p or q is coded: t has the flags of the macroblock and of its neighbours
abbrev pub either_coded : List ℕ → ℕ → Transforms → ℕ → ℕ → ℕ → Bool
either_coded nnz w t x y k =
    coded_by nnz (4 * w) (across_flag t k) (p_odd k) (p_block w x y k) || coded_by nnz (4 * w) t.own (q_odd k) (q_block w x y k)

unfoldable pub strength_by : MbKind → Mode → Grids → ℕ → Transforms → ℕ → ℕ → ℕ → ℕ
strength_by kind mode g w t x y k =
    cond
    (border x y k || skipped t.own k)
    0
    (across_by kind mode (eqb (edge k) 0) (vertical k)
    (either_coded g.nnz w t x y k)
    (blk_at g (p_block w x y k)) (blk_at g (q_block w x y k)))
