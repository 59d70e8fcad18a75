-- When the motion of two inter blocks differs, and the strength between them: docs/RULES.md, "Strengths";
-- ITU-T H.264, clause 8.7.2.1. A reference is the number of a picture, whichever list names it; below 0 it is
-- none. P9 to P11 (Cases) are worked examples.
use Rattle.std.specs.Prelude.{ℕ, Bool, true, false, cond, not, ◌&&◌, ◌||◌, List, [], ◌∷◌, ◌++◌, map, reverse, length, ℤ, pos, ◌-ℤ◌, ◌==◌, int_le}
use Rattle.motion.specs.Far.{outside}
use Rattle.laws.specs.Equal.{eq_z}
use Rattle.motion.specs.Sets.{same_set}
use Rattle.motion.specs.declared.blocks.Blk.{Blk}
use Rattle.motion.specs.declared.blocks.Motion.{Motion}

-- ---- what a block holds of list 0 and of list 1
abbrev pub motion0 : Blk → Motion
motion0 b = b.list0

abbrev pub motion1 : Blk → Motion
motion1 b = b.list1

-- ---- the references that it uses, with their vectors
abbrev pub is_used : Motion → Bool
is_used m = int_le (pos 0) m.reference

abbrev pub if_used : Motion → List Motion
if_used m = cond (is_used m) (m ∷ []) []

unfoldable pub used : Blk → List Motion
used b = if_used (motion0 b) ++ if_used (motion1 b)

-- ---- pairings. v is the most by which near vectors differ vertically: 3, and in fields 1; horizontally it
-- is always 3
abbrev pub far : ℕ → Motion → Motion → Bool
far v a b = outside 3 (a.x -ℤ b.x) || outside v (a.y -ℤ b.y)

-- one reference, and near
abbrev pub mate : ℕ → Motion → Motion → Bool
mate v a b = eq_z a.reference b.reference && not (far v a b)

-- paired in order, all are mates
abbrev pub in_order : ℕ → List Motion → List Motion → Bool
in_order v [] [] = true
in_order v [] (b ∷ q) = false
in_order v (a ∷ p) [] = false
in_order v (a ∷ p) (b ∷ q) = mate v a b && in_order v p q

-- some pairing, in order or crossed, matches references and is near in all vectors
abbrev pub paired : ℕ → List Motion → List Motion → Bool
paired v p q = in_order v p q || in_order v p (reverse q)

-- ---- the numbers of used references differ, or their sets do, or no pairing that matches references is near
-- in all vectors. With one each: the references differ or the vectors are far. With none each: never
abbrev pub references : List Motion → List ℤ
references p = map (λ m. m.reference) p

unfoldable pub mismatched : ℕ → List Motion → List Motion → Bool
mismatched v p q =
    not (length p == length q)
    || not (same_set (references p) (references q))
    || not (paired v p q)

unfoldable pub differ : ℕ → Blk → Blk → Bool
differ v p q = mismatched v (used p) (used q)

-- ---- 2 if either is coded, else 1 if their motion differs, else 0
unfoldable pub inter_strength : ℕ → Bool → Blk → Blk → ℕ
inter_strength v coded p q = cond coded 2 (cond (differ v p q) 1 0)

-- ---- the same motion: equal references and vectors in both lists, used or not
abbrev pub equal_motion : Motion → Motion → Bool
equal_motion a b = eq_z a.reference b.reference && eq_z a.x b.x && eq_z a.y b.y

unfoldable pub same_motion : Blk → Blk → Bool
same_motion p q = equal_motion (motion0 p) (motion0 q) && equal_motion (motion1 p) (motion1 q)
