-- Blocks that hold nothing in list 1: their strength by list 0 alone is their strength. Assumes nothing.
use Rattle.std.proofs.Common.{◌≡◌, ℕ, Bool, cond, List, [], ◌++◌, length, ℤ, sym, refl, ap, ◌∙◌, append-nil, arith}
use lib.ListN.{get_or-eq_default}
use Rattle.motion.specs.Grids.{ref_at, vector_at, motion_at, block_read}
use Rattle.motion.specs.Inner.{lone_strength}
use Rattle.motion.specs.Motion.{if_used, used, mismatched, differ, inter_strength}
use Rattle.motion.specs.Pictures.{none, named_by}
use Rattle.motion.proofs.Pictures.{none_named, by_number}

-- ---- an empty table names as no table does, and an empty list holds no reference, whatever its table
named-alike : (pictures : List ℤ) (r : ℤ) → length pictures ≡ 0 → named_by [] r ≡ named_by pictures r
named-alike pictures r e = sym (by_number [] r refl) ∙ by_number pictures r e

none-held : (pictures refs : List ℤ) (i : ℕ) → length refs ≡ 0 → none ≡ named_by pictures (ref_at refs i)
none-held pictures refs i e = sym (ap (named_by pictures) (get_or-eq_default refs none {n = i} (omega arith)) ∙ none_named pictures)

-- ---- such a block uses what it holds in list 0
lone-used : (inter : List ℕ) (ref0 mv0 ref1 mv1 pictures0 pictures1 : List ℤ) → length ref1 ≡ 0 → length pictures0 ≡ 0 → (i : ℕ)
    → if_used (motion_at [] ref0 mv0 i) ≡ used (block_read inter ref0 mv0 ref1 mv1 pictures0 pictures1 i)
unfolding used block_read
lone-used inter ref0 mv0 ref1 mv1 pictures0 pictures1 e f i =
    let a = named-alike pictures0 (ref_at ref0 i) f in
    let b = none-held pictures1 ref1 i e in
    sym (append-nil (if_used (motion_at [] ref0 mv0 i)))
    ∙ (λ j. if_used (vector_at (a j) mv0 i) ++ if_used (vector_at (b j) mv1 i))

pub lone_is : (v : ℕ) (coded : Bool) (inter : List ℕ) (ref0 mv0 ref1 mv1 pictures0 pictures1 : List ℤ) (p q : ℕ)
    → length ref1 ≡ 0 → length pictures0 ≡ 0
    → lone_strength v coded (motion_at [] ref0 mv0 p) (motion_at [] ref0 mv0 q)
    ≡ inter_strength v coded (block_read inter ref0 mv0 ref1 mv1 pictures0 pictures1 p) (block_read inter ref0 mv0 ref1 mv1 pictures0 pictures1 q)
unfolding inter_strength differ
lone_is v coded inter ref0 mv0 ref1 mv1 pictures0 pictures1 p q e f =
    let u = lone-used inter ref0 mv0 ref1 mv1 pictures0 pictures1 e f in
    λ j. cond coded 2 (cond (mismatched v (u p j) (u q j)) 1 0)
