-- References that are renamed one to one: all that is compared of two blocks is as it was. Assumes nothing.
use Rattle.std.proofs.Common.{◌≡◌, ℕ, Bool, not, ◌&&◌, ◌||◌, ℤ, pos, sym, ap, ◌∙◌}
use lib.Signed.{le_z}
use Rattle.laws.specs.Equal.{eq_z}
use Rattle.motion.specs.Motion.{motion0, motion1, far, differ, equal_motion, same_motion}
use Rattle.motion.specs.declared.blocks.Blk.{Blk}
use Rattle.motion.specs.declared.blocks.Motion.{Motion}
use Rattle.motion.proofs.Differ.{unlike, by-list, by-lists}

-- what a list holds, and a block, with its references renamed
abbrev renamed_motion : (ℤ → ℤ) → Motion → Motion
renamed_motion f m = record { reference = f m.reference; x = m.x; y = m.y }

abbrev pub renamed_block : (ℤ → ℤ) → Blk → Blk
renamed_block f b =
    record { inter = b.inter; list0 = renamed_motion f b.list0; list1 = renamed_motion f b.list1 }

-- one to one, used ones to used ones
pub record OneToOne (f : ℤ → ℤ) : Type 0 where
  pub equal : (a b : ℤ) → eq_z (f a) (f b) ≡ eq_z a b
  pub used : (a : ℤ) → le_z (pos 0) (f a) ≡ le_z (pos 0) a

module _ {f : ℤ → ℤ} (one : OneToOne f) where
  unlike-renamed : (v : ℕ) (a b : Motion) → unlike v (renamed_motion f a) (renamed_motion f b) ≡ unlike v a b
  unlike-renamed v a b =
      sym (by-list v (renamed_motion f a) (renamed_motion f b))
      ∙ (λ i. (one.used a.reference i || one.used b.reference i) && not (one.equal a.reference b.reference i && not (far v a b)))
      ∙ by-list v a b

  pub differ-renamed : (v : ℕ) (p q : Blk) → differ v (renamed_block f p) (renamed_block f q) ≡ differ v p q
  differ-renamed v p q =
      sym (by-lists v (renamed_block f p) (renamed_block f q))
      ∙ (λ i. (is (motion0 p) (motion0 q) i || is (motion1 p) (motion1 q) i) && (is (motion0 p) (motion1 q) i || is (motion1 p) (motion0 q) i))
      ∙ by-lists v p q
    where
      is : (a b : Motion) → unlike v (renamed_motion f a) (renamed_motion f b) ≡ unlike v a b
      is = unlike-renamed v

  pub same-renamed : (p q : Blk) → same_motion (renamed_block f p) (renamed_block f q) ≡ same_motion p q
  unfolding same_motion
  same-renamed p q = λ i. is (motion0 p) (motion0 q) i && is (motion1 p) (motion1 q) i
    where
      is : (a b : Motion) → equal_motion (renamed_motion f a) (renamed_motion f b) ≡ equal_motion a b
      is a b = ap (λ (e : Bool). (e && eq_z a.x b.x) && eq_z a.y b.y) (one.equal a.reference b.reference)
