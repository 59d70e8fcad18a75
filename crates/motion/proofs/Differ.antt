-- The comparison list by list: the motion of two blocks differs where what their lists hold does, in order
-- and crossed. Assumes nothing.
use Rattle.std.proofs.Common.{◌≡◌, ℕ, Bool, true, false, cond, not, ◌&&◌, ◌||◌, T, List, [], ◌∷◌, ◌++◌, pos, sym, refl, ap, ◌∙◌, true≢false}
use mathlib.Core.Bool.{and-true, or-false, or-true, false≢true}
use lib.Signed.{le_z}
use Rattle.motion.specs.Motion.{motion0, motion1, is_used, if_used, used, mate, mismatched, differ}
use Rattle.motion.specs.declared.blocks.Blk.{Blk}
use Rattle.motion.specs.declared.blocks.Motion.{Motion}
use Rattle.motion.proofs.Pairings.{one-reference, by_one, by_two}

-- ---- what two lists hold, compared as if it were all
abbrev pub unlike : ℕ → Motion → Motion → Bool
unlike v a c = mismatched v (if_used a) (if_used c)

-- where s and t say whether it is used: one that is not is no mate of one that is
by-use : (s t m : Bool) → (T m → s ≡ t) → ((s || t) && not m) ≡ cond s (not (t && m)) t
by-use true true m f = refl
by-use true false true f = absurd (true≢false (f tt))
by-use true false false f = refl
by-use false true true f = absurd (false≢true (f tt))
by-use false true false f = refl
by-use false false m f = refl

module _ (v : ℕ) where
  abbrev used_if : Bool → Motion → List Motion
  used_if s a = cond s (a ∷ []) []

  abbrev told : Bool → Bool → Motion → Motion → Bool
  told s t a c = cond s (not (t && mate v a c)) t

  told_is : (s t : Bool) (a c : Motion) → told s t a c ≡ mismatched v (used_if s a) (used_if t c)
  unfolding mismatched
  told_is true true a c = by_one v a c
  told_is true false a c = refl
  told_is false true a c = refl
  told_is false false a c = refl

  mates-used : (a c : Motion) → T (mate v a c) → is_used a ≡ is_used c
  mates-used a c t = ap (le_z (pos 0)) (one-reference v a c t)

  pub by-list : (a c : Motion) → ((is_used a || is_used c) && not (mate v a c)) ≡ unlike v a c
  by-list a c = by-use (is_used a) (is_used c) (mate v a c) (mates-used a c) ∙ told_is (is_used a) (is_used c) a c

  -- ---- two lists on each side: they differ in order, and crossed
  told-both : (s t u w : Bool) (a b c d : Motion)
      → ((told s u a c || told t w b d) && (told s w a d || told t u b c)) ≡ mismatched v (used_if s a ++ used_if t b) (used_if u c ++ used_if w d)
  unfolding mismatched
  told-both true true true true a b c d = by_two v a b c d
  told-both true true true false a b c d = simp or-true
  told-both true true false true a b c d = simp or-true
  told-both true true false false a b c d = refl
  told-both true false true true a b c d = simp or-true
  told-both true false true false a b c d = and-true (not (mate v a c) || false) ∙ or-false (not (mate v a c)) ∙ by_one v a c
  told-both true false false true a b c d = or-false (not (mate v a d)) ∙ by_one v a d
  told-both true false false false a b c d = refl
  told-both false true true true a b c d = refl
  told-both false true true false a b c d = by_one v b c
  told-both false true false true a b c d = and-true (not (mate v b d)) ∙ by_one v b d
  told-both false true false false a b c d = refl
  told-both false false true true a b c d = refl
  told-both false false true false a b c d = refl
  told-both false false false true a b c d = refl
  told-both false false false false a b c d = refl

  pub by-lists : (p q : Blk)
      → ((unlike v (motion0 p) (motion0 q) || unlike v (motion1 p) (motion1 q)) && (unlike v (motion0 p) (motion1 q) || unlike v (motion1 p) (motion0 q)))
      ≡ differ v p q
  unfolding differ used
  by-lists p q =
      (λ i. (is (motion0 p) (motion0 q) i || is (motion1 p) (motion1 q) i) && (is (motion0 p) (motion1 q) i || is (motion1 p) (motion0 q) i))
      ∙ told-both (is_used (motion0 p)) (is_used (motion1 p)) (is_used (motion0 q)) (is_used (motion1 q)) (motion0 p) (motion1 p) (motion0 q) (motion1 q)
    where
      is : (a c : Motion) → unlike v a c ≡ told (is_used a) (is_used c) a c
      is a c = sym (told_is (is_used a) (is_used c) a c)
