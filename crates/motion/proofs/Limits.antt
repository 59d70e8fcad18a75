-- The comparison at two limits of vertical distance, as a frame's and a field's: motion that does not differ
-- at one does not at a greater one. Assumes nothing.
use Rattle.std.proofs.Common.{◌≡◌, ℕ, ◌≤◌, Bool, true, false, not, ◌&&◌, ◌||◌, T, eqb, List, [], ◌∷◌, reverse, length, ◌-ℤ◌, refl, ⊎_elim, true≢false}
use Rattle.laws.specs.Equal.{eq_z}
use Rattle.laws.proofs.Bools.{and_parts, and_both, or_parts, or_left, or_right}
use Rattle.motion.specs.Far.{outside}
use Rattle.motion.specs.Motion.{used, mate, in_order, paired, references, mismatched, differ}
use Rattle.motion.specs.Sets.{same_set}
use Rattle.motion.specs.declared.blocks.Blk.{Blk}
use Rattle.motion.specs.declared.blocks.Motion.{Motion}
use Rattle.motion.proofs.Far.{within_more}

weaker : (e x s t : Bool) → (T (not s) → T (not t)) → T (e && not (x || s)) → T (e && not (x || t))
weaker true true s t f h = h
weaker true false s t f h = f h
weaker false x s t f h = h

without : (a s t : Bool) → (T s → T t) → (a || not s) ≡ false → (a || not t) ≡ false
without true s t f e = e
without false true true f e = refl
without false true false f e = absurd (f tt)
without false false t f e = absurd (true≢false e)

module _ {v w : ℕ} (more : v ≤ w) where
  mate-more : (a b : Motion) → T (mate v a b) → T (mate w a b)
  mate-more a b =
      weaker (eq_z a.reference b.reference) (outside 3 (a.x -ℤ b.x)) (outside v (a.y -ℤ b.y)) (outside w (a.y -ℤ b.y))
      (within_more more (a.y -ℤ b.y))

  in-order-more : (p q : List Motion) → T (in_order v p q) → T (in_order w p q)
  in-order-more [] [] t = t
  in-order-more [] (b ∷ q) t = t
  in-order-more (a ∷ p) [] t = t
  in-order-more (a ∷ p) (b ∷ q) t =
      let h = and_parts (mate v a b) (in_order v p q) t in
      and_both (mate w a b) (in_order w p q) (mate-more a b h.0) (in-order-more p q h.1)

  paired-more : (p q : List Motion) → T (paired v p q) → T (paired w p q)
  paired-more p q t =
      ⊎_elim
      (λ h. or_left (in_order w p q) (in_order w p (reverse q)) (in-order-more p q h))
      (λ h. or_right (in_order w p q) (in_order w p (reverse q)) (in-order-more p (reverse q) h))
      (or_parts (in_order v p q) (in_order v p (reverse q)) t)

  pub differ-more : (p q : Blk) → differ v p q ≡ false → differ w p q ≡ false
  unfolding differ mismatched
  differ-more p q =
      let a = used p in
      let b = used q in
      without (not (eqb (length a) (length b)) || not (same_set (references a) (references b))) (paired v a b) (paired w a b) (paired-more a b)
