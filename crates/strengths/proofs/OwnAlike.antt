-- Blocks of which the same numbers are stored have one motion: equal references name one picture, whatever
-- the table. Assumes nothing.
use mathlib.Core.Path.{◌≡◌, refl, sym, ap, subst, ◌∙◌}
use mathlib.Core.Bool.{Bool, true, false, not, ◌&&◌, ◌||◌, and_assoc}
use mathlib.Core.List.{List, []}
use Prim.Native.Nat.{ℕ, ◌+◌, ◌*◌, ◌≤◌, ◌<◌}
use lib.Dec.{T}
use lib.IntN.{ℤ}
use lib.ListN.{length}
use Rattle.laws.specs.Equal.{eq_z}
use Rattle.laws.specs.Some.{some, every}
use Rattle.laws.proofs.Bools.{and-true, not-not}
use Rattle.laws.proofs.Equal.{eq_z-self, eq_z→eq}
use Rattle.laws.proofs.Some.{every-at, every-is, every-same, every-and, every-not}
use Rattle.motion.specs.Grids.{Grids, ref_at, motion_at, block_read, blk_at}
use Rattle.motion.specs.Motion.{equal_motion, same_motion}
use Rattle.motion.specs.declared.blocks.Motion.{Motion}
use Rattle.motion.specs.Pictures.{named_by}
use Rattle.motion.proofs.GridParts.{motion-none}
use Rattle.strengths.specs.Inner.{stored_motion, one_stored}

-- ---- one list
module _ (refs mvs : List ℤ) (at stride : ℕ) where
  -- of an empty list the same is stored of all blocks
  pub none-stored : length refs ≤ 0 → length mvs ≤ 0 → true ≡ one_stored refs mvs at stride
  unfolding one_stored named_by
  none-stored h k = sym (every-is 4 _ (λ i l. every-is 4 _ (λ j m. alike (at + i * stride + j))))
    where
      alike : (i : ℕ) → equal_motion (stored_motion refs mvs i) (stored_motion refs mvs at) ≡ true
      alike i =
          let e = sym (motion-none [] refs mvs i h k) in
          let f = sym (motion-none [] refs mvs at h k) in
          λ j. equal_motion (e j) (f j)

  stored_at : one_stored refs mvs at stride ≡ true → (j k : ℕ) → j < 4 → k < 4
      → equal_motion (stored_motion refs mvs (at + j * stride + k)) (stored_motion refs mvs at) ≡ true
  unfolding one_stored
  stored_at e j k h l = every-at 4 k _ (every-at 4 j _ e h) l

-- ---- what they name
named-one : (pictures : List ℤ) (r s : ℤ) → eq_z r s ≡ true → eq_z (named_by pictures r) (named_by pictures s) ≡ true
named-one pictures r s e =
    ap (λ (z : ℤ). eq_z (named_by pictures r) (named_by pictures z)) (sym (eq_z→eq r s (subst T (sym e) tt))) ∙ eq_z-self (named_by pictures r)

motion-one : (pictures refs mvs : List ℤ) (i n : ℕ) → equal_motion (stored_motion refs mvs i) (stored_motion refs mvs n) ≡ true
    → equal_motion (motion_at pictures refs mvs i) (motion_at pictures refs mvs n) ≡ true
motion-one pictures refs mvs i n e =
    let h = and-true _ _ e in
    let g = and-true _ _ h.0 in
    simp (named-one pictures (ref_at refs i) (ref_at refs n) g.0, g.1, h.1)

-- ---- both lists
pub one-motion : (g : Grids) (at stride : ℕ) → (one_stored g.ref0 g.mv0 at stride && one_stored g.ref1 g.mv1 at stride) ≡ true
    → every 4 (λ j. every 4 (λ k. same_motion (blk_at g (at + j * stride + k)) (blk_at g at))) ≡ true
unfolding same_motion block_read
one-motion g at stride e =
    let b = and-true (one_stored g.ref0 g.mv0 at stride) (one_stored g.ref1 g.mv1 at stride) e in
    every-is 4 _
    (λ j h. every-is 4 _
    (λ k l. simp (
      motion-one g.pictures0 g.ref0 g.mv0 (at + j * stride + k) at (stored_at g.ref0 g.mv0 at stride b.0 j k h l),
      motion-one g.pictures1 g.ref1 g.mv1 (at + j * stride + k) at (stored_at g.ref1 g.mv1 at stride b.1 j k h l),
    )))

-- no block passes the test that is not passed by all, and of two tests neither
pub no_own : (at stride : ℕ) (f : ℕ → Bool)
    → not (some 4 (λ j. some 4 (λ k. not (f (at + j * stride + k))))) ≡ every 4 (λ j. every 4 (λ k. f (at + j * stride + k)))
no_own at stride f =
    sym (every-not 4 (λ j. some 4 (λ k. not (f (at + j * stride + k)))))
    ∙ every-same 4 _ _ (λ j h. sym (every-not 4 (λ k. not (f (at + j * stride + k)))) ∙ every-same 4 _ _ (λ k l. not-not (f (at + j * stride + k))))

neither : (a b : Bool) → not (a || b) ≡ (not a && not b)
neither true b = refl
neither false b = refl

-- references and vectors may be walked apart
pub walked-apart : (refs mvs : List ℤ) (at stride : ℕ) (m : Motion)
    → not (some 4 (λ j. some 4 (λ k. not (eq_z (stored_motion refs mvs (at + j * stride + k)).reference m.reference)))
    || some 4 (λ j. some 4 (λ k. not (eq_z (stored_motion refs mvs (at + j * stride + k)).x m.x && eq_z (stored_motion refs mvs (at + j * stride + k)).y m.y))))
    ≡ every 4 (λ j. every 4 (λ k. equal_motion (stored_motion refs mvs (at + j * stride + k)) m))
walked-apart refs mvs at stride m =
    neither _ _
    ∙ (λ i. no_own at stride in-ref i && no_own at stride in-vector i)
    ∙ sym (every-same 4 _ _ (λ j h. every-same 4 _ _ (λ k l. go (at + j * stride + k)) ∙ every-and 4 _ _) ∙ every-and 4 _ _)
  where
    stored : ℕ → Motion
    stored = stored_motion refs mvs

    in-ref : ℕ → Bool
    in-ref i = eq_z (stored i).reference m.reference

    in-vector : ℕ → Bool
    in-vector i = eq_z (stored i).x m.x && eq_z (stored i).y m.y

    go : (i : ℕ) → equal_motion (stored i) m ≡ (in-ref i && in-vector i)
    go i = and_assoc (in-ref i) (eq_z (stored i).x m.x) (eq_z (stored i).y m.y)
