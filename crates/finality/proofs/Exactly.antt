-- What the answers mean: yes exactly where the macroblock is final. A final one stays final, all are once all
-- are visited, and with the marks of visits no question about a macroblock of the picture is refused. Assumes
-- nothing.
use mathlib.Core.Path.{◌≡◌, refl, sym, ap}
use mathlib.Core.Logic.{◌↔◌}
use mathlib.Core.Bool.{Bool, true, false, not, ◌||◌}
use mathlib.Core.List.{List, [], ◌∷◌}
use Prim.Native.Nat.{ℕ, ◌+◌, ◌*◌, ◌<◌}
use borrow.Author.Tests.{eq-eqb, eqb-true, lt-leb, le-ltb, ltb-true, lt-ltb}
use lib.Dec.{eqb, ltb}
use lib.ListN.{length, get_or}
use Rattle.laws.specs.Refusal.{refusal}
use Rattle.laws.proofs.Bools.{and-true, and-false, true-false}
use Rattle.laws.proofs.Refusal.{none-applies, refusal-left}
use Rattle.sizes.specs.Sizes.{bad_size}
use Rattle.sizes.specs.declared.Size.{Size}
use Rattle.visits.specs.AnyOrder.{AllVisited}
use Rattle.visits.specs.Beyond.{Bits}
use Rattle.finality.specs.Final.{has_right, has_lower, is_final, bad_asked, final_checks, place_checks, finality_of, Final}
use Rattle.finality.proofs.Asked.{Placed, placed}

-- ---- a test that is asked where t holds
behind : (t b : Bool) → (not t || b) ≡ true → t ≡ true → b ≡ true
behind true b e h = e
behind false b e h = absurd (true-false (sym h))

ahead : (t b : Bool) → (t ≡ true → b ≡ true) → (not t || b) ≡ true
ahead true b f = f refl
ahead false b f = refl

module _ (size : Size) (ms : List ℕ) (x y : ℕ) where
  -- ---- the test and what it means
  pub final-tells : is_final size ms x y ≡ true → Final size ms x y
  unfolding is_final
  final-tells e =
      let a = and-true _ _ e in
      let b = and-true _ _ a.0 in
      record {
        own = eqb-true _ 1 b.0;
        right = λ h. eqb-true _ 1 (behind (has_right size x) _ b.1 (lt-ltb _ _ h));
        lower = λ h. eqb-true _ 1 (behind (has_lower size y) _ a.1 (lt-ltb _ _ h));
      }

  pub final-said : Final size ms x y → is_final size ms x y ≡ true
  unfolding is_final
  final-said f =
      rw (
        eq-eqb _ 1 f.own,
        ahead (has_right size x) (eqb (get_or ms (y * size.w + (x + 1)) 0) 1) (λ h. eq-eqb _ 1 (f.right (ltb-true _ _ h))),
        ahead (has_lower size y) (eqb (get_or ms ((y + 1) * size.w + x) 0) 1) (λ h. eq-eqb _ 1 (f.lower (ltb-true _ _ h))),
      )

  -- ---- an answer of the call
  pub yes-exactly : (finality_of size ms x y).number ≡ 0 → ((finality_of size ms x y).yes ≡ true) ↔ Final size ms x y
  unfolding finality_of
  yes-exactly z = (λ e. final-tells (and-true (eqb (refusal (final_checks size ms x y)) 0) _ e).1, λ f. rw (eq-eqb _ 0 z, final-said f))

  -- yes is said with 0 alone, so of a macroblock of the picture
  pub yes-tells : (finality_of size ms x y).yes ≡ true → Placed size (length ms) x y × Final size ms x y
  unfolding finality_of
  yes-tells e =
      let a = and-true (eqb (refusal (final_checks size ms x y)) 0) _ e in
      (placed size (length ms) x y (refusal-left (place_checks size (length ms) x y) ((7, bad_asked size ms x y) ∷ []) tt (eqb-true _ 0 a.0)), final-tells a.1)

  -- ---- where nothing is refused: a good size, a macroblock of the picture, and marks as visits make them
  pub never-refused : bad_size size ≡ false → x < size.w → y < size.h → length ms ≡ size.w * size.h → Bits ms → (finality_of size ms x y).number ≡ 0
  unfolding finality_of bad_asked
  never-refused s a b l m =
      none-applies (final_checks size ms x y)
      (s, ((λ i. lt-leb size.w x a i || lt-leb size.h y b i), (ap not (eq-eqb _ _ l), (marks, tt))))
    where
      fine : (i : ℕ) → ltb 1 (get_or ms i 0) ≡ false
      fine i = le-ltb 1 (get_or ms i 0) (m i)

      marks : bad_asked size ms x y ≡ false
      marks = λ i. fine (y * size.w + x) i || and-false (has_right size x) (fine (y * size.w + (x + 1))) i || and-false (has_lower size y) (fine ((y + 1) * size.w + x)) i

  -- ---- all visited
  pub all-final : x < size.w → y < size.h → AllVisited size.w size.h ms → Final size ms x y
  all-final a b all = record { own = all x y a b; right = λ h. all (x + 1) y h b; lower = λ h. all x (y + 1) a h }

-- marks that are all kept
pub final-kept : (size : Size) (ms ns : List ℕ) (x y : ℕ) → ((i : ℕ) → get_or ms i 0 ≡ 1 → get_or ns i 0 ≡ 1) → Final size ms x y → Final size ns x y
final-kept size ms ns x y k f = record { own = k _ f.own; right = λ h. k _ (f.right h); lower = λ h. k _ (f.lower h) }
