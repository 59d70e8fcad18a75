-- Rows of samples moved: what comes to each place. Assumes nothing.
use mathlib.Core.Path.{◌≡◌, refl, sym, ap, subst, ◌∙◌}
use mathlib.Core.Logic.{◌≢◌, ⊎_elim}
use Prim.Native.Nat.{ℕ, zero, suc, ◌+◌, ◌-◌, ◌*◌, ◌≤◌, ◌<◌}
use native.Mathlib.Nat.{mul-le-mul_right, not-suc-le-zero, zero-add}
use native.Mathlib.Omega.{arith}
use lib.ListN.{length, get_or, take, drop}
use native.Mathlib.Decide.{dec_lt}
use borrow.Rule.Slice.PartMut.{put_mid}
use Rattle.std.proofs.lemmas.Slice.{put_mid-paste}
use Rattle.std.proofs.lemmas.List.Edits.{paste_all}
use Rattle.std.proofs.lemmas.List.{ext_get_or, length-take-le, length-drop, length-append, get_or-append-add, get_or_append_left, get_or-take, get_or-drop}
use mathlib.Core.List.{[], ◌∷◌, ◌++◌}
use Rattle.laws.specs.Local.{Local}
use Rattle.laws.specs.Loop.{up_to}
use Rattle.laws.specs.Places.{Plane}
use Rattle.laws.proofs.Local.{commute, local-up_to, local-through}
use Rattle.laws.proofs.Loop.{up_to-same}
use Rattle.laws.proofs.Loops.{up_to-fuse}
use Rattle.batches.specs.Moves.{copies, copied_row, row_moves, moved_rows}
use Rattle.batches.proofs.MovedPlaces.{moved, Spread, last-or-before, moved_length, moved-off, moved_at}

-- ---- one row
module _ (n to from : ℕ) (xs ys : Plane) where
  copied-row-moved : copied_row n to from xs ys ≡ moved n (λ k. to + k) (λ k. from + k) xs ys
  unfolding copied_row moved
  copied-row-moved = refl

  copied-length : length (copied_row n to from xs ys) ≡ length ys
  copied-length = rw copied-row-moved (moved_length (λ k. to + k) (λ k. from + k) xs ys n)

  copied-off : (j : ℕ) → ((k : ℕ) → k < n → j ≢ to + k) → get_or (copied_row n to from xs ys) j 0 ≡ get_or ys j 0
  copied-off j h = rw copied-row-moved (moved-off (λ k. to + k) (λ k. from + k) xs ys n j h)

  copied_at : to + n ≤ length ys → (k : ℕ) → k < n → get_or (copied_row n to from xs ys) (to + k) 0 ≡ get_or xs (from + k) 0
  copied_at l k h = rw copied-row-moved (moved_at (λ k. to + k) (λ k. from + k) xs ys n apart k h)
    where
      apart : Spread n (λ k. to + k) (length ys)
      apart = record { apart = λ i j a b d e. d (omega arith); room = λ i a. omega arith }

  copied-spliced : to + n ≤ length ys → from + n ≤ length xs → take to ys ++ (take n (drop from xs) ++ drop (to + n) ys) ≡ copied_row n to from xs ys
  copied-spliced h l = ext_get_or 0 _ _ lengths (λ i b. at i (dec_lt i to) (dec_lt i (to + n)))
    where
      middle : Plane
      middle = take n (drop from xs)

      before : length (take to ys) ≡ to
      before = length-take-le to ys (omega arith)

      within : length middle ≡ n
      within = length-take-le n (drop from xs) (rw (length-drop from xs) (omega arith))

      lengths : length (take to ys ++ (middle ++ drop (to + n) ys)) ≡ length (copied_row n to from xs ys)
      lengths = rw (copied-length, length-append (take to ys) (middle ++ drop (to + n) ys), length-append middle (drop (to + n) ys), before, within, length-drop (to + n) ys) (omega arith)

      after : (j : ℕ) → get_or (take to ys ++ (middle ++ drop (to + n) ys)) (to + j) 0 ≡ get_or (middle ++ drop (to + n) ys) j 0
      after j = (λ k. get_or (take to ys ++ (middle ++ drop (to + n) ys)) (sym before k + j) 0) ∙ get_or-append-add (take to ys) (middle ++ drop (to + n) ys) j 0

      inside : (j : ℕ) → j < n → get_or (take to ys ++ (middle ++ drop (to + n) ys)) (to + j) 0 ≡ get_or (copied_row n to from xs ys) (to + j) 0
      inside j b =
          after j
          ∙ get_or_append_left middle (drop (to + n) ys) 0 j (rw within b)
          ∙ get_or-take n (drop from xs) j 0 b
          ∙ get_or-drop from xs j 0
          ∙ sym (copied_at h j b)

      beyond : (j : ℕ) → get_or (take to ys ++ (middle ++ drop (to + n) ys)) (to + (n + j)) 0 ≡ get_or (copied_row n to from xs ys) (to + (n + j)) 0
      beyond j =
          after (n + j)
          ∙ (λ k. get_or (middle ++ drop (to + n) ys) (sym within k + j) 0)
          ∙ get_or-append-add middle (drop (to + n) ys) j 0
          ∙ get_or-drop (to + n) ys j 0
          ∙ (let e : to + n + j ≡ to + (n + j) = omega arith in λ k. get_or ys (e k) 0)
          ∙ sym (copied-off (to + (n + j)) (λ k b e. omega arith))

      at : (i : ℕ) → Dec (i < to) → Dec (i < to + n) → get_or (take to ys ++ (middle ++ drop (to + n) ys)) i 0 ≡ get_or (copied_row n to from xs ys) i 0
      at i (yes a) b =
          get_or_append_left (take to ys) (middle ++ drop (to + n) ys) 0 i (rw before a)
          ∙ get_or-take to ys i 0 a
          ∙ sym (copied-off i (λ k b e. omega arith))
      at i (no a) (yes b) =
          subst (λ (k : ℕ). get_or (take to ys ++ (middle ++ drop (to + n) ys)) k 0 ≡ get_or (copied_row n to from xs ys) k 0) (let e : to + (i - to) ≡ i = omega arith in e)
          (inside (i - to) (omega arith))
      at i (no a) (no b) =
          subst (λ (k : ℕ). get_or (take to ys ++ (middle ++ drop (to + n) ys)) k 0 ≡ get_or (copied_row n to from xs ys) k 0) (let e : to + (n + (i - to - n)) ≡ i = omega arith in e)
          (beyond (i - to - n))

  -- as code copies a slice into another
  pub copied-put : {zs : Plane} → zs ≡ take (from + n - from) (drop from xs) → to + n ≤ length ys → from + n ≤ length xs → put_mid to (to + n - to) ys zs ≡ copied_row n to from xs ys
  copied-put {zs} e h l =
      put_mid-paste to (to + n - to) ys zs row n (let k : from + n - from ≡ n = omega arith in e ∙ (λ i. take (k i) (drop from xs))) (omega arith) long
      ∙ paste_all ys to row n long
      ∙ copied-spliced h l
    where
      row : Plane
      row = take n (drop from xs)

      long : n ≡ length row
      long = sym (length-take-le n (drop from xs) (rw (length-drop from xs) (omega arith)))

-- ---- h rows: their places do not overlap where a row has n places or more
module _ (n to by from stride : ℕ) (xs ys : Plane) where
  pub rows-length : (h : ℕ) → length (moved_rows h n to by from stride xs ys) ≡ length ys
  unfolding moved_rows up_to
  rows-length zero = refl
  rows-length (suc h) = copied-length n (to + h * by) (from + h * stride) xs (moved_rows h n to by from stride xs ys) ∙ rows-length h

  pub rows-off : (h j : ℕ) → ((r k : ℕ) → r < h → k < n → j ≢ to + r * by + k) → get_or (moved_rows h n to by from stride xs ys) j 0 ≡ get_or ys j 0
  unfolding moved_rows up_to
  rows-off zero j f = refl
  rows-off (suc h) j f =
      copied-off n (to + h * by) (from + h * stride) xs (moved_rows h n to by from stride xs ys) j (λ k l. f h k (omega arith) l)
      ∙ rows-off h j (λ r k l m. f r k (omega arith) m)

  -- room for the last row
  pub rows_at : n ≤ by → (h : ℕ) → ((r : ℕ) → r < h → to + r * by + n ≤ length ys) → (r k : ℕ) → r < h → k < n
      → get_or (moved_rows h n to by from stride xs ys) (to + r * by + k) 0 ≡ get_or xs (from + r * stride + k) 0
  unfolding moved_rows up_to
  rows_at w zero f r k l m = absurd (not-suc-le-zero l)
  rows_at w (suc h) f r k l m = ⊎_elim last (λ b. earlier b (rows_at w h (λ q a. f q (omega arith)) r k b m)) (last-or-before r h l)
    where
      rest : Plane
      rest = moved_rows h n to by from stride xs ys

      last : r ≡ h → get_or (copied_row n (to + h * by) (from + h * stride) xs rest) (to + r * by + k) 0 ≡ get_or xs (from + r * stride + k) 0
      last e = rw e (copied_at n (to + h * by) (from + h * stride) xs rest (rw (rows-length h) (f h (omega arith))) k m)

      earlier : r < h → get_or rest (to + r * by + k) 0 ≡ get_or xs (from + r * stride + k) 0
          → get_or (copied_row n (to + h * by) (from + h * stride) xs rest) (to + r * by + k) 0 ≡ get_or xs (from + r * stride + k) 0
      earlier b e =
          let q : suc r * by ≤ h * by = mul-le-mul_right by b in
          copied-off n (to + h * by) (from + h * stride) xs rest (to + r * by + k) (λ i c z. omega arith) ∙ e

-- ---- from the first place on, as code writes it
module _ (h n by stride : ℕ) (xs ys : Plane) where
  pub into-first : (from : ℕ) → up_to h (λ r. copied_row n (r * by) (from + r * stride) xs) ys ≡ moved_rows h n 0 by from stride xs ys
  unfolding moved_rows
  into-first from = up_to-same h _ _ ys (λ r t l. ap (λ (p : ℕ). copied_row n p (from + r * stride) xs t) (sym (zero-add (r * by))))

  pub out-of-first : (to : ℕ) → up_to h (λ r. copied_row n (to + r * by) (r * stride) xs) ys ≡ moved_rows h n to by 0 stride xs ys
  unfolding moved_rows
  out-of-first to = up_to-same h _ _ ys (λ r t l. ap (λ (p : ℕ). copied_row n (to + r * by) p xs t) (sym (zero-add (r * stride))))

-- ---- rows of two planes in turn are those of one plane, then those of the other: the first one's places are
-- in F, the other's are not
module _ (F : ℕ → Type 0) (dec : (p : ℕ) → Dec (F p)) where
  copied-local : (G : ℕ → Type 0) (n to from : ℕ) (xs : Plane) → ((k : ℕ) → k < n → G (to + k)) → Local G (copied_row n to from xs)
  unfolding copied_row
  copied-local G n to from xs h = local-up_to G n (copies to from xs) (λ k l. local-through G [] ((to + k) ∷ []) (λ vs. get_or xs (from + k) 0 ∷ []) tt (h k l, tt))

  not-dec : (p : ℕ) → Dec (F p → ⊥)
  not-dec p = go (dec p)
    where
      go : Dec (F p) → Dec (F p → ⊥)
      go (yes a) = no (λ f. f a)
      go (no a) = yes a

  in-turn : (h n by from stride to to' : ℕ) (xs ys t : Plane) → ((r k : ℕ) → r < h → k < n → F (to + r * by + k)) → ((r k : ℕ) → r < h → k < n → F (to' + r * by + k) → ⊥)
      → up_to h (λ r u. row_moves n to' by from stride ys r (row_moves n to by from stride xs r u)) t ≡ moved_rows h n to' by from stride ys (moved_rows h n to by from stride xs t)
  unfolding moved_rows
  in-turn h n by from stride to to' xs ys t f g =
      sym (up_to-fuse h (row_moves n to by from stride xs) (row_moves n to' by from stride ys) t
      (λ i j u l b. commute (λ p. F p → ⊥) F _ _ not-dec dec (λ p a c. a c)
      (copied-local (λ p. F p → ⊥) n (to' + i * by) (from + i * stride) ys (λ k m. g i k (omega arith) m))
      (copied-local F n (to + j * by) (from + j * stride) xs (λ k m. f j k b m)) u))

  -- with places as code writes them
  pub rows-in-turn : (h n by from stride to to' : ℕ) (xs ys t : Plane) (d d' : ℕ → ℕ) → ((r : ℕ) → d r ≡ to + r * by) → ((r : ℕ) → d' r ≡ to' + r * by)
      → ((r k : ℕ) → r < h → k < n → F (to + r * by + k)) → ((r k : ℕ) → r < h → k < n → F (to' + r * by + k) → ⊥)
      → up_to h (λ r u. copied_row n (d' r) (from + r * stride) ys (copied_row n (d r) (from + r * stride) xs u)) t
      ≡ moved_rows h n to' by from stride ys (moved_rows h n to by from stride xs t)
  rows-in-turn h n by from stride to to' xs ys t d d' e e' f g =
      (λ i. up_to h (λ r u. copied_row n (e' r i) (from + r * stride) ys (copied_row n (e r i) (from + r * stride) xs u)) t)
      ∙ in-turn h n by from stride to to' xs ys t f g
