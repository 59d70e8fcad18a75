-- The lines of a field, and the two fields of a frame. Assumes nothing.
use mathlib.Core.Path.{◌≡◌, refl, sym, ap, ◌∙◌}
use mathlib.Core.Logic.{◌≢◌}
use mathlib.Core.List.{List, [], ◌∷◌}
use Prim.Native.Nat.{ℕ, zero, suc, ◌+◌, ◌*◌, ◌/◌, ◌%◌, ◌≤◌, ◌<◌}
use native.Mathlib.Nat.{mod-lt, div-lt_iff_lt-mul, div-add-mod', mul-le-mul_right, le_of_suc-le-suc, not-suc-le-zero}
use native.Mathlib.Omega.{arith}
use lib.Arith.{digits_div, digits_mod, digits_lt}
use lib.ListN.{length, get_or, length-append, get_or-append}
use lib.Seq.{ext_get_or, get_or-append-add}
use Rattle.laws.specs.Places.{Plane, places, gets}
use Rattle.laws.specs.Local.{Among}
use Rattle.laws.proofs.Places.{puts-length, puts-gets}
use Rattle.fields.specs.Carried.{View, Sits}
use Rattle.fields.specs.Lines.{lines_at, field_lines, field_of, woven}
use Rattle.fields.proofs.Views.{among-at, gets-length, gets-at, gets-puts, gets-beside}

-- ---- one line
places-length : (base step n : ℕ) → length (places base step n) ≡ n
places-length base step zero = refl
places-length base step (suc n) = ap suc (places-length (base + step) step n)

places-at : (base n c : ℕ) → c < n → get_or (places base 1 n) c 0 ≡ base + c
places-at base zero c h = absurd (not-suc-le-zero h)
places-at base (suc n) zero h = omega arith
places-at base (suc n) (suc c) h = places-at (base + 1) n c (le_of_suc-le-suc h) ∙ omega arith

-- ---- several
pub lines-length : (base far n k : ℕ) → length (lines_at base far n k) ≡ k * n
unfolding lines_at
lines-length base far n zero = omega arith
lines-length base far n (suc k) =
    length-append (places base 1 n) (lines_at (base + far) far n k)
    ∙ omega (arith, places-length base 1 n, lines-length (base + far) far n k)

-- sample c of line r
pub lines_at-place : (base far n k r c : ℕ) → r < k → c < n → get_or (lines_at base far n k) (r * n + c) 0 ≡ base + r * far + c
unfolding lines_at
lines_at-place base far n zero r c h l = absurd (not-suc-le-zero h)
lines_at-place base far n (suc k) zero c h l =
    let e : 0 * n + c ≡ c = omega arith in
    ap (λ (i : ℕ). get_or (lines_at base far n (suc k)) i 0) e
    ∙ get_or-append (places base 1 n) (lines_at (base + far) far n k) 0 c (omega (arith, places-length base 1 n))
    ∙ places-at base n c l
    ∙ omega arith
lines_at-place base far n (suc k) (suc r) c h l =
    let e : suc r * n + c ≡ length (places base 1 n) + (r * n + c) = omega (arith, places-length base 1 n) in
    ap (λ (i : ℕ). get_or (lines_at base far n (suc k)) i 0) e
    ∙ get_or-append-add (places base 1 n) (lines_at (base + far) far n k) (r * n + c) 0
    ∙ lines_at-place (base + far) far n k r c (le_of_suc-le-suc h) l
    ∙ omega arith

module _ (base far n k : ℕ) (wide : 0 < n) where
  -- a place of the picture by its row and column
  pub row_lt : (i : ℕ) → i < k * n → i / n < k
  row_lt i h = (div-lt_iff_lt-mul wide).1 h

  pub index_at : (i : ℕ) → i < k * n → get_or (lines_at base far n k) i 0 ≡ base + i / n * far + i % n
  index_at i h =
      ap (λ (j : ℕ). get_or (lines_at base far n k) j 0) (sym (div-add-mod' i n)) ∙ lines_at-place base far n k (i / n) (i % n) (row_lt i h) (mod-lt i wide)

  -- where lines do not run into each other they are a view of any plane that holds them
  module _ (m : ℕ) (clear : base + n ≤ far) (room : k * far ≤ m) where
    pub lines-view : View m (lines_at base far n k)
    lines-view = record {
      apart = λ i j a b e. same i j (omega (arith, lines-length base far n k)) (omega (arith, lines-length base far n k)) e;
      within = λ i a. below i (omega (arith, lines-length base far n k));
    }
      where
        same : (i j : ℕ) → i < k * n → j < k * n → get_or (lines_at base far n k) i 0 ≡ get_or (lines_at base far n k) j 0 → i ≡ j
        same i j a b e =
            let ci : i % n < far = omega (arith, mod-lt i wide) in
            let cj : j % n < far = omega (arith, mod-lt j wide) in
            let f : i / n * far + i % n ≡ j / n * far + j % n = omega (arith, e, index_at i a, index_at j b) in
            let r : i / n ≡ j / n = sym (digits_div (i / n) ci) ∙ ap (λ (x : ℕ). x / far) f ∙ digits_div (j / n) cj in
            let c : i % n ≡ j % n = sym (digits_mod (i / n) ci) ∙ ap (λ (x : ℕ). x % far) f ∙ digits_mod (j / n) cj in
            sym (div-add-mod' i n) ∙ (λ t. r t * n + c t) ∙ div-add-mod' j n

        below : (i : ℕ) → i < k * n → get_or (lines_at base far n k) i 0 < m
        below i a =
            let h : i / n + 1 ≤ k = omega (arith, row_lt i a) in
            omega (arith, index_at i a, mod-lt i wide, mul-le-mul_right far h)

  pub sits : (r c : ℕ) → r < k → c < n → Sits (lines_at base far n k) (r * n + c) (base + r * far + c)
  sits r c a b = (omega (arith, lines-length base far n k, digits_lt a b), lines_at-place base far n k r c a b)

-- a whole plane is the view of all its lines
pub all_lines : (n k : ℕ) → 0 < n → (s : Plane) → length s ≡ k * n → gets (lines_at 0 n n k) s ≡ s
all_lines n k wide s e =
    ext_get_or 0 (gets L s) s (gets-length L s ∙ lines-length 0 n n k ∙ sym e) (λ i h. at i (omega (arith, gets-length L s, lines-length 0 n n k)))
  where
    L : List ℕ
    L = lines_at 0 n n k

    at : (i : ℕ) → i < k * n → get_or (gets L s) i 0 ≡ get_or s i 0
    at i h =
        gets-at L s i (omega (arith, lines-length 0 n n k))
        ∙ ap (λ (q : ℕ). get_or s q 0) (index_at 0 n n k wide i h ∙ omega (arith, div-add-mod' i n))

-- ---- the two fields of a frame's plane of 2 * k lines of n samples
module _ (n k : ℕ) (wide : 0 < n) where
  pub field-view : (p m : ℕ) → p < 2 → 2 * (k * n) ≤ m → View m (field_lines n p k)
  field-view p m h room =
      let t : p ≤ 1 = omega arith in
      lines-view (p * n) (2 * n) n k wide m (omega (arith, mul-le-mul_right n t)) (omega arith)

  -- k lines
  pub field-length : (p : ℕ) (s : Plane) → length (field_of n p k s) ≡ k * n
  field-length p s = gets-length (field_lines n p k) s ∙ lines-length (p * n) (2 * n) n k

  -- line r of the field is line 2 * r + p of the frame
  pub field_at : (p : ℕ) (s : Plane) (r c : ℕ) → r < k → c < n → get_or (field_of n p k s) (r * n + c) 0 ≡ get_or s ((2 * r + p) * n + c) 0
  field_at p s r c a b =
      gets-at (field_lines n p k) s (r * n + c) (sits (p * n) (2 * n) n k wide r c a b).0
      ∙ ap (λ (q : ℕ). get_or s q 0) (lines_at-place (p * n) (2 * n) n k r c a b ∙ omega arith)

  -- what was put is taken out; what was taken out is put back
  pub taken-put : (p : ℕ) (f s : Plane) → p < 2 → length s ≡ 2 * (k * n) → length f ≡ k * n → field_of n p k (woven n p k f s) ≡ f
  taken-put p f s h e l = gets-puts (field_lines n p k) f s (field-view p (length s) h (omega arith)) (l ∙ sym (lines-length (p * n) (2 * n) n k))

  pub put-taken : (p : ℕ) (s : Plane) → woven n p k (field_of n p k s) s ≡ s
  put-taken p s = puts-gets (field_lines n p k) s

  pub put-length : (p : ℕ) (f s : Plane) → length (woven n p k f s) ≡ length s
  put-length p f s = puts-length (field_lines n p k) f s

  -- no line is in both, and each is in one
  pub fields-apart : (p q : ℕ) → p < 2 → q < 2 → p ≢ q → (i : ℕ) → Among (field_lines n p k) i → Among (field_lines n q k) i → ⊥
  fields-apart p q a b d i u v = d (sym (digits_div p cu) ∙ ap (λ (x : ℕ). x / n) f ∙ digits_div q cv)
    where
      x : ℕ
      x = (among-at (field_lines n p k) i u).index

      y : ℕ
      y = (among-at (field_lines n q k) i v).index

      cu : x % n < n
      cu = mod-lt x wide

      cv : y % n < n
      cv = mod-lt y wide

      small : (r c : ℕ) → r < 2 → c < n → r * n + c < 2 * n
      small r c a b = digits_lt a b

      f : p * n + x % n ≡ q * n + y % n
      f =
          let s = among-at (field_lines n p k) i u in
          let t = among-at (field_lines n q k) i v in
          let ex = index_at (p * n) (2 * n) n k wide x (omega (arith, s.below, lines-length (p * n) (2 * n) n k)) in
          let ey = index_at (q * n) (2 * n) n k wide y (omega (arith, t.below, lines-length (q * n) (2 * n) n k)) in
          let e : x / n * (2 * n) + (p * n + x % n) ≡ y / n * (2 * n) + (q * n + y % n) = omega (arith, ex, ey, s.is, t.is) in
          sym (digits_mod (x / n) (small p (x % n) a cu)) ∙ ap (λ (z : ℕ). z % (2 * n)) e ∙ digits_mod (y / n) (small q (y % n) b cv)

  pub fields-cover : (i : ℕ) → i < 2 * (k * n) → Sits (field_lines n (i / n % 2) k) (i / n / 2 * n + i % n) i
  fields-cover i h = let t = sits (p * n) (2 * n) n k wide r (i % n) below (mod-lt i wide) in (t.0, t.1 ∙ omega (arith, div-add-mod' i n, lines))
    where
      p : ℕ
      p = i / n % 2

      r : ℕ
      r = i / n / 2

      row : i / n < 2 * k
      row = (div-lt_iff_lt-mul wide).1 (omega arith)

      below : r < k
      below = omega (arith, row)

      lines : i / n * n ≡ (r * 2 + p) * n
      lines = ap (λ (z : ℕ). z * n) (sym (div-add-mod' (i / n) 2))

  -- the other field does not see it
  pub other-stays : (p q : ℕ) → p < 2 → q < 2 → q ≢ p → (f s : Plane) → field_of n q k (woven n p k f s) ≡ field_of n q k s
  other-stays p q a b d f s = gets-beside (field_lines n q k) (field_lines n p k) f s (fields-apart q p b a d)

  -- two planes with the same two fields are the same
  pub two_fields : (s t : Plane) → length s ≡ 2 * (k * n) → length t ≡ 2 * (k * n) → field_of n 0 k s ≡ field_of n 0 k t → field_of n 1 k s ≡ field_of n 1 k t → s ≡ t
  two_fields s t ls lt e₀ e₁ = ext_get_or 0 s t (ls ∙ sym lt) (λ i h. at i (i / n % 2) (mod-lt (i / n) (omega arith)) (fields-cover i (omega arith)))
    where
      pick : (p : ℕ) → p < 2 → field_of n p k s ≡ field_of n p k t
      pick zero h = e₀
      pick (suc zero) h = e₁
      pick (suc (suc p)) h = absurd (none h)
        where
          none : suc (suc p) < 2 → ⊥
          none h = omega arith

      at : (i p : ℕ) → p < 2 → Sits (field_lines n p k) (i / n / 2 * n + i % n) i → get_or s i 0 ≡ get_or t i 0
      at i p h c =
          ap (λ (q : ℕ). get_or s q 0) (sym c.1)
          ∙ sym (gets-at (field_lines n p k) s _ c.0)
          ∙ ap (λ (l : Plane). get_or l (i / n / 2 * n + i % n) 0) (pick p h)
          ∙ gets-at (field_lines n p k) t _ c.0
          ∙ ap (λ (q : ℕ). get_or t q 0) c.1

-- ---- a plane of four lines of three samples
abbrev shown : Plane
shown = 0 ∷ 1 ∷ 2 ∷ 10 ∷ 11 ∷ 12 ∷ 20 ∷ 21 ∷ 22 ∷ 30 ∷ 31 ∷ 32 ∷ []

even-lines : field_of 3 0 2 shown ≡ 0 ∷ 1 ∷ 2 ∷ 20 ∷ 21 ∷ 22 ∷ []
unfolding lines_at
even-lines = refl

odd-lines : field_of 3 1 2 shown ≡ 10 ∷ 11 ∷ 12 ∷ 30 ∷ 31 ∷ 32 ∷ []
unfolding lines_at
odd-lines = refl

odd-put : woven 3 1 2 (5 ∷ 5 ∷ 5 ∷ 6 ∷ 6 ∷ 6 ∷ []) shown ≡ 0 ∷ 1 ∷ 2 ∷ 5 ∷ 5 ∷ 5 ∷ 20 ∷ 21 ∷ 22 ∷ 6 ∷ 6 ∷ 6 ∷ []
unfolding lines_at
odd-put = refl
