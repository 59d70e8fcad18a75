-- The columns of a batch from column c on, n of them, stand for n lines of eight samples of a plane: all
-- sixteen for luma, the first eight for U, the others for V. Assumes nothing.
use mathlib.Core.Path.{◌≡◌, sym, ap, subst, ◌∙◌}
use Prim.Native.Nat.{ℕ, suc, ◌+◌, ◌-◌, ◌*◌, ◌/◌, ◌%◌, ◌≤◌, ◌<◌}
use mathlib.Core.List.{List}
use native.Mathlib.Nat.{mul-le-mul_right}
use native.Mathlib.Decide.{dec_lt, dec_le}
use native.Mathlib.Omega.{arith}
use lib.Arith.{digits_div}
use lib.ListN.{length}
use Rattle.laws.specs.Local.{Local}
use Rattle.laws.specs.Loop.{up_to}
use Rattle.laws.specs.Places.{Plane, line_at}
use Rattle.laws.proofs.Local.{local-up_to, line_at-in}
use Rattle.laws.proofs.Loop.{up_to-add}
use Rattle.batches.specs.Lines.{Straight, vertical, horizontal, upper, lower, from_row}
use Rattle.batches.proofs.Parts.{Part, Apart, Lies, part-beside, part-lines}

-- place i of the batch is in these columns
pub record Band (c n i : ℕ) : Type 0 where
  pub below : i < 128
  pub from : c ≤ i % 16
  pub to : i % 16 < c + n

band-dec : (c n i : ℕ) → Dec (Band c n i)
band-dec c n i = go (dec_lt i 128) (dec_le c (i % 16)) (dec_lt (i % 16) (c + n))
  where
    go : Dec (i < 128) → Dec (c ≤ i % 16) → Dec (i % 16 < c + n) → Dec (Band c n i)
    go (yes a) (yes b) (yes d) = yes (record { below = a; from = b; to = d })
    go (no a) b d = no (λ h. a h.below)
    go (yes a) (no b) d = no (λ h. b h.from)
    go (yes a) (yes b) (no d) = no (λ h. d h.to)

-- .. and stands for sample i / 16 of line i % 16 - c
abbrev pub spot : ℕ → ℕ → ℕ → ℕ → ℕ → ℕ
spot c at along step i = at + (i % 16 - c) * along + (i / 16) * step

pub spot_is : (c at along step i k j : ℕ) → i % 16 ≡ c + k → i / 16 ≡ j → spot c at along step i ≡ at + k * along + j * step
spot_is c at along step i k j e f = let g : i % 16 - c ≡ k = omega arith in λ x. at + g x * along + f x * step

-- ---- the places of a band are apart: in rows that do not overlap the row can be told
row_is : (stride r k r' k' : ℕ) → k < stride → k' < stride → r * stride + k ≡ r' * stride + k' → r ≡ r'
row_is stride r k r' k' h h' e = sym (digits_div r h) ∙ ap (λ (n : ℕ). n / stride) e ∙ digits_div r' h'

module _ (c n at : ℕ) (i j : ℕ) (h : Band c n i) (h' : Band c n j) where
  down : (along : ℕ) → 8 ≤ along → spot c at along 1 i ≡ spot c at along 1 j → i ≡ j
  down along w e =
      let a = h.below in
      let b = h'.below in
      let r = row_is along (i % 16 - c) (i / 16) (j % 16 - c) (j / 16) (omega arith) (omega arith) (omega arith) in
      let q : (i % 16 - c) * along ≡ (j % 16 - c) * along = ap (λ (n : ℕ). n * along) r in
      let f = h.from in
      let g = h'.from in
      omega arith

  across : (step : ℕ) → n ≤ step → spot c at 1 step i ≡ spot c at 1 step j → i ≡ j
  across step w e =
      let f = h.from in
      let g = h'.from in
      let a = h.to in
      let b = h'.to in
      let r = row_is step (i / 16) (i % 16 - c) (j / 16) (j % 16 - c) (omega arith) (omega arith) (omega arith) in
      let q : (i / 16) * step ≡ (j / 16) * step = ap (λ (n : ℕ). n * step) r in
      omega arith

  one : (along step : ℕ) → Straight n along step → spot c at along step i ≡ spot c at along step j → i ≡ j
  one along step (vertical e w) q = down along w (subst (λ (m : ℕ). spot c at along m i ≡ spot c at along m j) e q)
  one along step (horizontal e w) q = across step w (subst (λ (m : ℕ). spot c at m step i ≡ spot c at m step j) e q)

pub band-apart : (c n at along step m : ℕ) → Straight n along step → at + (n - 1) * along + 7 * step < m → Apart 128 (Band c n) (spot c at along step) m
band-apart c n at along step m s l = record {
  dec = band-dec c n;
  below = λ i h. h.below;
  apart = λ i j h h' d e. d (one c n at i j h h' along step s e);
  room = λ i h. room i h.below h.to;
}
  where
    room : (i : ℕ) → i < 128 → i % 16 < c + n → spot c at along step i < m
    room i b t = omega (arith, mul-le-mul_right {m = i % 16 - c} {n = n - 1} along (omega arith), mul-le-mul_right {m = i / 16} {n = 7} step (omega arith))

-- where the code's test sees no vertical edge
pub along_one : (n along step : ℕ) → Straight n along step → (step ≡ 1 → ⊥) → along ≡ 1
along_one n along step (vertical e w) h = absurd (h e)
along_one n along step (horizontal e w) h = e

-- ---- sixteen lines of m + 2 samples, line k in column k and from row r on
pub record Columns (place : ℕ → ℕ) (r m : ℕ) : Type 0 where
  pub inside : (k j : ℕ) → k < 16 → j < suc (suc m) → place k + j * 16 < 128
  pub column : (k j : ℕ) → k < 16 → j < suc (suc m) → (place k + j * 16) % 16 ≡ k
  pub row : (k j : ℕ) → k < 16 → j < suc (suc m) → (place k + j * 16) / 16 ≡ r + j

pub long-columns : Columns upper 0 6
long-columns = record { inside = λ k j h l. omega arith; column = λ k j h l. omega arith; row = λ k j h l. omega arith }

pub upper-columns : Columns upper 0 2
upper-columns = record { inside = λ k j h l. omega arith; column = λ k j h l. omega arith; row = λ k j h l. omega arith }

pub lower-columns : Columns lower 4 2
lower-columns = record { inside = λ k j h l. omega arith; column = λ k j h l. omega arith; row = λ k j h l. omega arith }

pub row-columns : (r : ℕ) → r ≤ 4 → Columns (from_row r) r 2
row-columns r b = record { inside = λ k j h l. omega arith; column = λ k j h l. omega arith; row = λ k j h l. omega arith }

-- all sixteen lines of the batch are the band's n in the plane: of the others, c before them and e after, it
-- sees nothing. They begin r samples after `at`
module _ (place : ℕ → ℕ) (r m : ℕ) (cs : Columns place r m) (c n e : ℕ) (sum : c + n + e ≡ 16) (at along step to : ℕ) (begins : to ≡ at + r * step) (xs : Plane) where
  abbrev InBand : Plane → Plane → Type 0
  InBand = Part 128 (Band c n) (spot c at along step) xs

  lies : (k j : ℕ) → k < n → j < suc (suc m) → Lies (Band c n) (spot c at along step) (place (c + k)) (to + k * along) step j
  lies k j h l =
      let q = cs.column (c + k) j (omega arith) l in
      let p = spot_is c at along step (place (c + k) + j * 16) k (r + j) q (cs.row (c + k) j (omega arith) l) in
      (record { below = cs.inside (c + k) j (omega arith) l; from = omega arith; to = omega arith }, rw begins (omega arith ∙ sym p))

  -- lines in other columns
  beside : (f : ℕ → List ℕ → List ℕ) (ix : ℕ → ℕ) (count : ℕ) → ((k : ℕ) → k < count → ix k < 16) → ((k : ℕ) → k < count → c ≤ ix k → ix k < c + n → ⊥)
      → Local (λ i. Band c n i → ⊥) (up_to count (λ k. line_at m (f (ix k)) (place (ix k)) 16))
  beside f ix count b h =
      local-up_to (λ i. Band c n i → ⊥) count (λ k. line_at m (f (ix k)) (place (ix k)) 16)
      (λ k l. line_at-in (λ i. Band c n i → ⊥) m (f (ix k)) (place (ix k)) 16 (λ j t d. other k j l t d))
    where
      other : (k j : ℕ) → k < count → j < suc (suc m) → Band c n (place (ix k) + j * 16) → ⊥
      other k j l t d =
          let q = cs.column (ix k) j (b k l) t in
          h k l (subst (λ (x : ℕ). c ≤ x) q d.from) (subst (λ (x : ℕ). x < c + n) q d.to)

  pub band-lines : {b ys : Plane} (f : ℕ → List ℕ → List ℕ) → Apart 128 (Band c n) (spot c at along step) (length xs) → InBand b ys
      → InBand (up_to 16 (λ k. line_at m (f k) (place k) 16) b) (up_to n (λ k. line_at m (f (c + k)) (to + k * along) step) ys)
  band-lines {b} {ys} f sp s = subst (λ (t : Plane). InBand t (up_to n (λ k. line_at m (f (c + k)) (to + k * along) step) ys)) (sym split) after
    where
      line : ℕ → Plane → Plane
      line k = line_at m (f k) (place k) 16

      split : up_to 16 line b ≡ up_to e (λ k. line (c + n + k)) (up_to n (λ k. line (c + k)) (up_to c line b))
      split =
          ap (λ (k : ℕ). up_to k line b) (sym sum)
          ∙ up_to-add (c + n) e line b
          ∙ ap (up_to e (λ k. line (c + n + k))) (up_to-add c n line b)

      before : InBand (up_to c line b) ys
      before =
          part-beside 128 (Band c n) (spot c at along step) xs sp (λ i. Band c n i → ⊥) _ (beside f (λ k. k) c (λ k l. omega arith) (λ k l v w. omega arith)) (λ i d x. x d) s

      within : InBand (up_to n (λ k. line (c + k)) (up_to c line b)) (up_to n (λ k. line_at m (f (c + k)) (to + k * along) step) ys)
      within = part-lines 128 (Band c n) (spot c at along step) xs sp n m (λ k. f (c + k)) (λ k. place (c + k)) (λ k. to + k * along) step lies before

      after : InBand (up_to e (λ k. line (c + n + k)) (up_to n (λ k. line (c + k)) (up_to c line b))) (up_to n (λ k. line_at m (f (c + k)) (to + k * along) step) ys)
      after = part-beside 128 (Band c n) (spot c at along step) xs sp (λ i. Band c n i → ⊥) _ (beside f (λ k. c + n + k) e (λ k l. omega arith) (λ k l v w. omega arith)) (λ i d x. x d) within
