-- What is loaded of a plane stands for the edge's places in its columns of the batch, and so does what is
-- stored; hence lines filtered in their batch are the edge's lines filtered. Assumes nothing.
use mathlib.Core.Path.{◌≡◌, refl, sym, ap, ◌∙◌}
use mathlib.Core.Bool.{false}
use mathlib.Core.List.{List}
use Prim.Native.Nat.{ℕ, ◌+◌, ◌-◌, ◌*◌, ◌/◌, ◌%◌, ◌≤◌, ◌<◌}
use native.Mathlib.Nat.{mul-le-mul_right}
use native.Mathlib.Omega.{arith}
use borrow.Author.Tests.{ne_eqb}
use lib.Dec.{eqb}
use lib.ListN.{length, get_or}
use Rattle.laws.specs.Loop.{up_to}
use Rattle.laws.specs.Places.{Plane, line_at}
use Rattle.batches.specs.Lines.{Straight, vertical, horizontal, upper, lower}
use Rattle.batches.specs.Moves.{moved_rows, empty_batch, zipped, rows_in, cols_in, taken, taken_both, stored}
use Rattle.batches.proofs.MovedRows.{rows-length, rows-off, rows_at}
use Rattle.batches.proofs.Zips.{place_in_cols, place_in_rows, zip_length, zip-three, zip-four}
use Rattle.batches.proofs.Parts.{Part, part-one}
use Rattle.batches.proofs.Bands.{Band, spot, spot_is, band-apart, long-columns, upper-columns, lower-columns, band-lines}

-- ---- a batch whose columns hold a plane's rows, or whose rows before the zips do
module _ (c n : ℕ) (t : Plane) (at stride : ℕ) (xs : Plane) where
  abbrev RowsHeld : Type 0
  RowsHeld = (r k : ℕ) → r < 8 → k < n → get_or t (c + r * 16 + k) 0 ≡ get_or xs (at + r * stride + k) 0

  abbrev ColsHeld : Type 0
  ColsHeld = (r k : ℕ) → r < n → k < 8 → get_or t (8 * c + r * 8 + k) 0 ≡ get_or xs (at + r * stride + k) 0

  rows-part : length t ≡ 128 → RowsHeld → Part 128 (Band c n) (spot c at 1 stride) xs t xs
  rows-part l f = record { size = l; long = refl; at = λ i d. there i d.below d.from d.to; off = λ j g. refl }
    where
      there : (i : ℕ) → i < 128 → c ≤ i % 16 → i % 16 < c + n → get_or xs (spot c at 1 stride i) 0 ≡ get_or t i 0
      there i b h h' =
          let e : c + (i / 16) * 16 + (i % 16 - c) ≡ i = omega arith in
          let g : at + (i / 16) * stride + (i % 16 - c) ≡ spot c at 1 stride i = omega arith in
          sym (ap (λ (p : ℕ). get_or t p 0) (sym e) ∙ f (i / 16) (i % 16 - c) (omega arith) (omega arith) ∙ ap (λ (p : ℕ). get_or xs p 0) g)

  cols-part : ColsHeld → Part 128 (Band c n) (spot c at stride 1) xs (zipped (zipped (zipped (zipped t)))) xs
  cols-part f = record { size = zip_length (zipped (zipped (zipped t))); long = refl; at = λ i d. there i d.below d.from d.to; off = λ j g. refl }
    where
      there : (i : ℕ) → i < 128 → c ≤ i % 16 → i % 16 < c + n → get_or xs (spot c at stride 1 i) 0 ≡ get_or (zipped (zipped (zipped (zipped t)))) i 0
      there i b h h' =
          let e : 8 * c + (i % 16 - c) * 8 + i / 16 ≡ place_in_rows i = omega arith in
          let g : at + (i % 16 - c) * stride + i / 16 ≡ spot c at stride 1 i = omega arith in
          sym (zip-four t i b ∙ ap (λ (p : ℕ). get_or t p 0) (sym e) ∙ f (i % 16 - c) (i / 16) (omega arith) (omega arith) ∙ ap (λ (p : ℕ). get_or xs p 0) g)

-- ---- what is loaded holds them, whatever the batch t held before
module _ (c n at stride : ℕ) (xs t : Plane) (l : length t ≡ 128) (b : c + n ≤ 16) where
  rows-held : RowsHeld c n (rows_in c n at stride xs t) at stride xs
  rows-held = rows_at n c 16 at stride xs t (omega arith) 8 (λ r h. rw l (omega arith))

  cols-held : ColsHeld c n (cols_in c n at stride xs t) at stride xs
  cols-held = rows_at 8 (8 * c) 8 at stride xs t (omega arith) n (λ r h. rw l (omega arith))

-- ---- a luma edge, and two chroma edges of both planes
module _ (at along step : ℕ) where
  taken-part : (xs : Plane) → Straight 16 along step → Part 128 (Band 0 16) (spot 0 at along step) xs (taken at along step xs) xs
  unfolding taken
  taken-part xs (vertical e w) = rw e (cols-part 0 16 _ at along xs (cols-held 0 16 at along xs empty_batch refl (omega arith)))
  taken-part xs (horizontal e w) =
      let z : eqb step 1 ≡ false = ne_eqb step 1 (λ q. omega arith) in
      rw (z, e) (rows-part 0 16 _ at step xs (rows-length 16 0 16 at step xs empty_batch 8) (rows-held 0 16 at step xs empty_batch refl (omega arith)))

  module _ (us vs : Plane) where
    taken-u : Straight 8 along step → Part 128 (Band 0 8) (spot 0 at along step) us (taken_both at along step us vs) us
    unfolding taken_both
    taken-u (vertical e w) =
        rw e (cols-part 0 8 _ at along us
        (λ r k h l. rows-off 8 64 8 at along vs (cols_in 0 8 at along us empty_batch) 8 _ (λ r' k' h' l' q. omega arith) ∙ cols-held 0 8 at along us empty_batch refl (omega arith) r k h l))
    taken-u (horizontal e w) =
        let z : eqb step 1 ≡ false = ne_eqb step 1 (λ q. omega arith) in
        let v : length (rows_in 8 8 at step vs empty_batch) ≡ 128 = rows-length 8 8 16 at step vs empty_batch 8 in
        rw (z, e) (rows-part 0 8 _ at step us (rows-length 8 0 16 at step us (rows_in 8 8 at step vs empty_batch) 8 ∙ v)
        (rows-held 0 8 at step us (rows_in 8 8 at step vs empty_batch) v (omega arith)))

    taken-v : Straight 8 along step → Part 128 (Band 8 8) (spot 8 at along step) vs (taken_both at along step us vs) vs
    unfolding taken_both
    taken-v (vertical e w) =
        rw e (cols-part 8 8 _ at along vs (cols-held 8 8 at along vs (cols_in 0 8 at along us empty_batch) (rows-length 8 0 8 at along us empty_batch 8) (omega arith)))
    taken-v (horizontal e w) =
        let z : eqb step 1 ≡ false = ne_eqb step 1 (λ q. omega arith) in
        rw (z, e) (rows-part 8 8 _ at step vs (rows-length 8 0 16 at step us (rows_in 8 8 at step vs empty_batch) 8 ∙ rows-length 8 8 16 at step vs empty_batch 8)
        (λ r k h l. rows-off 8 0 16 at step us (rows_in 8 8 at step vs empty_batch) 8 _ (λ r' k' h' l' q. omega arith) ∙ rows-held 8 8 at step vs empty_batch refl (omega arith) r k h l))

-- ---- what is stored
module _ (c n at : ℕ) (t xs : Plane) (l : length t ≡ 128) (b : c + n ≤ 16) where
  -- sample k of row r, in its band
  in-band : (r k : ℕ) → r < 8 → k < n → Band c n (c + r * 16 + k)
  in-band r k h m = record { below = omega arith; from = omega arith; to = omega arith }

  rows-stored : (step : ℕ) → n ≤ step → at + (n - 1) * 1 + 7 * step < length xs → Part 128 (Band c n) (spot c at 1 step) xs t (moved_rows 8 n at step c 16 t xs)
  rows-stored step w room = record {
    size = l;
    long = rows-length n at step c 16 t xs 8;
    at = λ i d. there i d.below d.from d.to;
    off = λ j g. rows-off n at step c 16 t xs 8 j (λ r k h m q. g (c + r * 16 + k) (in-band r k h m) (q ∙ place r k m));
  }
    where
      place : (r k : ℕ) → k < n → at + r * step + k ≡ spot c at 1 step (c + r * 16 + k)
      place r k m = omega arith ∙ sym (spot_is c at 1 step (c + r * 16 + k) k r (omega arith) (omega arith))

      fits : (r : ℕ) → r < 8 → at + r * step + n ≤ length xs
      fits r h = omega (arith, mul-le-mul_right {m = r} {n = 7} step (omega arith))

      there : (i : ℕ) → i < 128 → c ≤ i % 16 → i % 16 < c + n → get_or (moved_rows 8 n at step c 16 t xs) (spot c at 1 step i) 0 ≡ get_or t i 0
      there i h f g =
          let e : at + (i / 16) * step + (i % 16 - c) ≡ spot c at 1 step i = omega arith in
          let q : c + (i / 16) * 16 + (i % 16 - c) ≡ i = omega arith in
          ap (λ (p : ℕ). get_or (moved_rows 8 n at step c 16 t xs) p 0) (sym e)
          ∙ rows_at n at step c 16 t xs w 8 fits (i / 16) (i % 16 - c) (omega arith) (omega arith)
          ∙ ap (λ (p : ℕ). get_or t p 0) q

  cols-stored : (along : ℕ) → 8 ≤ along → at + (n - 1) * along + 7 * 1 < length xs
      → Part 128 (Band c n) (spot c at along 1) xs t (moved_rows n 8 at along (8 * c) 8 (zipped (zipped (zipped t))) xs)
  cols-stored along w room = record {
    size = l;
    long = rows-length 8 at along (8 * c) 8 u xs n;
    at = λ i d. there i d.below d.from d.to;
    off = λ j g. rows-off 8 at along (8 * c) 8 u xs n j (λ r k h m q. g (c + k * 16 + r) (in-band k r m h) (q ∙ place r k h));
  }
    where
      u : Plane
      u = zipped (zipped (zipped t))

      place : (r k : ℕ) → r < n → at + r * along + k ≡ spot c at along 1 (c + k * 16 + r)
      place r k m = omega arith ∙ sym (spot_is c at along 1 (c + k * 16 + r) r k (omega arith) (omega arith))

      fits : (r : ℕ) → r < n → at + r * along + 8 ≤ length xs
      fits r h = omega (arith, mul-le-mul_right {m = r} {n = n - 1} along (omega arith))

      there : (i : ℕ) → i < 128 → c ≤ i % 16 → i % 16 < c + n → get_or (moved_rows n 8 at along (8 * c) 8 u xs) (spot c at along 1 i) 0 ≡ get_or t i 0
      there i h f g =
          let e : at + (i % 16 - c) * along + i / 16 ≡ spot c at along 1 i = omega arith in
          let q : place_in_cols (8 * c + (i % 16 - c) * 8 + i / 16) ≡ i = omega arith in
          ap (λ (p : ℕ). get_or (moved_rows n 8 at along (8 * c) 8 u xs) p 0) (sym e)
          ∙ rows_at 8 at along (8 * c) 8 u xs w n fits (i % 16 - c) (i / 16) (omega arith) (omega arith)
          ∙ zip-three t (8 * c + (i % 16 - c) * 8 + i / 16) (omega arith)
          ∙ ap (λ (p : ℕ). get_or t p 0) q

  stored-part : 2 ≤ n → (along step : ℕ) → Straight n along step → at + (n - 1) * along + 7 * step < length xs
      → Part 128 (Band c n) (spot c at along step) xs t (stored c n at along step t xs)
  unfolding stored
  stored-part two along step (vertical e w) room = rw e (cols-stored along w (rw e at room))
  stored-part two along step (horizontal e w) room =
      let z : eqb step 1 ≡ false = ne_eqb step 1 (λ q. omega arith) in
      rw (z, e) (rows-stored step w (rw e at room))

-- ---- load, filter, store
module _ (at along step : ℕ) where
  -- the sixteen lines of a luma edge
  pub long-is : (xs : Plane) (f : ℕ → List ℕ → List ℕ) → Straight 16 along step → at + 15 * along + 7 * step < length xs
      → stored 0 16 at along step (up_to 16 (λ k. line_at 6 (f k) (upper k) 16) (taken at along step xs)) xs ≡ up_to 16 (λ k. line_at 6 (f (0 + k)) (at + k * along) step) xs
  long-is xs f s h =
      let sp = band-apart 0 16 at along step (length xs) s h in
      let p = band-lines upper 0 6 long-columns 0 16 0 refl at along step at (omega arith) xs f sp (taken-part at along step xs s) in
      part-one 128 (Band 0 16) (spot 0 at along step) xs sp (stored-part 0 16 at _ xs p.size (omega arith) (omega arith) along step s h) p

  -- the eight lines of each of two chroma edges, in a plane whose columns of the batch t begin at c
  pair_is : (c e : ℕ) → c + 8 + e ≡ 16 → (t xs : Plane) (f g : ℕ → List ℕ → List ℕ) → Straight 8 along step → at + 7 * along + 7 * step < length xs
      → Part 128 (Band c 8) (spot c at along step) xs t xs
      → stored c 8 at along step (up_to 16 (λ k. line_at 2 (g k) (lower k) 16) (up_to 16 (λ k. line_at 2 (f k) (upper k) 16) t)) xs
      ≡ up_to 8 (λ k. line_at 2 (g (c + k)) (at + 4 * step + k * along) step) (up_to 8 (λ k. line_at 2 (f (c + k)) (at + k * along) step) xs)
  pair_is c e sum t xs f g s h part =
      let sp = band-apart c 8 at along step (length xs) s h in
      let p = band-lines upper 0 2 upper-columns c 8 e sum at along step at (omega arith) xs f sp part in
      let q = band-lines lower 4 2 lower-columns c 8 e sum at along step (at + 4 * step) refl xs g sp p in
      part-one 128 (Band c 8) (spot c at along step) xs sp (stored-part c 8 at _ xs q.size (omega arith) (omega arith) along step s h) q

  module _ (us vs : Plane) (f g : ℕ → List ℕ → List ℕ) (s : Straight 8 along step) where
    abbrev filtered : Plane
    filtered = up_to 16 (λ k. line_at 2 (g k) (lower k) 16) (up_to 16 (λ k. line_at 2 (f k) (upper k) 16) (taken_both at along step us vs))

    pub pair-u : at + 7 * along + 7 * step < length us
        → stored 0 8 at along step filtered us
        ≡ up_to 8 (λ k. line_at 2 (g (0 + k)) (at + 4 * step + k * along) step) (up_to 8 (λ k. line_at 2 (f (0 + k)) (at + k * along) step) us)
    pair-u h = pair_is 0 8 refl _ us f g s h (taken-u at along step us vs s)

    pub pair-v : at + 7 * along + 7 * step < length vs
        → stored 8 8 at along step filtered vs
        ≡ up_to 8 (λ k. line_at 2 (g (8 + k)) (at + 4 * step + k * along) step) (up_to 8 (λ k. line_at 2 (f (8 + k)) (at + k * along) step) vs)
    pair-v h = pair_is 8 0 refl _ vs f g s h (taken-v at along step us vs s)
