-- A batch of m places, of which those in D stand for places of a plane, place i for φ i, so that planes may
-- share a batch: to filter lines of the batch is to filter lines of the plane. Assumes nothing.
use mathlib.Core.Path.{◌≡◌, refl, sym, ap, subst, ◌∙◌}
use mathlib.Core.Logic.{◌≢◌, ◌⊎◌, inl, inr, ⊎_elim}
use mathlib.Core.List.{List, [], ◌∷◌}
use Prim.Native.Nat.{ℕ, zero, suc, ◌+◌, ◌*◌, ◌<◌}
use native.Mathlib.Nat.{zero-lt-suc, not-suc-le-zero}
use native.Mathlib.Decide.{ℕ_discrete}
use native.Mathlib.Omega.{arith}
use lib.ListN.{length, get_or, set, length-set}
use lib.Seq.{get_or-set_same, get_or-set_other, ext_get_or}
use Rattle.laws.specs.Local.{Local}
use Rattle.laws.specs.Loop.{up_to}
use Rattle.laws.specs.Places.{Plane, places, gets, puts, line_at}
use Rattle.laws.proofs.Loops.{up_to-both}
use Rattle.batches.proofs.MovedPlaces.{last-or-before}

-- ys is xs, but for the places φ i, where it holds the batch's b
pub record Part (m : ℕ) (D : ℕ → Type 0) (φ : ℕ → ℕ) (xs b ys : Plane) : Type 0 where
  pub size : length b ≡ m
  pub long : length ys ≡ length xs
  pub at : (i : ℕ) → D i → get_or ys (φ i) 0 ≡ get_or b i 0
  pub off : (j : ℕ) → ((i : ℕ) → D i → j ≢ φ i) → get_or ys j 0 ≡ get_or xs j 0

-- the places of D are the batch's, and stand for places of the plane that are apart
pub record Apart (m : ℕ) (D : ℕ → Type 0) (φ : ℕ → ℕ) (n : ℕ) : Type 0 where
  pub dec : (i : ℕ) → Dec (D i)
  pub below : (i : ℕ) → D i → i < m
  pub apart : (i j : ℕ) → D i → D j → i ≢ j → φ i ≢ φ j
  pub room : (i : ℕ) → D i → φ i < n

-- the places is of the batch stand for the places ps of the plane, one by one
abbrev Meets : (ℕ → Type 0) → (ℕ → ℕ) → List ℕ → List ℕ → Type 0
Meets D φ [] [] = Unit {0}
Meets D φ [] (p ∷ ps) = ⊥
Meets D φ (i ∷ is) [] = ⊥
Meets D φ (i ∷ is) (p ∷ ps) = (D i × (p ≡ φ i)) × Meets D φ is ps

-- sample j of a line, in the batch and in the plane
abbrev pub Lies : (ℕ → Type 0) → (ℕ → ℕ) → ℕ → ℕ → ℕ → ℕ → Type 0
Lies D φ k p step j = D (k + j * 16) × (p + j * step ≡ φ (k + j * 16))

lies-next : (D : ℕ → Type 0) (φ : ℕ → ℕ) (k p step j : ℕ) → Lies D φ k p step (suc j) → Lies D φ (k + 16) (p + step) step j
lies-next D φ k p step j m =
    let e : k + suc j * 16 ≡ k + 16 + j * 16 = omega arith in
    let f : p + step + j * step ≡ p + suc j * step = omega arith in
    (subst D e m.0, f ∙ m.1 ∙ ap φ e)

meets : (D : ℕ → Type 0) (φ : ℕ → ℕ) (step n k p : ℕ) → ((j : ℕ) → j < n → Lies D φ k p step j) → Meets D φ (places k 16 n) (places p step n)
meets D φ step zero k p h = tt
meets D φ step (suc n) k p h = (first (h 0 (zero-lt-suc n)), meets D φ step n (k + 16) (p + step) (λ j l. lies-next D φ k p step j (h (suc j) (omega arith))))
  where
    first : Lies D φ k p step 0 → D k × (p ≡ φ k)
    first m = let e : k + 0 * 16 ≡ k = omega arith in let f : p ≡ p + 0 * step = omega arith in (subst D e m.0, f ∙ m.1 ∙ ap φ e)

-- whether a place is φ of one of the places of D below n
hit_or_not : (D : ℕ → Type 0) (φ : ℕ → ℕ) → ((i : ℕ) → Dec (D i)) → (n j : ℕ) → ((i : ℕ) × D i × (j ≡ φ i)) ⊎ ((i : ℕ) → i < n → D i → j ≢ φ i)
hit_or_not D φ dec zero j = inr (λ i h. absurd (not-suc-le-zero h))
hit_or_not D φ dec (suc n) j = ⊎_elim inl (λ f. go f (dec n) (ℕ_discrete j (φ n))) (hit_or_not D φ dec n j)
  where
    go : ((i : ℕ) → i < n → D i → j ≢ φ i) → Dec (D n) → Dec (j ≡ φ n) → ((i : ℕ) × D i × (j ≡ φ i)) ⊎ ((i : ℕ) → i < suc n → D i → j ≢ φ i)
    go f (yes d) (yes e) = inl (n, d, e)
    go f (no c) q = inr (λ i h. ⊎_elim (λ e. rw e (λ x. absurd (c x))) (λ l. f i l) (last-or-before i n h))
    go f (yes d) (no c) = inr (λ i h. ⊎_elim (λ e. rw e (λ x. c)) (λ l. f i l) (last-or-before i n h))

module _ (m : ℕ) (D : ℕ → Type 0) (φ : ℕ → ℕ) (xs : Plane) (sp : Apart m D φ (length xs)) where
  -- one store on both sides
  part-set : {b ys : Plane} (i v : ℕ) → D i → Part m D φ xs b ys → Part m D φ xs (set b i v) (set ys (φ i) v)
  part-set {b} {ys} i v h s = record {
    size = length-set b i v ∙ s.size;
    long = length-set ys (φ i) v ∙ s.long;
    at = λ j l. by_place j l (ℕ_discrete j i);
    off = λ j f. get_or-set_other ys (φ i) j v 0 (f i h) ∙ s.off j f;
  }
    where
      by_place : (j : ℕ) → D j → Dec (j ≡ i) → get_or (set ys (φ i) v) (φ j) 0 ≡ get_or (set b i v) j 0
      by_place j l (yes e) = rw e (get_or-set_same ys (φ i) v 0 (rw s.long (sp.room i h)) ∙ sym (get_or-set_same b i v 0 (rw s.size (sp.below i h))))
      by_place j l (no d) = get_or-set_other ys (φ i) (φ j) v 0 (sp.apart j i l h d) ∙ s.at j l ∙ sym (get_or-set_other b i j v 0 d)

  -- a batch stands for one plane only
  pub part-one : {b ys zs : Plane} → Part m D φ xs b ys → Part m D φ xs b zs → ys ≡ zs
  part-one {b} {ys} {zs} s t =
      ext_get_or 0 ys zs (s.long ∙ sym t.long) (λ j l. ⊎_elim (λ w. hit j w.0 w.1 w.2) (λ f. beside j (λ i d. f i (sp.below i d) d)) (hit_or_not D φ sp.dec m j))
    where
      hit : (j i : ℕ) → D i → j ≡ φ i → get_or ys j 0 ≡ get_or zs j 0
      hit j i h e = rw e (s.at i h ∙ sym (t.at i h))

      beside : (j : ℕ) → ((i : ℕ) → D i → j ≢ φ i) → get_or ys j 0 ≡ get_or zs j 0
      beside j g = s.off j g ∙ sym (t.off j g)

  -- what is done to the batch outside of D, as to the lines of the other plane
  pub part-beside : {b ys : Plane} (F : ℕ → Type 0) (g : Plane → Plane) → Local F g → ((i : ℕ) → D i → F i → ⊥) → Part m D φ xs b ys → Part m D φ xs (g b) ys
  part-beside {b} {ys} F g l h s = record {
    size = l.len b ∙ s.size;
    long = s.long;
    at = λ i d. s.at i d ∙ sym (l.out b i (h i d));
    off = s.off;
  }

  -- samples of both are the same, and are put at the same places
  part-gets : {b ys : Plane} (is ps : List ℕ) → Meets D φ is ps → Part m D φ xs b ys → gets ps ys ≡ gets is b
  part-gets [] [] e s = refl
  part-gets [] (p ∷ ps) e s = absurd e
  part-gets (i ∷ is) [] e s = absurd e
  part-gets {b} {ys} (i ∷ is) (p ∷ ps) e s = λ j. here j ∷ part-gets is ps e.1 s j
    where
      here : get_or ys p 0 ≡ get_or b i 0
      here = ap (λ (q : ℕ). get_or ys q 0) e.0.1 ∙ s.at i e.0.0

  part-puts : {b ys : Plane} (is ps vs : List ℕ) → Meets D φ is ps → Part m D φ xs b ys → Part m D φ xs (puts is vs b) (puts ps vs ys)
  part-puts [] [] vs e s = s
  part-puts [] (p ∷ ps) vs e s = absurd e
  part-puts (i ∷ is) [] vs e s = absurd e
  part-puts (i ∷ is) (p ∷ ps) [] e s = s
  part-puts {b} {ys} (i ∷ is) (p ∷ ps) (v ∷ vs) e s = part-puts is ps vs e.1 here
    where
      here : Part m D φ xs (set b i v) (set ys p v)
      here = subst (λ (q : ℕ). Part m D φ xs (set b i v) (set ys q v)) (sym e.0.1) (part-set i v e.0.0 s)

  -- a line of n + 2 samples
  part-line : {b ys : Plane} (n : ℕ) (f : List ℕ → List ℕ) (k p step : ℕ) → ((j : ℕ) → j < suc (suc n) → Lies D φ k p step j)
      → Part m D φ xs b ys → Part m D φ xs (line_at n f k 16 b) (line_at n f p step ys)
  part-line {b} {ys} n f k p step h s =
      subst (λ (vs : List ℕ). Part m D φ xs (puts (places (k + 16) 16 n) (f (gets (places k 16 (suc (suc n))) b)) b) (puts (places (p + step) step n) (f vs) ys))
      (sym (part-gets (places k 16 (suc (suc n))) (places p step (suc (suc n))) (meets D φ step (suc (suc n)) k p h) s))
      (part-puts (places (k + 16) 16 n) (places (p + step) step n) _ (meets D φ step n (k + 16) (p + step) (λ j l. lies-next D φ k p step j (h (suc j) (omega arith)))) s)

  -- h lines of the batch and of the plane, side by side
  pub part-lines : {b ys : Plane} (h n : ℕ) (f : ℕ → List ℕ → List ℕ) (col place : ℕ → ℕ) (step : ℕ)
      → ((k j : ℕ) → k < h → j < suc (suc n) → Lies D φ (col k) (place k) step j)
      → Part m D φ xs b ys → Part m D φ xs (up_to h (λ k. line_at n (f k) (col k) 16) b) (up_to h (λ k. line_at n (f k) (place k) step) ys)
  part-lines {b} {ys} h n f col place step at s =
      up_to-both (Part m D φ xs) h (λ k. line_at n (f k) (col k) 16) (λ k. line_at n (f k) (place k) step) b ys
      (λ k u v l r. part-line n (f k) (col k) (place k) step (λ j i. at k j l i) r) s
