-- What is taken out through a list of places and put back. Assumes nothing.
use mathlib.Core.Path.{◌≡◌, refl, sym, ap, subst, ◌∙◌}
use mathlib.Core.Logic.{◌⊎◌, inl, inr}
use mathlib.Core.List.Memᴰ
use mathlib.Core.List.{List, [], ◌∷◌}
use Prim.Native.Nat.{ℕ, zero, suc, ◌<◌}
use native.Mathlib.Nat.{zero-lt-suc, suc_inj, suc-ne-zero, le_of_suc-le-suc, not-suc-le-zero}
use native.Mathlib.Decide.{ℕ_discrete}
use native.Mathlib.Omega.{arith}
use lib.ListN.{length, get_or, set, length-set}
use lib.Seq.{ext_get_or, get_or-set_same, get_or-set_other}
use Rattle.laws.specs.Places.{Plane, gets, puts}
use Rattle.laws.specs.Local.{Among}
use Rattle.laws.proofs.Places.{puts-length, puts-beside, dec_among}
use Rattle.fields.specs.Carried.{View}

-- ---- a place of the list has an index, and the other way
pub record Indexed (L : List ℕ) (q : ℕ) : Type 0 where
  pub index : ℕ
  pub below : index < length L
  pub is : get_or L index 0 ≡ q

pub among-at : (L : List ℕ) (q : ℕ) → Among L q → Indexed L q
among-at [] q m = absurd (Memᴰ.not-nil m)
among-at (p ∷ ps) q m = go (Memᴰ.cases_cons m) (among-at ps q)
  where
    go : (q ≡ p) ⊎ Among ps q → (Among ps q → Indexed ps q) → Indexed (p ∷ ps) q
    go (inl e) f = record { index = 0; below = zero-lt-suc (length ps); is = sym e }
    go (inr k) f = let a = f k in record { index = suc a.index; below = omega (arith, a.below); is = a.is }

pub at-among : (L : List ℕ) (i : ℕ) → i < length L → Among L (get_or L i 0)
at-among [] i h = absurd (not-suc-le-zero h)
at-among (p ∷ ps) zero h = Memᴰ.head refl
at-among (p ∷ ps) (suc i) h = Memᴰ.tail (at-among ps i (le_of_suc-le-suc h))

-- ---- taken out
pub gets-length : (L : List ℕ) (s : Plane) → length (gets L s) ≡ length L
gets-length [] s = refl
gets-length (p ∷ ps) s = ap suc (gets-length ps s)

pub gets-at : (L : List ℕ) (s : Plane) (i : ℕ) → i < length L → get_or (gets L s) i 0 ≡ get_or s (get_or L i 0) 0
gets-at [] s i h = absurd (not-suc-le-zero h)
gets-at (p ∷ ps) s zero h = refl
gets-at (p ∷ ps) s (suc i) h = gets-at ps s i (le_of_suc-le-suc h)

-- ---- put back
view-tail : {m p : ℕ} {ps : List ℕ} → View m (p ∷ ps) → View m ps
view-tail v = record {
  apart = λ i j a b e. suc_inj (v.apart (suc i) (suc j) (omega arith) (omega arith) e);
  within = λ i a. v.within (suc i) (omega arith);
}

pub puts-at : (L vs : List ℕ) (s : Plane) → View (length s) L → length vs ≡ length L → (i : ℕ) → i < length L
    → get_or (puts L vs s) (get_or L i 0) 0 ≡ get_or vs i 0
puts-at [] vs s w e i h = absurd (not-suc-le-zero h)
puts-at (p ∷ ps) [] s w e i h = absurd (suc-ne-zero (length ps) (sym e))
puts-at (p ∷ ps) (v ∷ vs) s w e zero h = puts-beside ps vs (set s p v) p fresh ∙ get_or-set_same s p v 0 (w.within 0 (zero-lt-suc (length ps)))
  where
    fresh : Among ps p → ⊥
    fresh k =
        let a = among-at ps p k in
        suc-ne-zero a.index (w.apart (suc a.index) 0 (omega (arith, a.below)) (zero-lt-suc (length ps)) a.is)
puts-at (p ∷ ps) (v ∷ vs) s w e (suc i) h =
    puts-at ps vs (set s p v) (subst (λ (m : ℕ). View m ps) (sym (length-set s p v)) (view-tail w)) (suc_inj e) i (le_of_suc-le-suc h)

-- what was put is taken out
pub gets-puts : (L vs : List ℕ) (s : Plane) → View (length s) L → length vs ≡ length L → gets L (puts L vs s) ≡ vs
gets-puts L vs s w e =
    ext_get_or 0 (gets L (puts L vs s)) vs (gets-length L (puts L vs s) ∙ sym e) (λ i h.
    let b : i < length L = omega (arith, gets-length L (puts L vs s)) in
    gets-at L (puts L vs s) i b ∙ puts-at L vs s w e i b)

-- places apart from these see nothing of it
pub gets-beside : (K L vs : List ℕ) (s : Plane) → ((q : ℕ) → Among K q → Among L q → ⊥) → gets K (puts L vs s) ≡ gets K s
gets-beside [] L vs s h = refl
gets-beside (q ∷ qs) L vs s h = λ i. puts-beside L vs s q (h q (Memᴰ.head refl)) i ∷ gets-beside qs L vs s (λ p m. h p (Memᴰ.tail m)) i

-- one sample stored
pub gets-set : (L : List ℕ) (s : Plane) → View (length s) L → (i v : ℕ) → i < length L → gets L (set s (get_or L i 0) v) ≡ set (gets L s) i v
gets-set L s w i v h = ext_get_or 0 (gets L s') (set (gets L s) i v) lens (λ j k. at j (omega (arith, gets-length L s')) (ℕ_discrete j i))
  where
    s' : Plane
    s' = set s (get_or L i 0) v

    lens : length (gets L s') ≡ length (set (gets L s) i v)
    lens = gets-length L s' ∙ sym (gets-length L s) ∙ sym (length-set (gets L s) i v)

    at : (j : ℕ) → j < length L → Dec (j ≡ i) → get_or (gets L s') j 0 ≡ get_or (set (gets L s) i v) j 0
    at j b (yes e) =
        gets-at L s' j b
        ∙ ap (λ (k : ℕ). get_or s' (get_or L k 0) 0) e
        ∙ get_or-set_same s (get_or L i 0) v 0 (w.within i h)
        ∙ sym (get_or-set_same (gets L s) i v 0 (omega (arith, gets-length L s)))
        ∙ sym (ap (λ (k : ℕ). get_or (set (gets L s) i v) k 0) e)
    at j b (no n) =
        gets-at L s' j b
        ∙ get_or-set_other s (get_or L i 0) (get_or L j 0) v 0 (λ e. n (w.apart j i b h e))
        ∙ sym (gets-at L s j b)
        ∙ sym (get_or-set_other (gets L s) i j v 0 n)

-- two planes of one length that are the same inside and outside
pub both-same : (L : List ℕ) (s t : Plane) → length s ≡ length t → gets L s ≡ gets L t → ((q : ℕ) → (Among L q → ⊥) → get_or s q 0 ≡ get_or t q 0) → s ≡ t
both-same L s t e f g = ext_get_or 0 s t e (λ q h. at q (dec_among L q))
  where
    at : (q : ℕ) → Dec (Among L q) → get_or s q 0 ≡ get_or t q 0
    at q (no n) = g q n
    at q (yes m) =
        let a = among-at L q m in
        ap (λ (k : ℕ). get_or s k 0) (sym a.is)
        ∙ sym (gets-at L s a.index a.below)
        ∙ ap (λ (l : Plane). get_or l a.index 0) f
        ∙ gets-at L t a.index a.below
        ∙ ap (λ (k : ℕ). get_or t k 0) a.is

-- what is put later covers what was put before
pub puts-puts : (L us vs : List ℕ) (s : Plane) → View (length s) L → length us ≡ length L → length vs ≡ length L → puts L us (puts L vs s) ≡ puts L us s
puts-puts L us vs s w a b =
    both-same L (puts L us t) (puts L us s) (puts-length L us t ∙ puts-length L vs s ∙ sym (puts-length L us s))
    (gets-puts L us t (subst (λ (m : ℕ). View m L) (sym (puts-length L vs s)) w) a ∙ sym (gets-puts L us s w a))
    (λ q n. puts-beside L us t q n ∙ puts-beside L vs s q n ∙ sym (puts-beside L us s q n))
  where
    t : Plane
    t = puts L vs s
