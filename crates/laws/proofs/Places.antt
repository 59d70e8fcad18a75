-- Laws of what is read and put at places of a plane. Assumes nothing.
use mathlib.Core.Path.{◌≡◌, refl, sym, ap, subst, ◌∙◌}
use mathlib.Core.Logic.{◌⊎◌, inl, inr}
use mathlib.Core.List.Memᴰ
use mathlib.Core.List.{List, [], ◌∷◌, Memᴰ}
use Prim.Native.Nat.{ℕ, zero, suc, ◌+◌, ◌*◌, ◌≤◌, ◌<◌}
use native.Mathlib.Nat.{zero-lt-suc}
use native.Mathlib.Decide.{ℕ_discrete}
use native.Mathlib.Omega.{arith}
use lib.ListN.{length, get_or, set, length-set}
use lib.Seq.{get_or-set_other, set-get_or}
use Rattle.laws.specs.Places.{Plane, places, gets, puts, through}
use Rattle.laws.specs.Local.{All, Among}

pub puts-length : (ps vs : List ℕ) (s : Plane) → length (puts ps vs s) ≡ length s
puts-length [] vs s = refl
puts-length (p ∷ ps) [] s = refl
puts-length (p ∷ ps) (v ∷ vs) s = puts-length ps vs (set s p v) ∙ length-set s p v

-- a sample at none of the places stays
pub puts-beside : (ps vs : List ℕ) (s : Plane) (q : ℕ) → (Among ps q → ⊥) → get_or (puts ps vs s) q 0 ≡ get_or s q 0
puts-beside [] vs s q h = refl
puts-beside (p ∷ ps) [] s q h = refl
puts-beside (p ∷ ps) (v ∷ vs) s q h =
    puts-beside ps vs (set s p v) q (λ m. h (Memᴰ.tail m)) ∙ get_or-set_other s p q v 0 (λ e. h (Memᴰ.head e))

-- what was read is put back: nothing changes
pub puts-gets : (ps : List ℕ) (s : Plane) → puts ps (gets ps s) s ≡ s
puts-gets [] s = refl
puts-gets (p ∷ ps) s = ap (puts ps (gets ps s)) (set-get_or s p 0) ∙ puts-gets ps s

-- ---- no sample above the largest
abbrev pub Within : ℕ → Plane → Type 0
Within top s = (i : ℕ) → get_or s i 0 ≤ top

set-within : (top v : ℕ) → v ≤ top → (s : Plane) (p : ℕ) → Within top s → Within top (set s p v)
set-within top v h [] p f i = f i
set-within top v h (x ∷ xs) zero f zero = h
set-within top v h (x ∷ xs) zero f (suc i) = f (suc i)
set-within top v h (x ∷ xs) (suc p) f zero = f zero
set-within top v h (x ∷ xs) (suc p) f (suc i) = set-within top v h xs p (λ m. f (suc m)) i

pub puts-within : (top : ℕ) (ps vs : List ℕ) (s : Plane) → All (λ v. v ≤ top) vs → Within top s → Within top (puts ps vs s)
puts-within top [] vs s h f = f
puts-within top (p ∷ ps) [] s h f = f
puts-within top (p ∷ ps) (v ∷ vs) s h f = puts-within top ps vs (set s p v) h.1 (set-within top v h.0 s p f)

pub gets-within : (top : ℕ) (ps : List ℕ) (s : Plane) → Within top s → All (λ v. v ≤ top) (gets ps s)
gets-within top [] s f = tt
gets-within top (p ∷ ps) s f = (f p, gets-within top ps s f)

pub all-at : (top : ℕ) (vs : List ℕ) → All (λ v. v ≤ top) vs → Within top vs
all-at top [] a i = omega arith
all-at top (v ∷ vs) a zero = a.0
all-at top (v ∷ vs) a (suc i) = all-at top vs a.1 i

pub all_of : (top : ℕ) (vs : List ℕ) → Within top vs → All (λ v. v ≤ top) vs
all_of top [] f = tt
all_of top (v ∷ vs) f = (f zero, all_of top vs (λ i. f (suc i)))

-- a function that makes samples of samples keeps the plane's
pub through-within : (top : ℕ) (ps qs : List ℕ) (f : List ℕ → List ℕ) (s : Plane)
    → ((vs : List ℕ) → All (λ v. v ≤ top) vs → All (λ v. v ≤ top) (f vs)) → Within top s → Within top (through ps qs f s)
through-within top ps qs f s h w = puts-within top qs (f (gets ps s)) s (h (gets ps s) (gets-within top ps s w)) w

-- ---- places
pub all-places : (F : ℕ → Type 0) (n base stride : ℕ) → ((k : ℕ) → k < n → F (base + k * stride)) → All F (places base stride n)
all-places F zero base stride h = tt
all-places F (suc n) base stride h =
    (subst F (omega arith) (h 0 (zero-lt-suc n)), all-places F n (base + stride) stride (λ k b. subst F (omega arith) (h (suc k) (omega arith))))

pub all-among : (F : ℕ → Type 0) (ps : List ℕ) → ((p : ℕ) → Among ps p → F p) → All F ps
all-among F [] h = tt
all-among F (p ∷ ps) h = (h p (Memᴰ.head refl), all-among F ps (λ q m. h q (Memᴰ.tail m)))

pub all_map : (F G : ℕ → Type 0) (ps : List ℕ) → ((p : ℕ) → F p → G p) → All F ps → All G ps
all_map F G [] h a = tt
all_map F G (p ∷ ps) h a = (h p a.0, all_map F G ps h a.1)

inner : (m n base stride : ℕ) → All (Among (places (base + stride) stride n)) (places (base + stride) stride m)
    → All (Among (places base stride (suc n))) (places (base + stride) stride m)
inner m n base stride =
    all_map (Among (places (base + stride) stride n)) (Among (places base stride (suc n))) (places (base + stride) stride m) (λ p k. Memᴰ.tail k)

-- the first places of a row, and those after its first, are among it
pub first-among : (m n base stride : ℕ) → m ≤ n → All (Among (places base stride n)) (places base stride m)
first-among zero n base stride h = tt
first-among (suc m) zero base stride h = absurd (none h)
  where
    none : suc m ≤ 0 → ⊥
    none h = omega arith
first-among (suc m) (suc n) base stride h =
    (Memᴰ.head refl, inner m n base stride (first-among m n (base + stride) stride (omega arith)))

pub inner-among : (m n base stride : ℕ) → m ≤ n → All (Among (places base stride (suc n))) (places (base + stride) stride m)
inner-among m n base stride h = inner m n base stride (first-among m n (base + stride) stride h)

pub dec_among : (ps : List ℕ) (q : ℕ) → Dec (Among ps q)
dec_among [] q = no Memᴰ.not-nil
dec_among (p ∷ ps) q = go (ℕ_discrete q p) (dec_among ps q)
  where
    go : Dec (q ≡ p) → Dec (Among ps q) → Dec (Among (p ∷ ps) q)
    go (yes e) d = yes (Memᴰ.head e)
    go (no n) (yes m) = yes (Memᴰ.tail m)
    go (no n) (no k) = no (λ m. neither (Memᴰ.cases_cons m))
      where
        neither : (q ≡ p) ⊎ Among ps q → ⊥
        neither (inl e) = n e
        neither (inr l) = k l
