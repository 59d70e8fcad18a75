-- Local functions: two whose footprints do not meet may be made in either order, and locality is kept by all
-- that a filter is built of. Assumes nothing.
use mathlib.Core.Path.{◌≡◌, refl, sym, ap, subst, ◌∙◌}
use mathlib.Core.Bool.{Bool, true, false, cond}
use mathlib.Core.List.{List, [], ◌∷◌}
use Prim.Native.Nat.{ℕ, zero, suc, ◌+◌, ◌*◌, ◌<◌}
use native.Mathlib.Nat.{le_refl}
use native.Mathlib.Decide.{ℕ_discrete, dec_lt}
use native.Mathlib.Omega.{arith}
use lib.Dec.{T}
use lib.ListN.{length, get_or, set, length-set}
use lib.Seq.{ext_get_or, get_or-set_same, get_or-set_other, set_out}
use Rattle.laws.specs.Loop.{up_to}
use Rattle.laws.specs.Places.{Plane, places, gets, puts, through, line_at}
use Rattle.laws.specs.Local.{All, Among, Agree, Local}
use Rattle.laws.proofs.Places.{puts-length, all-places, all-among, dec_among}

pub commute : (F G : ℕ → Type 0) (f g : Plane → Plane) → ((p : ℕ) → Dec (F p)) → ((p : ℕ) → Dec (G p)) → ((p : ℕ) → F p → G p → ⊥)
    → Local F f → Local G g → (s : Plane) → f (g s) ≡ g (f s)
commute F G f g d_f d_g apart lf lg s = ext_get_or 0 (f (g s)) (g (f s)) lens (λ p h. at p (d_f p) (d_g p))
  where
    lens : length (f (g s)) ≡ length (g (f s))
    lens = lf.len (g s) ∙ lg.len s ∙ sym (lf.len s) ∙ sym (lg.len (f s))

    at : (p : ℕ) → Dec (F p) → Dec (G p) → get_or (f (g s)) p 0 ≡ get_or (g (f s)) p 0
    at p (yes x) d = lf.same (g s) s (lg.len s) (λ q y. lg.out s q (apart q y)) p x ∙ sym (lg.out (f s) p (apart p x))
    at p (no x) (yes y) = lf.out (g s) p x ∙ sym (lg.same (f s) s (lf.len s) (λ q z. lf.out s q (λ w. apart q w z)) p y)
    at p (no x) (no y) = lf.out (g s) p x ∙ lg.out s p y ∙ sym (lf.out s p x) ∙ sym (lg.out (f s) p y)

module _ (F : ℕ → Type 0) where
  pub local-id : Local F (λ s. s)
  local-id = record { len = λ s. refl; out = λ s p h. refl; same = λ s t e a. a }

  pub local-after : (f g : Plane → Plane) → Local F f → Local F g → Local F (λ s. f (g s))
  local-after f g lf lg = record {
    len = λ s. lf.len (g s) ∙ lg.len s;
    out = λ s p h. lf.out (g s) p h ∙ lg.out s p h;
    same = λ s t e a. lf.same (g s) (g t) (lg.len s ∙ e ∙ sym (lg.len t)) (lg.same s t e a);
  }

  pub local-up_to : (n : ℕ) (f : ℕ → Plane → Plane) → ((k : ℕ) → k < n → Local F (f k)) → Local F (up_to n f)
  unfolding up_to
  local-up_to zero f h = local-id
  local-up_to (suc n) f h = local-after (f n) (up_to n f) (h n (le_refl (suc n))) (local-up_to n f (λ k b. h k (omega arith)))

  -- where a test that knows nothing of the plane holds
  pub local-when : (b : Bool) (f : Plane → Plane) → (T b → Local F f) → Local F (λ s. cond b (f s) s)
  local-when true f lf = lf tt
  local-when false f lf = local-id

  -- ---- samples inside the footprint go through any function, and are put back inside it
  gets-same : (ps : List ℕ) (s t : Plane) → All F ps → Agree F s t → gets ps s ≡ gets ps t
  gets-same [] s t h a = refl
  gets-same (p ∷ ps) s t h a = λ i. a p h.0 i ∷ gets-same ps s t h.1 a i

  puts-out : (ps vs : List ℕ) (s : Plane) → All F ps → (q : ℕ) → (F q → ⊥) → get_or (puts ps vs s) q 0 ≡ get_or s q 0
  puts-out [] vs s h q n = refl
  puts-out (p ∷ ps) [] s h q n = refl
  puts-out (p ∷ ps) (v ∷ vs) s h q n = puts-out ps vs (set s p v) h.1 q n ∙ get_or-set_other s p q v 0 (λ e. n (subst F (sym e) h.0))

  set_same : (s t : Plane) (p v : ℕ) → length s ≡ length t → Agree F s t → Agree F (set s p v) (set t p v)
  set_same s t p v e a q f = by_place (ℕ_discrete q p) (dec_lt p (length s))
    where
      by_place : Dec (q ≡ p) → Dec (p < length s) → get_or (set s p v) q 0 ≡ get_or (set t p v) q 0
      by_place (no n) d = get_or-set_other s p q v 0 n ∙ a q f ∙ sym (get_or-set_other t p q v 0 n)
      by_place (yes i) (yes b) =
          ap (λ (k : ℕ). get_or (set s p v) k 0) i
          ∙ get_or-set_same s p v 0 b
          ∙ sym (get_or-set_same t p v 0 (omega arith))
          ∙ sym (ap (λ (k : ℕ). get_or (set t p v) k 0) i)
      by_place (yes i) (no b) =
          ap (λ (l : Plane). get_or l q 0) (set_out s p v (omega arith)) ∙ a q f ∙ sym (ap (λ (l : Plane). get_or l q 0) (set_out t p v (omega arith)))

  puts-same : (ps vs : List ℕ) (s t : Plane) → length s ≡ length t → Agree F s t → Agree F (puts ps vs s) (puts ps vs t)
  puts-same [] vs s t e a = a
  puts-same (p ∷ ps) [] s t e a = a
  puts-same (p ∷ ps) (v ∷ vs) s t e a =
      puts-same ps vs (set s p v) (set t p v) (length-set s p v ∙ e ∙ sym (length-set t p v)) (set_same s t p v e a)

  pub local-through : (ps qs : List ℕ) (f : List ℕ → List ℕ) → All F ps → All F qs → Local F (through ps qs f)
  local-through ps qs f h k = record {
    len = λ s. puts-length qs (f (gets ps s)) s;
    out = λ s p n. puts-out qs (f (gets ps s)) s k p n;
    same = λ s t e a q g. puts-same qs (f (gets ps s)) s t e a q g ∙ ap (λ (vs : List ℕ). get_or (puts qs (f vs) t) q 0) (gets-same ps s t h a);
  }

  -- a line of n + 2 places, all of them inside
  pub line_at-in : (n : ℕ) (f : List ℕ → List ℕ) (at step : ℕ) → ((k : ℕ) → k < suc (suc n) → F (at + k * step)) → Local F (line_at n f at step)
  line_at-in n f at step h =
      local-through (places at step (suc (suc n))) (places (at + step) step n) f (all-places F (suc (suc n)) at step h)
      (all-places F n (at + step) step (λ k l. let e : at + suc k * step ≡ at + step + k * step = omega arith in subst F e (h (suc k) (omega arith))))

-- a line by itself: its footprint is its own places, and lines with no place in common may be made in either
-- order
pub local-line : (ps qs : List ℕ) (f : List ℕ → List ℕ) → All (Among ps) qs → Local (Among ps) (through ps qs f)
local-line ps qs f k = local-through (Among ps) ps qs f (all-among (Among ps) ps (λ p m. m)) k

pub line-commute : (ps us : List ℕ) (f g : Plane → Plane) → Local (Among ps) f → Local (Among us) g → ((p : ℕ) → Among ps p → Among us p → ⊥)
    → (s : Plane) → f (g s) ≡ g (f s)
line-commute ps us f g lf lg apart s = commute (Among ps) (Among us) f g (dec_among ps) (dec_among us) apart lf lg s
