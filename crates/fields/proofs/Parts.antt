-- Functions on a part: they compose, and so do loops of them. Assumes nothing.
use mathlib.Core.Path.{◌≡◌, sym, ap, ◌∙◌}
use Prim.Native.Nat.{ℕ, zero, suc, ◌+◌, ◌-◌, ◌<◌}
use native.Mathlib.Nat.{le_refl}
use native.Mathlib.Omega.{arith}
use Rattle.laws.specs.Loop.{up_to, span}
use Rattle.laws.proofs.Loop.{up_to-keeps}
use Rattle.fields.specs.Lens.{Lens, through-part}

module _ {U S : Type 0} {Valid : U → Type 0} {Fits : S → Type 0} {take : U → S} {put : S → U → U} (l : Lens Valid Fits take put) where
  pub on-id : (u : U) → u ≡ through-part take put (λ s. s) u
  on-id u = sym (l.put-taken u)

  pub on-after : (g f : S → S) (u : U) → Valid u → Fits (f (take u)) → Fits (g (f (take u)))
      → through-part take put g (through-part take put f u) ≡ through-part take put (λ s. g (f s)) u
  on-after g f u v a b =
      ap (λ (s : S). put (g s) (put (f (take u)) u)) (l.taken-put (f (take u)) u v a)
      ∙ l.put-put (g (f (take u))) (f (take u)) u v b a

  pub on-up_to : (n : ℕ) (f : ℕ → U → U) (g : ℕ → S → S) → ((k : ℕ) (s : S) → Fits s → Fits (g k s))
      → ((k : ℕ) → k < n → (u : U) → Valid u → f k u ≡ through-part take put (g k) u) → (u : U) → Valid u → up_to n f u ≡ through-part take put (up_to n g) u
  unfolding up_to
  on-up_to zero f g c e u v = on-id u
  on-up_to (suc n) f g c e u v =
      ap (f n) (on-up_to n f g c (λ k b. e k (omega arith)) u v)
      ∙ e n (le_refl (suc n)) (put (up_to n g (take u)) u) (l.keeps (up_to n g (take u)) u v)
      ∙ on-after (g n) (up_to n g) u v made (c n (up_to n g (take u)) made)
    where
      made : Fits (up_to n g (take u))
      made = up_to-keeps Fits n g (take u) (λ k t b. c k t) (l.fits u v)

  pub on-span : (a b : ℕ) (f : ℕ → U → U) (g : ℕ → S → S) → ((k : ℕ) (s : S) → Fits s → Fits (g k s))
      → ((k : ℕ) → k < b → (u : U) → Valid u → f k u ≡ through-part take put (g k) u) → (u : U) → Valid u → span a b f u ≡ through-part take put (span a b g) u
  unfolding span
  on-span a b f g c e u v = on-up_to (b - a) (λ i t. f (a + i) t) (λ i t. g (a + i) t) (λ k. c (a + k)) (λ k h. e (a + k) (omega arith)) u v
