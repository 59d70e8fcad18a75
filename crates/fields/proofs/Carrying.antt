-- A filter carried from the small plane to the large: all that a filter is built of carries. Assumes nothing.
use mathlib.Core.Path.{◌≡◌, refl, sym, ap, subst, ◌∙◌}
use mathlib.Core.Logic.{◌⊎◌, inl, inr}
use mathlib.Core.Bool.{Bool, true, false, cond}
use mathlib.Core.List.Memᴰ
use mathlib.Core.List.{List, [], ◌∷◌}
use Prim.Native.Nat.{ℕ, zero, suc, ◌+◌, ◌*◌, ◌<◌}
use native.Mathlib.Nat.{le_refl, zero-lt-suc}
use native.Mathlib.Omega.{arith}
use lib.Dec.{T}
use lib.ListN.{length, get_or, set, length-set}
use Rattle.laws.specs.Loop.{up_to}
use Rattle.laws.specs.Places.{Plane, places, gets, puts, through, line_at}
use Rattle.laws.specs.Local.{Among}
use Rattle.laws.proofs.Places.{puts-length, puts-beside}
use Rattle.fields.specs.Carried.{View, Sits, Match, Carried}
use Rattle.fields.proofs.Views.{at-among, gets-length, gets-at, gets-set, gets-puts, both-same}

-- ---- places that match
pub match-places : (L : List ℕ) (n at step at' step' : ℕ) → ((k : ℕ) → k < n → Sits L (at + k * step) (at' + k * step'))
    → Match L (places at step n) (places at' step' n)
match-places L zero at step at' step' h = tt
match-places L (suc n) at step at' step' h =
    (near, match-places L n (at + step) step (at' + step') step' (λ k b. move k (h (suc k) (omega arith))))
  where
    near : Sits L at at'
    near =
        let a : at + 0 * step ≡ at = omega arith in
        let b : at' + 0 * step' ≡ at' = omega arith in
        rw (a, b) at (h 0 (zero-lt-suc n))

    move : (k : ℕ) → Sits L (at + suc k * step) (at' + suc k * step') → Sits L (at + step + k * step) (at' + step' + k * step')
    move k x =
        let a : at + suc k * step ≡ at + step + k * step = omega arith in
        let b : at' + suc k * step' ≡ at' + step' + k * step' = omega arith in
        rw (a, b) at x

match-gets : (L is js : List ℕ) (s : Plane) → Match L is js → gets is (gets L s) ≡ gets js s
match-gets L [] [] s m = refl
match-gets L [] (j ∷ js) s m = absurd m
match-gets L (i ∷ is) [] s m = absurd m
match-gets L (i ∷ is) (j ∷ js) s m =
    λ k. (gets-at L s i m.0.0 ∙ ap (λ (q : ℕ). get_or s q 0) m.0.1) k ∷ match-gets L is js s m.1 k

match-puts : (L is js vs : List ℕ) (s : Plane) → View (length s) L → Match L is js → gets L (puts js vs s) ≡ puts is vs (gets L s)
match-puts L [] [] vs s w m = refl
match-puts L [] (j ∷ js) vs s w m = absurd m
match-puts L (i ∷ is) [] vs s w m = absurd m
match-puts L (i ∷ is) (j ∷ js) [] s w m = refl
match-puts L (i ∷ is) (j ∷ js) (v ∷ vs) s w m =
    match-puts L is js vs (set s j v) (subst (λ (k : ℕ). View k L) (sym (length-set s j v)) w) m.1
    ∙ ap (puts is vs) (ap (λ (q : ℕ). gets L (set s q v)) (sym m.0.1) ∙ gets-set L s w i v m.0.0)

match-among : (L is js : List ℕ) → Match L is js → (q : ℕ) → Among js q → Among L q
match-among L [] [] m q k = absurd (Memᴰ.not-nil k)
match-among L [] (j ∷ js) m q k = absurd m
match-among L (i ∷ is) [] m q k = absurd m
match-among L (i ∷ is) (j ∷ js) m q k = go (Memᴰ.cases_cons k) (match-among L is js m.1 q)
  where
    go : (q ≡ j) ⊎ Among js q → (Among js q → Among L q) → Among L q
    go (inl e) f = subst (Among L) (m.0.1 ∙ sym e) (at-among L i m.0.0)
    go (inr l) f = f l

module _ (m : ℕ) (L : List ℕ) where
  pub carried-id : Carried m L (λ s. s) (λ s. s)
  carried-id = record { len = λ s. refl; inn = λ s e. refl; out = λ s q h. refl }

  pub carried-after : (g f g' f' : Plane → Plane) → Carried m L g g' → Carried m L f f' → Carried m L (λ s. g (f s)) (λ s. g' (f' s))
  carried-after g f g' f' a b = record {
    len = λ s. a.len (f' s) ∙ b.len s;
    inn = λ s e. a.inn (f' s) (b.len s ∙ e) ∙ ap g (b.inn s e);
    out = λ s q h. a.out (f' s) q h ∙ b.out s q h;
  }

  pub carried-up_to : (n : ℕ) (f f' : ℕ → Plane → Plane) → ((k : ℕ) → k < n → Carried m L (f k) (f' k)) → Carried m L (up_to n f) (up_to n f')
  unfolding up_to
  carried-up_to zero f f' h = carried-id
  carried-up_to (suc n) f f' h =
      carried-after (f n) (up_to n f) (f' n) (up_to n f') (h n (le_refl (suc n))) (carried-up_to n f f' (λ k b. h k (omega arith)))

  pub carried-when : (b : Bool) (f f' : Plane → Plane) → (T b → Carried m L f f') → Carried m L (λ s. cond b (f s) s) (λ s. cond b (f' s) s)
  carried-when true f f' h = h tt
  carried-when false f f' h = carried-id

  module _ (w : View m L) where
    pub carried-through : (ps qs ps' qs' : List ℕ) (h : List ℕ → List ℕ) → Match L ps ps' → Match L qs qs'
        → Carried m L (through ps qs h) (through ps' qs' h)
    carried-through ps qs ps' qs' h a b = record {
      len = λ s. puts-length qs' (h (gets ps' s)) s;
      inn = λ s e.
          match-puts L qs qs' (h (gets ps' s)) s (subst (λ (k : ℕ). View k L) (sym e) w) b
          ∙ ap (λ (vs : List ℕ). puts qs (h vs) (gets L s)) (sym (match-gets L ps ps' s a));
      out = λ s q n. puts-beside qs' (h (gets ps' s)) s q (λ k. n (match-among L qs qs' b q k));
    }

    -- what is carried is: taken out, filtered, put back
    pub carried-is : (g f : Plane → Plane) → Carried m L g f → (s : Plane) → length s ≡ m → f s ≡ through L L g s
    carried-is g f c s e =
        both-same L (f s) (puts L (g (gets L s)) s) (c.len s ∙ sym (puts-length L (g (gets L s)) s))
        (c.inn s e ∙ sym (gets-puts L (g (gets L s)) s (subst (λ (k : ℕ). View k L) (sym e) w) full))
        (λ q n. c.out s q n ∙ sym (puts-beside L (g (gets L s)) s q n))
      where
        full : length (g (gets L s)) ≡ length L
        full = ap length (sym (c.inn s e)) ∙ gets-length L (f s)

    -- a line of n + 2 places, each of which sits at its place in the large plane
    pub line_at-carried : (n : ℕ) (f : List ℕ → List ℕ) (at step at' step' : ℕ) → ((k : ℕ) → k < suc (suc n) → Sits L (at + k * step) (at' + k * step'))
        → Carried m L (line_at n f at step) (line_at n f at' step')
    line_at-carried n f at step at' step' h =
        carried-through (places at step (suc (suc n))) (places (at + step) step n) (places at' step' (suc (suc n))) (places (at' + step') step' n) f
        (match-places L (suc (suc n)) at step at' step' h)
        (match-places L n (at + step) step (at' + step') step' (λ k b.
        let a : at + suc k * step ≡ at + step + k * step = omega arith in
        let c : at' + suc k * step' ≡ at' + step' + k * step' = omega arith in
        rw (a, c) at (h (suc k) (omega arith))))
