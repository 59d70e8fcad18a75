-- What the verdict's tests say, joined. Assumes nothing.
use Prim.Native.Nat.{ℕ, zero, suc, ◌*◌, ◌≤◌, ◌<◌}
use mathlib.Core.Path.{◌≡◌, refl, sym, ap, subst, ◌∙◌}
use mathlib.Core.Bool.{Bool, true, false, ◌&&◌, ◌||◌, false≢true}
use mathlib.Core.List.{List, ◌∷◌}
use mathlib.Core.Logic.{◌↔◌}
use native.Mathlib.Nat.{le_of_suc-le-suc, not-suc-le-zero}
use native.Mathlib.Omega.{arith}
use borrow.Author.Tests.{eq-eqb}
use lib.ListN.{length, take, replicate, length-replicate}
use Rattle.laws.proofs.Bools.{and-true}
use Rattle.edges.specs.Picture.{Planes, planes}
use Rattle.recordings.specs.Bytes.{zeros, copied}
use Rattle.recordings.specs.Orders.{Recording, frames_of, second_of, most_of, WithMarks, filtered, visited_all, Becomes, start_of, ComesOut}
use Rattle.recordings.specs.Ways.{is_whole}
use Rattle.recordings.specs.declared.ways.Way.{Way}

-- two tests are passed exactly where both facts hold
pub both : (a b : Bool) {P Q : Type 0} → (a ≡ true) ↔ P → (b ≡ true) ↔ Q → ((a && b) ≡ true) ↔ (P × Q)
both a b p q = (λ e. let t = and-true a b e in (p.0 t.0, q.0 t.1), λ h. rw (p.1 h.0, q.1 h.1))

module _ {y u v y' u' v' : List ℕ} where
  planes-of : (y ≡ y') → (u ≡ u') → (v ≡ v') → planes y u v ≡ planes y' u' v'
  planes-of e f g =
      ap (λ (t : List ℕ). planes t u v) e ∙ ap (λ (t : List ℕ). planes y' t v) f ∙ ap (λ (t : List ℕ). planes y' u' t) g

  -- three planes are equal exactly where each is
  pub same-planes : (a b c : Bool) → (a ≡ true) ↔ (y ≡ y') → (b ≡ true) ↔ (u ≡ u') → (c ≡ true) ↔ (v ≡ v')
      → (((a && b) && c) ≡ true) ↔ (planes y u v ≡ planes y' u' v')
  same-planes a b c p q r =
      let all = both (a && b) c (both a b p q) r in (
        λ t. let h = all.0 t in planes-of h.0.0 h.0.1 h.1,
        λ e. all.1 ((ap (λ (s : Planes). s.luma) e, ap (λ (s : Planes). s.u) e), ap (λ (s : Planes). s.v) e),
      )

-- the tests of a way
pub becomes : {way : Way} {r : Recording} {s t : WithMarks} {after : Planes} (v w m : Bool) → t ≡ filtered way r s → v ≡ is_whole way
    → w ≡ visited_all t.1 t.2 → (m ≡ true) ↔ (t.0 ≡ after) → (((v || w) && m) ≡ true) ↔ Becomes way r s after
becomes {way} {r} {s} {t} {after} v w m e p q k =
    let visits : (v || w) ≡ (is_whole way || visited_all (filtered way r s).1 (filtered way r s).2) = rw (q, p, e) in (
      λ h. let b = and-true (v || w) m h in record { visited = sym visits ∙ b.0; out = sym (ap (λ (x : WithMarks). x.0) e) ∙ k.0 b.1 },
      λ h. rw (visits ∙ h.visited, k.1 (ap (λ (x : WithMarks). x.0) e ∙ h.out)),
    )

-- ---- a part of a space of zeros
taken : (k m : ℕ) → k ≤ m → take k (replicate {A = ℕ} m 0) ≡ replicate k 0
taken zero m h = refl
taken (suc k) zero h = absurd (not-suc-le-zero h)
taken (suc k) (suc m) h = ap (λ (l : List ℕ). 0 ∷ l) (taken k m (le_of_suc-le-suc h))

pub take-zeros : (k m : ℕ) → k ≤ m → take k (zeros m) ≡ zeros k
unfolding zeros
take-zeros k m h = taken k m h

-- planes of n macroblocks are copied whole
zeros-length : (n : ℕ) → length (zeros n) ≡ n
unfolding zeros
zeros-length n = length-replicate n 0

whole : (k : ℕ) (s : List ℕ) → length s ≡ k → copied (zeros k) s ≡ s
whole k s e = rw (eq-eqb (length (zeros k)) (length s) (zeros-length k ∙ sym e))

pub start_is : (r : Recording) (p : Planes) → let m = frames_of r.two r.n in
    length p.luma ≡ 256 * m → length p.u ≡ 64 * m → length p.v ≡ 64 * m → start_of r p ≡ (p, zeros r.n, zeros (second_of r.two r.n))
start_is r p e f g =
    let m = frames_of r.two r.n in
    rw (whole (256 * m) p.luma e, whole (64 * m) p.u f, whole (64 * m) p.v g)

-- ---- a way in spaces of 120 macroblocks
module _ (way : Way) (r : Recording) (before after : Planes) where
  pub too_large : most_of r.two < r.n → (false ≡ true) ↔ ComesOut way r before after
  too_large h = (λ e. absurd (false≢true e), λ k. let s = k.small in absurd (omega arith))

  pub in-space : (y u v marks marks₂ : List ℕ) (a : Bool) (m n₂ : ℕ) → r.n ≤ most_of r.two → m ≤ 120 → m ≡ frames_of r.two r.n → r.n ≤ 120
      → n₂ ≤ r.n → n₂ ≡ second_of r.two r.n → y ≡ zeros 30720 → u ≡ zeros 7680 → v ≡ zeros 7680 → marks ≡ zeros 120 → marks₂ ≡ zeros 120
      → (a ≡ true) ↔ Becomes way r (planes (copied (take (256 * m) y) before.luma) (copied (take (64 * m) u) before.u) (copied (take (64 * m) v) before.v), take r.n marks, take n₂ marks₂) after
      → (a ≡ true) ↔ ComesOut way r before after
  in-space y u v marks marks₂ a m n₂ h hm fm hn h₂ f₂ ey eu ev em em₂ b =
      let f : take (256 * m) y ≡ zeros (256 * m) = rw ey (take-zeros (256 * m) 30720 (omega arith)) in
      let g : take (64 * m) u ≡ zeros (64 * m) = rw eu (take-zeros (64 * m) 7680 (omega arith)) in
      let k : take (64 * m) v ≡ zeros (64 * m) = rw ev (take-zeros (64 * m) 7680 (omega arith)) in
      let l : take r.n marks ≡ zeros r.n = rw em (take-zeros r.n 120 hn) in
      let l₂ : take n₂ marks₂ ≡ zeros n₂ = rw em₂ (take-zeros n₂ 120 (omega arith)) in
      let e : ◌≡◌ {A = WithMarks} (planes (copied (take (256 * m) y) before.luma) (copied (take (64 * m) u) before.u) (copied (take (64 * m) v) before.v), take r.n marks, take n₂ marks₂) (start_of r before) = rw (f, g, k, l, l₂, fm, f₂) in (
        λ t. record { small = h; becomes = subst (λ (s : WithMarks). Becomes way r s after) e (b.0 t) },
        λ t. b.1 (subst (λ (s : WithMarks). Becomes way r s after) (sym e) t.becomes),
      )
