-- Laws of samples that are the same; and when a visit is done, all that it touches is its own or marked.
-- Assumes nothing.
use mathlib.Core.Path.{◌≡◌, sym, ap, subst, ◌∙◌}
use mathlib.Core.Logic.{◌⊎◌, inl, inr}
use mathlib.Core.List.{List}
use Prim.Native.Nat.{ℕ, zero, suc, ◌+◌, ◌*◌, ◌/◌, ◌%◌, ◌<◌}
use native.Mathlib.Nat.{mod-lt, div-add-mod', div-lt_iff_lt-mul, mul-le-mul}
use native.Mathlib.Omega.{arith}
use lib.Dec.{lit≤}
use lib.ListN.{length, get_or, replicate}
use lib.Seq.{ext_get_or}
use Rattle.laws.specs.Foot.{touch-own, touch-left, touch-upper, Touch}
use Rattle.laws.specs.Grid.{Near, is-left, is_up}
use Rattle.laws.specs.Order.{Ready, Dep}
use Rattle.laws.specs.Places.{Plane}
use Rattle.laws.specs.Raster.{Marked}
use Rattle.laws.proofs.Grid.{index-lt}
use Rattle.edges.specs.Picture.{Planes}
use Rattle.pictures.specs.Checks.{Lent}
use Rattle.visits.specs.Checks.{Fit}
use Rattle.visits.specs.Late.{SamePlane, SameAt, SamplesOf}
use Rattle.visits.proofs.Neighbours.{near→dep}

-- ---- the other way round, one after the other, at fewer places, at the places of either
plane-sym : {F : ℕ → Type 0} {s t : Plane} → SamePlane F s t → SamePlane F t s
plane-sym a = record { len = sym a.len; samples = λ k h. sym (a.samples k h) }

plane-after : {F : ℕ → Type 0} {s t u : Plane} → SamePlane F s t → SamePlane F t u → SamePlane F s u
plane-after a b = record { len = a.len ∙ b.len; samples = λ k h. a.samples k h ∙ b.samples k h }

plane-less : {F G : ℕ → Type 0} {s t : Plane} → ((k : ℕ) → F k → G k) → SamePlane G s t → SamePlane F s t
plane-less sub a = record { len = a.len; samples = λ k h. a.samples k (sub k h) }

plane-either : {F G : ℕ → Type 0} {s t : Plane} → SamePlane F s t → SamePlane G s t → SamePlane (λ k. F k ⊎ G k) s t
plane-either {F} {G} {s} {t} a b = record { len = a.len; samples = λ k h. at k h }
  where
    at : (k : ℕ) → F k ⊎ G k → get_or s k 0 ≡ get_or t k 0
    at k (inl h) = a.samples k h
    at k (inr h) = b.samples k h

module _ {F : ℕ → ℕ → Type 0} {p q : Planes} where
  pub same-sym : SameAt F p q → SameAt F q p
  same-sym a = record { luma = plane-sym a.luma; u = plane-sym a.u; v = plane-sym a.v }

  pub same_after : {o : Planes} → SameAt F p q → SameAt F q o → SameAt F p o
  same_after a b = record { luma = plane-after a.luma b.luma; u = plane-after a.u b.u; v = plane-after a.v b.v }

  module _ {G : ℕ → ℕ → Type 0} where
    pub same-less : ((N k : ℕ) → F N k → G N k) → SameAt G p q → SameAt F p q
    same-less sub a = record { luma = plane-less (sub 16) a.luma; u = plane-less (sub 8) a.u; v = plane-less (sub 8) a.v }

    pub same-either : SameAt F p q → SameAt G p q → SameAt (λ N k. F N k ⊎ G N k) p q
    same-either a b = record { luma = plane-either a.luma b.luma; u = plane-either a.u b.u; v = plane-either a.v b.v }

-- ---- the macroblocks that filtering i touches, where all that it waits for is marked
pub touch-ready : (W i : ℕ) (ms : List ℕ) → 0 < W → Ready (Dep W) ms i → (bx by : ℕ) → Touch (i % W) (i / W) bx by → (by * W + bx ≡ i) ⊎ Marked ms (by * W + bx)
touch-ready W i ms wide ready bx by t = go t
  where
    dep : bx < W → Near bx by (i % W) (i / W) → Marked ms (by * W + bx)
    dep h n = ready (by * W + bx) (subst (Dep W (by * W + bx)) (div-add-mod' i W) (near→dep W bx by (i % W) (i / W) h (mod-lt i wide) n))

    go : Touch (i % W) (i / W) bx by → (by * W + bx ≡ i) ⊎ Marked ms (by * W + bx)
    go (touch-own e f) = inl (omega (arith, div-add-mod' i W, ap (λ (y : ℕ). y * W) f))
    go (touch-left e f) = inr (dep (omega (arith, mod-lt i wide)) (is-left e f))
    go (touch-upper e f) = inr (dep (omega (arith, mod-lt i wide)) (is_up e f))

-- ---- planes that are the same at the places of all macroblocks are the same
place_in : (N W H k : ℕ) → 0 < N → 0 < W → k < N * N * (W * H) → k / (N * W) / N * W + k % (N * W) / N < W * H
place_in N W H k n w h = index-lt W H (k % (N * W) / N) (k / (N * W) / N) column row
  where
    some : 0 < N * W
    some = mul-le-mul n w

    column : k % (N * W) / N < W
    column = (div-lt_iff_lt-mul n).1 (omega (arith, mod-lt k some))

    row : k / (N * W) / N < H
    row = (div-lt_iff_lt-mul n).1 ((div-lt_iff_lt-mul some).1 (omega arith))

same-plane : (N W H : ℕ) (M : ℕ → Type 0) (s t : Plane) → 0 < N → 0 < W → length s ≡ N * N * (W * H) → ((i : ℕ) → i < W * H → M i) → SamePlane (SamplesOf W M N) s t → s ≡ t
same-plane N W H M s t n w l all a = ext_get_or 0 s t a.len (λ k h. a.samples k (all _ (place_in N W H k n w (omega arith))))

pub same_whole : (d : Lent) (M : ℕ → Type 0) (p q : Planes) → 0 < d.size.w → Fit d p → ((i : ℕ) → i < d.size.w * d.size.h → M i) → SameAt (SamplesOf d.size.w M) p q → p ≡ q
same_whole d M p q w f all a =
    let W = d.size.w in
    let H = d.size.h in
    let luma = same-plane 16 W H M p.luma q.luma (lit≤ tt) w f.luma all a.luma in
    let u = same-plane 8 W H M p.u q.u (lit≤ tt) w f.u all a.u in
    let v = same-plane 8 W H M p.v q.v (lit≤ tt) w f.v all a.v in
    λ i. record { luma = luma i; u = u i; v = v i }

-- ---- before the first call nothing is marked
pub none-marked : (n j : ℕ) → Marked (replicate n 0) j → ⊥
none-marked zero j m = omega arith
none-marked (suc n) zero m = omega arith
none-marked (suc n) (suc j) m = none-marked n j m

-- planes of the right lengths are the same where there are no places to ask for
pub nowhere-same : (d : Lent) {F : ℕ → ℕ → Type 0} {p q : Planes} → Fit d p → Fit d q → ((N k : ℕ) → F N k → ⊥) → SameAt F p q
nowhere-same d f g none = record {
  luma = record { len = f.luma ∙ sym g.luma; samples = λ k h. absurd (none 16 k h) };
  u = record { len = f.u ∙ sym g.u; samples = λ k h. absurd (none 8 k h) };
  v = record { len = f.v ∙ sym g.v; samples = λ k h. absurd (none 8 k h) };
}
