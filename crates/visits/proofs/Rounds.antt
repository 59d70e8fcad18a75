-- Rounds: full ones finish the picture in W + 2 * (H - 1), H where W is 1, and no schedule does it in fewer.
-- Assumes nothing.
use mathlib.Core.Path.{◌≡◌, refl, sym, ap, subst, ◌∙◌}
use mathlib.Core.Logic.{◌⊎◌, inl, inr}
use mathlib.Core.List.Memᴰ
use mathlib.Core.List.{List, [], ◌∷◌}
use Prim.Native.Nat.{ℕ, zero, suc, ◌+◌, ◌-◌, ◌*◌, ◌<◌}
use native.Mathlib.Decide.{ℕ_discrete, dec_lt}
use native.Mathlib.Nat.{not-suc-le-zero, add-zero}
use native.Mathlib.Omega.{arith}
use lib.ListN.{length, set, get_or, length-set, length-replicate}
use lib.Seq.{get_or-set_other}
use Rattle.laws.specs.Local.{All, Among}
use Rattle.laws.specs.Raster.{Marked}
use Rattle.laws.specs.Order.{Ready, Dep}
use Rattle.laws.proofs.Places.{all-among}
use Rattle.laws.proofs.Raster.{mark-same}
use Rattle.laws.proofs.Grid.{dep-lt, index-lt}
use Rattle.visits.specs.Visit.{fresh}
use Rattle.visits.specs.AnyOrder.{Visited}
use Rattle.visits.specs.Rounds.{Able, mark_all, Allowed, Full, Schedule, over, next, earliest, Rounds}
use Rattle.visits.proofs.Marks.{visited-stays, fresh-none}
use Rattle.visits.proofs.Neighbours.{wide}
use Rattle.visits.proofs.Earliest.{round_of, round-at, dep-earlier, dep-just, earliest-within, last-round}

-- ---- the marks of a round
mark_all-length : (is ms : List ℕ) → length (mark_all is ms) ≡ length ms
mark_all-length [] ms = refl
mark_all-length (i ∷ is) ms = mark_all-length is (set ms i 1) ∙ length-set ms i 1

mark_all-stays : (is ms : List ℕ) (j : ℕ) → Marked ms j → Marked (mark_all is ms) j
mark_all-stays [] ms j k = k
mark_all-stays (i ∷ is) ms j k = mark_all-stays is (set ms i 1) j (visited-stays ms i j k)

mark_all-marks : (is ms : List ℕ) (j : ℕ) → j < length ms → Among is j → Marked (mark_all is ms) j
mark_all-marks [] ms j h m = absurd (Memᴰ.not-nil m)
mark_all-marks (i ∷ is) ms j h m = go (Memᴰ.cases_cons m) (mark_all-marks is (set ms i 1) j (omega (arith, length-set ms i 1)))
  where
    go : (j ≡ i) ⊎ Among is j → (Among is j → Marked (mark_all is (set ms i 1)) j) → Marked (mark_all is (set ms i 1)) j
    go (inl e) f = mark_all-stays is (set ms i 1) j (subst (λ (k : ℕ). Marked (set ms k 1) j) e (mark-same ms j h))
    go (inr n) f = f n

mark_all-from : (is ms : List ℕ) (j : ℕ) → Marked (mark_all is ms) j → Marked ms j ⊎ Among is j
mark_all-from [] ms j k = inl k
mark_all-from (i ∷ is) ms j k = go (mark_all-from is (set ms i 1) j k) (ℕ_discrete j i)
  where
    go : Marked (set ms i 1) j ⊎ Among is j → Dec (j ≡ i) → Marked ms j ⊎ Among (i ∷ is) j
    go (inr m) d = inr (Memᴰ.tail m)
    go (inl m) (yes e) = inr (Memᴰ.head e)
    go (inl m) (no n) = inl (sym (get_or-set_other ms i j 1 0 n) ∙ m)

all_of : (F : ℕ → Type 0) (is : List ℕ) (j : ℕ) → All F is → Among is j → F j
all_of F [] j h m = absurd (Memᴰ.not-nil m)
all_of F (i ∷ is) j h m = go (Memᴰ.cases_cons m) (all_of F is j h.1)
  where
    go : (j ≡ i) ⊎ Among is j → (Among is j → F j) → F j
    go (inl e) f = subst F (sym e) h.0
    go (inr n) f = f n

-- the macroblocks below n of round k
wave : ℕ → ℕ → ℕ → List ℕ
wave W zero k = []
wave W (suc n) k = elim (ℕ_discrete (round_of W n) k) [ yes e ↦ n ∷ wave W n k | no d ↦ wave W n k ]

module _ (W H : ℕ) where
  -- after k rounds: only macroblocks of the first k rounds are marked; all of them are
  NoMore : ℕ → List ℕ → Type 0
  NoMore k ms = (i : ℕ) → i < W * H → Marked ms i → round_of W i < k

  NoLess : ℕ → List ℕ → Type 0
  NoLess k ms = (i : ℕ) → i < W * H → round_of W i < k → Marked ms i

  -- what is ready then has one of the first k + 1 rounds
  able-by : (k : ℕ) (ms : List ℕ) → NoMore k ms → (i : ℕ) → Able W H ms i → round_of W i < suc k
  unfolding NoMore
  able-by k ms u i a = go (dec_lt 0 (round_of W i))
    where
      w : 0 < W
      w = wide W H i a.0

      go : Dec (0 < round_of W i) → round_of W i < suc k
      go (no z) = omega arith
      go (yes l) =
          let p = dep-just W i w l in
          let b = dep-lt W w p.0 i p.1 in
          omega (arith, u p.0 (omega (arith, a.0)) (a.2 p.0 p.1), p.2)

  ready_by : (k : ℕ) (ms : List ℕ) → NoLess k ms → (i : ℕ) → i < W * H → round_of W i < suc k → Ready (Dep W) ms i
  unfolding NoLess
  ready_by k ms c i h l a d =
      let w = wide W H i h in
      c a (omega (arith, dep-lt W w a i d)) (omega (arith, dep-earlier W a i w d))

  round-no-more : (k : ℕ) (ms is : List ℕ) → NoMore k ms → Allowed W H ms is → NoMore (suc k) (mark_all is ms)
  unfolding NoMore
  round-no-more k ms is u r i h m = go (mark_all-from is ms i m)
    where
      go : Marked ms i ⊎ Among is i → round_of W i < suc k
      go (inl e) = omega (arith, u i h e)
      go (inr e) = able-by k ms u i (all_of (Able W H ms) is i r e)

  round-no-less : (k : ℕ) (ms is : List ℕ) → length ms ≡ W * H → NoLess k ms → Full W H ms is → NoLess (suc k) (mark_all is ms)
  unfolding NoLess
  round-no-less k ms is e c r i h l = go (ℕ_discrete (get_or ms i 0) 1)
    where
      go : Dec (Marked ms i) → Marked (mark_all is ms) i
      go (yes m) = mark_all-stays is ms i m
      go (no u) = mark_all-marks is ms i (omega arith) (r.1 i (h, u, ready_by k ms c i h l))

  schedule-no-more : (k : ℕ) {ms end : List ℕ} {rounds : List (List ℕ)} → NoMore k ms → Schedule (Allowed W H) ms rounds end → NoMore (k + length rounds) end
  schedule-no-more k u over = rw add-zero u
  schedule-no-more k u (next {ms = ms} {is = is} {rounds = rounds} r s) =
      let e : suc k + length rounds ≡ k + suc (length rounds) = omega arith in
      rw e at (schedule-no-more (suc k) (round-no-more k ms is u r) s)

  schedule-no-less : (k : ℕ) {ms end : List ℕ} {rounds : List (List ℕ)} → length ms ≡ W * H → NoLess k ms → Schedule (Full W H) ms rounds end
      → NoLess (k + length rounds) end
  schedule-no-less k l c over = rw add-zero c
  schedule-no-less k l c (next {ms = ms} {is = is} {rounds = rounds} r s) =
      let e : suc k + length rounds ≡ k + suc (length rounds) = omega arith in
      rw e at (schedule-no-less (suc k) (mark_all-length is ms ∙ l) (round-no-less k ms is l c r) s)

  pub full→allowed : {ms end : List ℕ} {rounds : List (List ℕ)} → Schedule (Full W H) ms rounds end → Schedule (Allowed W H) ms rounds end
  full→allowed over = over
  full→allowed (next r s) = next r.0 (full→allowed s)

  -- ---- a full round: all macroblocks of round k
  wave-in : (n k i : ℕ) → i < n → round_of W i ≡ k → Among (wave W n k) i
  unfolding wave
  wave-in zero k i h e = absurd (not-suc-le-zero h)
  wave-in (suc n) k i h e = go (ℕ_discrete (round_of W n) k) (ℕ_discrete i n) (λ l. wave-in n k i l e)
    where
      go : (d : Dec (round_of W n ≡ k)) → Dec (i ≡ n) → (i < n → Among (wave W n k) i) → Among (elim d [ yes e ↦ n ∷ wave W n k | no d ↦ wave W n k ]) i
      go (yes f) (yes j) m = Memᴰ.head j
      go (yes f) (no j) m = Memᴰ.tail (m (omega arith))
      go (no f) (yes j) m = absurd (f (ap (round_of W) (sym j) ∙ e))
      go (no f) (no j) m = m (omega arith)

  wave-of : (n k i : ℕ) → Among (wave W n k) i → (i < n) × (round_of W i ≡ k)
  unfolding wave
  wave-of zero k i m = absurd (Memᴰ.not-nil m)
  wave-of (suc n) k i m = go (ℕ_discrete (round_of W n) k) m (λ l. wave-of n k i l)
    where
      later : (i < n) × (round_of W i ≡ k) → (i < suc n) × (round_of W i ≡ k)
      later p = (omega (arith, p.0), p.1)

      go : (d : Dec (round_of W n ≡ k)) → Among (elim d [ yes e ↦ n ∷ wave W n k | no d ↦ wave W n k ]) i
          → (Among (wave W n k) i → (i < n) × (round_of W i ≡ k)) → (i < suc n) × (round_of W i ≡ k)
      go (no f) l ih = later (ih l)
      go (yes f) l ih = by (Memᴰ.cases_cons l)
        where
          by : (i ≡ n) ⊎ Among (wave W n k) i → (i < suc n) × (round_of W i ≡ k)
          by (inl e) = (omega arith, ap (round_of W) e ∙ f)
          by (inr j) = later (ih j)

  wave-full : (k : ℕ) (ms : List ℕ) → NoMore k ms → NoLess k ms → Full W H ms (wave W (W * H) k)
  unfolding NoMore NoLess
  wave-full k ms u c = (all-among (Able W H ms) (wave W (W * H) k) able, all)
    where
      able : (i : ℕ) → Among (wave W (W * H) k) i → Able W H ms i
      able i m =
          let p = wave-of (W * H) k i m in
          (p.0, λ e. omega (arith, u i p.0 e, p.1), ready_by k ms c i p.0 (omega (arith, p.1)))

      all : (i : ℕ) → Able W H ms i → Among (wave W (W * H) k) i
      all i a = go (dec_lt (round_of W i) k)
        where
          go : Dec (round_of W i < k) → Among (wave W (W * H) k) i
          go (yes l) = absurd (a.1 (c i a.0 l))
          go (no l) = wave-in (W * H) k i a.0 (omega (arith, able-by k ms u i a))

  full-rounds : (n k : ℕ) (ms : List ℕ) → length ms ≡ W * H → NoMore k ms → NoLess k ms
      → (rounds : List (List ℕ)) × (end : List ℕ) × (length rounds ≡ n) × Schedule (Full W H) ms rounds end
  full-rounds zero k ms l u c = ([], ms, refl, over)
  full-rounds (suc n) k ms l u c =
      let is = wave W (W * H) k in
      let f = wave-full k ms u c in
      let r = full-rounds n (suc k) (mark_all is ms) (mark_all-length is ms ∙ l) (round-no-more k ms is u f.0) (round-no-less k ms is l c f) in
      (is ∷ r.0, r.1, ap suc r.2, next f r.3)

  -- ---- from nothing visited
  none_more : NoMore 0 (fresh W H)
  unfolding NoMore
  none_more i h m = absurd (fresh-none (W * H) i h m)

  none-less : NoLess 0 (fresh W H)
  unfolding NoLess
  none-less i h l = absurd (not-suc-le-zero l)

  from-fresh-no-more : {rounds : List (List ℕ)} {end : List ℕ} → Schedule (Allowed W H) (fresh W H) rounds end
      → (x y : ℕ) → x < W → y < H → Visited W end x y → earliest W x y < length rounds
  unfolding NoMore
  from-fresh-no-more {rounds = rounds} s x y hx hy m =
      omega (arith, schedule-no-more 0 none_more s (y * W + x) (index-lt W H x y hx hy) m, round-at W x y hx)

  from-fresh-no-less : {rounds : List (List ℕ)} {end : List ℕ} → Schedule (Full W H) (fresh W H) rounds end
      → (x y : ℕ) → x < W → y < H → earliest W x y < length rounds → Visited W end x y
  unfolding NoLess
  from-fresh-no-less {rounds = rounds} s x y hx hy l =
      schedule-no-less 0 (length-replicate (W * H) 0) none-less s (y * W + x) (index-lt W H x y hx hy) (omega (arith, round-at W x y hx))

  pub rounds-proved : Rounds W H
  rounds-proved = record {
    no-earlier = λ s x y hx hy m. from-fresh-no-more s x y hx hy m;
    no-fewer = λ {rounds} w h s all.
        omega (arith, last-round W H w h, from-fresh-no-more s (W - 1) (H - 1) (omega arith) (omega arith) (all (W - 1) (H - 1) (omega arith) (omega arith)));
    each-in-its-round = λ s x y hx hy. (from-fresh-no-more (full→allowed s) x y hx hy, from-fresh-no-less s x y hx hy);
    finished = λ s l x y hx hy. from-fresh-no-less s x y hx hy (omega (arith, earliest-within W H x y hx hy));
    full = λ k. full-rounds k 0 (fresh W H) (length-replicate (W * H) 0) none_more none-less;
  }
