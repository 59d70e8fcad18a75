-- Demand 3 clause by clause, of `visit` at any state: each answer exactly, and what is left afterwards.
-- Assumes nothing.
use mathlib.Core.Path.{◌≡◌, sym, ◌∙◌}
use mathlib.Core.Logic.{◌≢◌, ◌↔◌}
use Prim.Native.Nat.{ℕ, ◌+◌, ◌*◌, ◌≤◌, ◌<◌}
use native.Mathlib.Nat.{le_refl}
use native.Mathlib.Omega.{arith}
use borrow.Author.Tests.{eq-eqb, ne_eqb}
use lib.Dec.{eqb}
use lib.ListN.{get_or, set}
use Rattle.laws.proofs.Cond.{cond_both}
use Rattle.visits.specs.Visit.{At, State, answer, visit}
use Rattle.visits.specs.AnyOrder.{Visited, Unvisited, Waits}
use Rattle.visits.specs.Instance.{AsksPlace}
use Rattle.visits.specs.Beyond.{Bits}
use Rattle.visits.proofs.Marks.{set-kept}
use Rattle.visits.proofs.Verdict.{Verdict, earlier, already, waits, free, verdict}

module _ (W : ℕ) {S : Type 0} (step : ℕ → S → S) (early : State S → At → ℕ) where
  pub earlier-first : (s : State S) (r : At) → early s r ≢ 0 → (visit W step early s r).0 ≡ early s r
  unfolding visit answer
  earlier-first s r h = rw (ne_eqb (early s r) 0 h)

  pub refused-unchanged : (s : State S) (r : At) → (visit W step early s r).0 ≢ 0 → (visit W step early s r).1 ≡ s
  unfolding visit
  refused-unchanged s r h = rw (ne_eqb (answer W early s r) 0 h)

  pub sets-own-mark : (s : State S) (x y : ℕ) → (visit W step early s (x, y)).0 ≡ 0 → (visit W step early s (x, y)).1.1 ≡ set s.1 (y * W + x) 1
  unfolding visit
  sets-own-mark s x y e = rw (eq-eqb (answer W early s (x, y)) 0 e)

  pub marks-kept : (s : State S) (r : At) → Bits s.1 → (i : ℕ) → get_or s.1 i 0 ≤ get_or (visit W step early s r).1.1 i 0
  unfolding visit
  marks-kept s r b i =
      cond_both (λ (t : State S). get_or s.1 i 0 ≤ get_or t.1 i 0) (eqb (answer W early s r) 0)
      (set-kept s.1 (r.1 * W + r.0) b i) (le_refl (get_or s.1 i 0))

module _
    (W H : ℕ)
    {S : Type 0}
    (step : ℕ → S → S)
    (early : State S → At → ℕ)
    (inside : AsksPlace W H early) where
  module _ (s : State S) (x y : ℕ) (e : early s (x, y) ≡ 0) where
    pub not-ready-exactly : Unvisited W s.1 x y → ((visit W step early s (x, y)).0 ≡ 14) ↔ Waits W H s.1 x y
    unfolding visit
    not-ready-exactly u = (λ k. fwd (answer W early s (x, y)) k v, λ w. bwd (answer W early s (x, y)) w v)
      where
        v : Verdict W H early s (x, y) (answer W early s (x, y))
        v = verdict W H early inside s (x, y)

        fwd : (n : ℕ) → n ≡ 14 → Verdict W H early s (x, y) n → Waits W H s.1 x y
        fwd n k (earlier d l) = absurd (d e)
        fwd n k (already d m l) = absurd (omega arith)
        fwd n k (waits d m w l) = w
        fwd n k (free d m f l) = absurd (omega arith)

        bwd : (n : ℕ) → Waits W H s.1 x y → Verdict W H early s (x, y) n → n ≡ 14
        bwd n w (earlier d l) = absurd (d e)
        bwd n w (already d m l) = absurd (u m)
        bwd n w (waits d m _ l) = l
        bwd n w (free d m f l) = absurd (f w)

    pub already-exactly : ((visit W step early s (x, y)).0 ≡ 13) ↔ Visited W s.1 x y
    unfolding visit
    already-exactly = (λ k. fwd (answer W early s (x, y)) k v, λ m. bwd (answer W early s (x, y)) m v)
      where
        v : Verdict W H early s (x, y) (answer W early s (x, y))
        v = verdict W H early inside s (x, y)

        fwd : (n : ℕ) → n ≡ 13 → Verdict W H early s (x, y) n → Visited W s.1 x y
        fwd n k (earlier d l) = absurd (d e)
        fwd n k (already d m l) = m
        fwd n k (waits d m w l) = absurd (omega arith)
        fwd n k (free d m f l) = absurd (omega arith)

        bwd : (n : ℕ) → Visited W s.1 x y → Verdict W H early s (x, y) n → n ≡ 13
        bwd n k (earlier d l) = absurd (d e)
        bwd n k (already d m l) = l
        bwd n k (waits d m w l) = absurd (m k)
        bwd n k (free d m f l) = absurd (m k)

    pub done-where-ready : Unvisited W s.1 x y → (Waits W H s.1 x y → ⊥) → (visit W step early s (x, y)).0 ≡ 0
    unfolding visit
    done-where-ready u f = go (answer W early s (x, y)) (verdict W H early inside s (x, y))
      where
        go : (n : ℕ) → Verdict W H early s (x, y) n → n ≡ 0
        go n (earlier d l) = absurd (d e)
        go n (already d m l) = absurd (u m)
        go n (waits d m w l) = absurd (f w)
        go n (free d m g l) = l

  -- what the answer 0 tells
  pub record Done (s : State S) (r : At) : Type 0 where
    pub early-passed : early s r ≡ 0
    pub column : r.0 < W
    pub row : r.1 < H
    pub unvisited : Unvisited W s.1 r.0 r.1
    pub ready : Waits W H s.1 r.0 r.1 → ⊥
    pub after : (visit W step early s r).1 ≡ (step (r.1 * W + r.0) s.0, set s.1 (r.1 * W + r.0) 1)

  pub done-tells : (s : State S) (r : At) → (visit W step early s r).0 ≡ 0 → Done s r
  unfolding visit
  done-tells s r z = go (answer W early s r) z (verdict W H early inside s r)
    where
      go : (n : ℕ) → n ≡ 0 → Verdict W H early s r n → Done s r
      go n k (earlier d l) = absurd (d (sym l ∙ k))
      go n k (already d m l) = absurd (omega arith)
      go n k (waits d m w l) = absurd (omega arith)
      go n k (free d m f l) = record {
        early-passed = d;
        column = (inside s r d).0;
        row = (inside s r d).1;
        unvisited = m;
        ready = f;
        after = rw (eq-eqb (answer W early s r) 0 z);
      }
