-- Demand 3 holds of `visit`, for any filter whose steps commute unless the later waits for the earlier.
-- Assumes nothing.
use mathlib.Core.Path.{◌≡◌, sym, ap, ◌∙◌}
use mathlib.Core.Logic.{◌≢◌}
use mathlib.Core.List.{List, [], ◌∷◌}
use Prim.Native.Nat.{ℕ, ◌+◌, ◌*◌}
use native.Mathlib.Omega.{arith}
use borrow.Author.Tests.{eq-eqb, ne_eqb}
use lib.ListN.{length, length-set, length-replicate}
use Rattle.laws.specs.Raster.{raster}
use Rattle.laws.specs.Order.{Closed, Dep}
use Rattle.laws.proofs.Raster.{raster-none, raster-all, insertion, closed_none}
use Rattle.laws.proofs.Grid.{index-lt}
use Rattle.visits.specs.Visit.{At, State, fresh, answer, serve, visit, run, itself}
use Rattle.visits.specs.AnyOrder.{Demand3}
use Rattle.visits.specs.Instance.{AsksPlace, Commutes}
use Rattle.visits.specs.Beyond.{Bits, Beyond3}
use Rattle.visits.proofs.Neighbours.{free→ready, all→index}
use Rattle.visits.proofs.Marks.{set-bits, fresh-bits, fresh-none, some-free}
use Rattle.visits.proofs.Verdict.{Verdict, earlier, already, waits, free, verdict}
use Rattle.visits.proofs.Clauses.{not-ready-exactly, already-exactly, done-where-ready, earlier-first, refused-unchanged, sets-own-mark, marks-kept}

module _
    (W H : ℕ)
    {S : Type 0}
    (step : ℕ → S → S)
    (early : State S → At → ℕ)
    (inside : AsksPlace W H early)
    (swap : Commutes W step) where
  -- what each visit keeps
  pub record Inv (start : S) (s : State S) : Type 0 where
    pub full : length s.1 ≡ W * H
    pub bits : Bits s.1
    pub closed : Closed (Dep W) (W * H) s.1
    pub planes : s.0 ≡ raster step (W * H) s.1 start

  pub inv-start : (start : S) → Inv start (start, fresh W H)
  inv-start start = record {
    full = length-replicate (W * H) 0;
    bits = fresh-bits (W * H);
    closed = closed_none (Dep W) (W * H) (fresh W H) (fresh-none (W * H));
    planes = sym (raster-none step (W * H) (fresh W H) start (fresh-none (W * H)));
  }

  pub inv-visit : (start : S) (s : State S) (r : At) → Inv start s → Inv start (visit W step early s r).1
  unfolding visit
  inv-visit start s r v = go (answer W early s r) (verdict W H early inside s r)
    where
      m : ℕ
      m = r.1 * W + r.0

      back : (n : ℕ) → n ≢ 0 → Inv start (serve W step n s r)
      back n h = rw (ne_eqb n 0 h) v

      go : (n : ℕ) → Verdict W H early s r n → Inv start (serve W step n s r)
      go n (earlier e k) = back n (λ l. e (sym k ∙ l))
      go n (already e k l) = back n (omega arith)
      go n (waits e u w l) = back n (omega arith)
      go n (free e u f l) =
          let b = inside s r e in
          let i = insertion step (Dep W) swap (W * H) s.1 m start v.full (index-lt W H r.0 r.1 b.0 b.1) v.closed u
          (free→ready W H s.1 r.0 r.1 b.0 b.1 f) in
          rw (eq-eqb n 0 l) (record {
            full = length-set s.1 m 1 ∙ v.full;
            bits = set-bits s.1 m v.bits;
            closed = i.1;
            planes = ap (step m) v.planes ∙ i.0;
          })

  pub inv-run : (start : S) (rs : List At) (s : State S) → Inv start s → Inv start (run (visit W step early) rs s)
  inv-run start [] s v = v
  inv-run start (r ∷ rs) s v = inv-run start rs (visit W step early s r).1 (inv-visit start s r v)

  -- ---- at each state that requests lead to
  at-run : (start : S) (rs : List At) → Inv start (run (visit W step early) rs (start, fresh W H))
  at-run start rs = inv-run start rs (start, fresh W H) (inv-start start)

  pub any_order : Demand3 W H step early itself (visit W step early)
  any_order start rs = record {
    own-mark = sets-own-mark W step early now;
    refused = refused-unchanged W step early now;
    not-ready = not-ready-exactly W H step early inside now;
    done = done-where-ready W H step early inside now;
    planes = (at-run start rs).planes;
    some-ready = some-free W H now.1;
  }
    where
      now : State S
      now = run (visit W step early) rs (start, fresh W H)

  pub beyond : Beyond3 W H step early itself (visit W step early)
  beyond start rs = record {
    whole = λ all. v.planes ∙ raster-all step (W * H) now.1 start (all→index W H now.1 all);
    earlier = earlier-first W step early now;
    already = already-exactly W H step early inside now;
    full = v.full;
    bits = v.bits;
    kept = λ r i. marks-kept W step early now r v.bits i;
  }
    where
      now : State S
      now = run (visit W step early) rs (start, fresh W H)

      v : Inv start now
      v = at-run start rs
