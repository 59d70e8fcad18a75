-- Data that arrive between the calls: all comes out as if they had been there from the first call on. Assumes
-- nothing.
use mathlib.Core.Path.{◌≡◌, refl, sym, ap, subst, ◌∙◌}
use mathlib.Core.List.{List, [], ◌∷◌}
use Prim.Native.Nat.{ℕ, suc, ◌*◌}
use lib.ListN.{length-replicate}
use Rattle.laws.specs.Raster.{Marked, raster}
use Rattle.edges.specs.Picture.{Planes, step_of, frame_of}
use Rattle.sizes.proofs.Sized.{sized}
use Rattle.slices.specs.Slicing.{Slicing, single, sliced}
use Rattle.pictures.specs.Checks.{Lent, held_of}
use Rattle.visits.specs.Visit.{At, State, run, answers}
use Rattle.visits.specs.AnyOrder.{AllVisited}
use Rattle.visits.specs.Checks.{Sound, Fit}
use Rattle.visits.specs.Late.{SameAt, SamplesOf, SameKind, both-single, both-sliced, CallsWith, LateCalls, Lends, last, call, AsIfThere}
use Rattle.visits.specs.Promise.{visit_of, unvisited}
use Rattle.visits.proofs.Demand3.{demand-3, same-as-whole}
use Rattle.visits.proofs.Late.{done-here, same-itself}
use Rattle.visits.proofs.LateAnswer.{valid-legal}
use Rattle.visits.proofs.LatePlaces.{none-marked, nowhere-same, same-less, same_whole}
use Rattle.visits.proofs.LateTurn.{Alongside, turn}
use Rattle.visits.proofs.Marks.{fresh-bits}
use Rattle.visits.proofs.Neighbours.{all→index}
use Rattle.visits.proofs.Outcome.{outcome-of-visit}

-- slices are of the same kind as themselves
same_kind : (sl : Slicing) → SameKind sl sl
same_kind (single o) = both-single
same_kind (sliced c t ns) = both-sliced refl

module _ (d : Lent) (sound : Sound d) (start : Planes) where
  -- from any two states that go along with each other
  pub late-from : {k : ℕ} {s t now : State Planes} {rs : List At} {said : List ℕ} → Alongside d start s t → CallsWith (λ k. Lends d start) k t rs said now
      → (said ≡ answers (visit_of d) rs s) × Alongside d start (run (visit_of d) rs s) now
  late-from a last = (refl, a)
  late-from {s} a (call {r = r} {rs = rs} c o more) =
      let k = turn d sound start a c o in
      let l = late-from k.1 more in
      (λ i. k.0 i ∷ l.0 i, l.1)

  there-from : (k : ℕ) (rs : List At) (s : State Planes) → Alongside d start s s → CallsWith (λ k. Lends d start) k s rs (answers (visit_of d) rs s) (run (visit_of d) rs s)
  there-from k [] s a = last
  there-from k (r ∷ rs) s a = call lends outcome-of-visit (there-from (suc k) rs (visit_of d s r).1 (turn d sound start a lends outcome-of-visit).1)
    where
      lends : Lends d start s r (visit_of d s r).0 d s.0
      lends = record {
        shape = record { size = refl; slicing = same_kind d.slicing; strengths = refl; qps = refl; t8s = refl };
        legal = valid-legal d sound s r a.fit a.full a.bits;
        marked-samples = same-itself s.0;
        marked-near = λ i m. record { qp = refl; number = refl };
        own-samples = λ z. same-less (λ N k e m. (done-here d s r z).unvisited (subst (Marked s.1) e m)) a.unmarked;
        own-data = λ z. record { near = record { qp = refl; number = refl }; strengths = λ k h. refl; flag = refl; slice = refl };
      }

  -- before the first call nothing is marked, so the planes may hold anything
  pub alongside-first : (first : Planes) → Fit d start → Fit d first → Alongside d start (unvisited d start) (unvisited d first)
  alongside-first first f g = record {
    marks = refl;
    same = nowhere-same d f g (λ N k m. none-marked (d.size.w * d.size.h) _ m);
    unmarked = same-itself start;
    full = length-replicate (d.size.w * d.size.h) 0;
    bits = fresh-bits (d.size.w * d.size.h);
    fit = f;
  }

  -- first: what the planes hold before the first call, where nothing need have arrived
  pub late : (first : Planes) → Fit d start → Fit d first → {rs : List At} {said : List ℕ} {now : State Planes}
      → LateCalls d start (unvisited d first) rs said now → AsIfThere d start rs said now
  late first f g {now = now} c =
      let k = late-from (alongside-first first f g) c in
      record { numbers = k.0; marks = sym k.1.marks; planes = rw (← k.1.marks) k.1.same }

  -- the samples of marked macroblocks are those that filtering just these in raster order gives
  pub late-raster : (first : Planes) → Fit d start → Fit d first → {rs : List At} {said : List ℕ} {now : State Planes}
      → LateCalls d start (unvisited d first) rs said now
      → SameAt (SamplesOf d.size.w (Marked now.1)) (raster (step_of (held_of d)) (d.size.w * d.size.h) now.1 start) now.0
  late-raster first f g {rs} {now = now} c =
      let k = late first f g c in
      let wide = (sized d.size sound.sides).both.wide in
      let e = (demand-3 d wide start rs).planes ∙ ap (λ (ms : List ℕ). raster (step_of (held_of d)) (d.size.w * d.size.h) ms start) (sym k.marks) in
      subst (λ (p : Planes). SameAt (SamplesOf d.size.w (Marked now.1)) p now.0) e k.planes

  -- all visited: the whole picture, filtered as all data say
  pub late-whole : (first : Planes) → Fit d start → Fit d first → {rs : List At} {said : List ℕ} {now : State Planes}
      → LateCalls d start (unvisited d first) rs said now → AllVisited d.size.w d.size.h now.1 → now.0 ≡ frame_of (held_of d) d.size.h start
  late-whole first f g {rs} {now = now} c all =
      let k = (late-from (alongside-first first f g) c).1 in
      let there = run (visit_of d) rs (unvisited d start) in
      let wide = (sized d.size sound.sides).both.wide in
      let every = subst (AllVisited d.size.w d.size.h) (sym k.marks) all in
      sym (same_whole d (Marked there.1) there.0 now.0 wide k.fit (all→index d.size.w d.size.h there.1 every) k.same)
      ∙ same-as-whole d wide start rs every

  -- visits with all data there from the first call on are such calls
  pub all_there : Fit d start → (rs : List At) → LateCalls d start (unvisited d start) rs (answers (visit_of d) rs (unvisited d start)) (run (visit_of d) rs (unvisited d start))
  all_there f rs = there-from 0 rs (unvisited d start) (alongside-first start f f)
