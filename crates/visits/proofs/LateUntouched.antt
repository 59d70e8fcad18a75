-- Visits leave the samples of macroblocks that are not marked as they are, so what the caller writes there
-- stays until its visit. Assumes nothing.
use mathlib.Core.Path.{◌≡◌, sym, subst}
use mathlib.Core.Logic.{◌⊎◌, inl, inr}
use mathlib.Core.List.{List, [], ◌∷◌}
use Prim.Native.Nat.{ℕ, ◌*◌, ◌/◌, ◌%◌, ◌<◌}
use native.Mathlib.Decide.{ℕ_discrete}
use native.Mathlib.Omega.{arith}
use lib.ListN.{length}
use Rattle.laws.specs.Order.{Ready, Dep}
use Rattle.laws.specs.Raster.{Marked}
use Rattle.laws.proofs.Grid.{index-lt}
use Rattle.laws.proofs.Raster.{mark-same}
use Rattle.edges.specs.Picture.{Planes}
use Rattle.pictures.specs.Checks.{Lent}
use Rattle.sizes.specs.declared.Part.TheVariants.{Frame}
use Rattle.visits.specs.Visit.{At, State, run}
use Rattle.visits.specs.Checks.{early_in, early_of}
use Rattle.visits.specs.Late.{SameAt, SamplesOf, NearFoot, of_request}
use Rattle.visits.specs.Promise.{visit_of}
use Rattle.visits.proofs.Late.{refused-here, done-here, rest-stays, same-itself}
use Rattle.visits.proofs.LatePlaces.{same_after, same-less, touch-ready}
use Rattle.visits.proofs.Marks.{visited-stays}
use Rattle.visits.proofs.Neighbours.{free→ready}
use Rattle.visits.proofs.VisitFits.{checked-visit-fits}

-- ---- a visit that is done
module _ (d : Lent) (s : State Planes) (r : At) (z : (visit_of d s r).0 ≡ 0) where
  abbrev i : ℕ
  i = of_request d r

  full-here : early_of d s r ≡ 0 → length s.1 ≡ d.size.w * d.size.h
  unfolding early_in
  full-here e = (checked-visit-fits Frame d (length s.0.luma) (length s.0.u) (length s.0.v) s.1 r e).marks

  pub ready-here : Ready (Dep d.size.w) s.1 i
  ready-here = let k = done-here d s r z in free→ready d.size.w d.size.h s.1 r.0 r.1 k.column k.row k.ready

  -- what it touches is its own or marked
  pub touched-here : (N k : ℕ) → NearFoot d.size.w i N k → SamplesOf d.size.w (λ j. j ≡ i) N k ⊎ SamplesOf d.size.w (Marked s.1) N k
  touched-here N k =
      let wide : 0 < d.size.w = omega (arith, (done-here d s r z).column) in
      touch-ready d.size.w i s.1 wide ready-here (k % (N * d.size.w) / N) (k / (N * d.size.w) / N)

  -- its own mark is set
  own-marked : Marked (visit_of d s r).1.1 i
  own-marked =
      let k = done-here d s r z in
      rw k.after (mark-same s.1 i (omega (arith, full-here k.early-passed, index-lt d.size.w d.size.h r.0 r.1 k.column k.row)))

module _ (d : Lent) where
  -- a mark stays
  pub mark-kept : (s : State Planes) (r : At) (j : ℕ) → Marked s.1 j → Marked (visit_of d s r).1.1 j
  mark-kept s r j m = go (ℕ_discrete (visit_of d s r).0 0)
    where
      go : Dec ((visit_of d s r).0 ≡ 0) → Marked (visit_of d s r).1.1 j
      go (no n) = rw (refused-here d s r n) m
      go (yes z) = rw (done-here d s r z).after (visited-stays s.1 (of_request d r) j m)

  -- a visit changes no sample of a macroblock that is unmarked afterwards, whatever the state
  pub unmarked-stay : (s : State Planes) (r : At) → SameAt (SamplesOf d.size.w (λ j. Marked (visit_of d s r).1.1 j → ⊥)) s.0 (visit_of d s r).1.0
  unmarked-stay s r = go (ℕ_discrete (visit_of d s r).0 0)
    where
      go : Dec ((visit_of d s r).0 ≡ 0) → SameAt (SamplesOf d.size.w (λ j. Marked (visit_of d s r).1.1 j → ⊥)) s.0 (visit_of d s r).1.0
      go (no n) = rw (refused-here d s r n) (same-itself s.0)
      go (yes z) = same-less (λ N k u f. at N k u (touched-here d s r z N k f)) (rest-stays d s r).planes
        where
          at : (N k : ℕ) → (SamplesOf d.size.w (Marked (visit_of d s r).1.1) N k → ⊥)
              → SamplesOf d.size.w (λ j. j ≡ of_request d r) N k ⊎ SamplesOf d.size.w (Marked s.1) N k → ⊥
          at N k u (inl e) = u (subst (Marked (visit_of d s r).1.1) (sym e) (own-marked d s r z))
          at N k u (inr m) = u (mark-kept s r _ m)

  pub run-kept : (rs : List At) (s : State Planes) (j : ℕ) → Marked s.1 j → Marked (run (visit_of d) rs s).1 j
  run-kept [] s j m = m
  run-kept (r ∷ rs) s j m = run-kept rs (visit_of d s r).1 j (mark-kept s r j m)

  -- .. nor do any visits one after the other
  pub untouched : (rs : List At) (s : State Planes) → SameAt (SamplesOf d.size.w (λ j. Marked (run (visit_of d) rs s).1 j → ⊥)) s.0 (run (visit_of d) rs s).0
  untouched [] s = same-itself s.0
  untouched (r ∷ rs) s =
      same_after (same-less (λ N k u m. u (run-kept rs (visit_of d s r).1 _ m)) (unmarked-stay s r)) (untouched rs (visit_of d s r).1)
