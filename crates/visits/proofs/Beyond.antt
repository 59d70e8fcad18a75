-- Beyond demand 3, with valid data throughout: visits in rounds filter the picture, and two that are ready
-- may be made in either order. Assumes nothing.
use mathlib.Core.Path.{◌≡◌, sym, ◌∙◌}
use mathlib.Core.Logic.{◌≢◌}
use mathlib.Core.List.{List, [], ◌∷◌}
use Prim.Native.Nat.{ℕ, ◌*◌, ◌≤◌, ◌<◌}
use lib.ListN.{length}
use Rattle.edges.specs.Picture.{Planes, step_of, frame_of}
use Rattle.edges.proofs.Pictures.{frame-steps}
use Rattle.visits.specs.Visit.{At, State, fresh, run}
use Rattle.visits.specs.Beyond.{Bits}
use Rattle.visits.specs.Rounds.{Full, Schedule, as_requests, rounds_for}
use Rattle.pictures.specs.Checks.{Lent, held_of}
use Rattle.visits.specs.Checks.{early_of, Sound, Fit}
use Rattle.visits.specs.Promise.{visit_of, unvisited}
use Rattle.visits.proofs.Clauses.{done-tells}
use Rattle.visits.proofs.Commute as commute
use Rattle.visits.proofs.RoundsRun as rounds
use Rattle.visits.proofs.RoundsRun.{valid-visit}
use Rattle.visits.proofs.Instance.{asks-place, commutes, fit-kept, passes-valid}
use Rattle.visits.proofs.Demand3.{beyond-3}

module _ (d : Lent) (wide : 0 < d.size.w) (v : Sound d) where
  -- full rounds filter the whole picture: W + 2 * (H - 1) of them, H where W is 1
  pub rounds-filter : {rs : List (List ℕ)} {end : List ℕ} → Schedule (Full d.size.w d.size.h) (fresh d.size.w d.size.h) rs end
      → rounds_for d.size.w d.size.h ≤ length rs → (start : Planes) → Fit d start
      → (run (visit_of d) (as_requests d.size.w rs) (unvisited d start)).0 ≡ frame_of (held_of d) d.size.h start
  rounds-filter c l start f =
      rounds.rounds-filter d.size.w d.size.h (step_of (held_of d)) (early_of d) (asks-place d) (Fit d) (fit-kept d) (passes-valid d v) (beyond-3 d wide) c l start f
      ∙ sym (frame-steps (held_of d) d.size.h start)

  -- two visits that are both ready may be made in either order
  pub either_order : (s : State Planes) → Fit d s.0 → length s.1 ≡ d.size.w * d.size.h → Bits s.1 → (r q : At) → r ≢ q
      → (visit_of d s r).0 ≡ 0 → (visit_of d s q).0 ≡ 0 → run (visit_of d) (r ∷ q ∷ []) s ≡ run (visit_of d) (q ∷ r ∷ []) s
  either_order s f l b r q apart zr zq =
      (commute.either_order d.size.w d.size.h (step_of (held_of d)) (early_of d) (asks-place d) (commutes d wide) s r q apart zr zq (clear r q zq)
      (clear q r zr)).0
    where
      clear : (a c : At) → (visit_of d s c).0 ≡ 0 → early_of d (visit_of d s a).1 c ≡ 0
      clear a c z =
          let g =
          valid-visit d.size.w d.size.h (step_of (held_of d)) (early_of d) (asks-place d) (Fit d) (fit-kept d) (passes-valid d v) s a
          (record { valid = f; full = l; bits = b }) in
          let p = done-tells d.size.w d.size.h (step_of (held_of d)) (early_of d) (asks-place d) s c z in
          passes-valid d v (visit_of d s a).1 g.valid g.full g.bits c.0 c.1 p.column p.row
