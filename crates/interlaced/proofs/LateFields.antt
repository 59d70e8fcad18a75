-- Data that arrive between visits, in fields: calls to a field are calls to the picture that it is, so what
-- holds of pictures holds of it, whatever the other field's lines hold. Assumes nothing.
use mathlib.Core.List.{List}
use Prim.Native.Nat.{ℕ, ◌<◌}
use Rattle.edges.specs.Picture.{Planes}
use Rattle.pictures.specs.Checks.{Lent}
use Rattle.visits.specs.Checks.{Sound, Fit}
use Rattle.visits.specs.Late.{CallsWith, last, call, Lends, Writes, AsIfThere}
use Rattle.visits.specs.Promise.{unvisited}
use Rattle.visits.specs.Visit.{At, State}
use Rattle.visits.proofs.LateArrivals.{written_once}
use Rattle.visits.proofs.LateRun.{late}
use Rattle.interlaced.specs.LateField.{FieldCallsWith, last-of-field, call-of-field}
use Rattle.interlaced.proofs.OneField.{as-picture}

pub as-pictures : {q : ℕ} → q < 2 → {May : ℕ → State Planes → At → ℕ → Lent → Planes → Type 0} {k : ℕ} {s t : State Planes} {rs : List At} {said : List ℕ}
    → FieldCallsWith q May k s rs said t → CallsWith May k s rs said t
as-pictures h last-of-field = last
as-pictures {q} h (call-of-field {s = s} {e = e} {p = p} wide f may o more) = call may (as-picture e wide q h (p, s.1) f o) (as-pictures h more)

-- first: what the field's lines hold before the first call to it, where nothing need have arrived
module _ (d : Lent) (sound : Sound d) (start first : Planes) (f : Fit d start) (g : Fit d first) {q : ℕ} (parity : q < 2) {rs : List At} {said : List ℕ} {now : State Planes} where
  pub late-field : FieldCallsWith q (λ k. Lends d start) 0 (unvisited d first) rs said now → AsIfThere d start rs said now
  late-field c = late d sound start first f g (as-pictures parity c)

  -- .. where each macroblock is written once, before its visit
  pub written-once-field : (when : ℕ → ℕ) → FieldCallsWith q (Writes d start when) 0 (unvisited d first) rs said now → AsIfThere d start rs said now
  written-once-field when c = late d sound start first f g (written_once d start when first f g (as-pictures parity c))
