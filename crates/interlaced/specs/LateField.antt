-- Apart: demand 3 does not ask for it. Data that arrive late, in a field: calls to one field between which
-- the caller goes on writing, and calls to the other field are made.
use Rattle.std.specs.Prelude.{ℕ, suc, ◌*◌, ◌<◌, List, [], ◌∷◌}
use Rattle.edges.specs.Fields.{Lengths, taken_out}
use Rattle.edges.specs.Picture.{Planes}
use Rattle.sizes.specs.declared.Part.TheVariants.{Field}
use Rattle.pictures.specs.Checks.{Lent}
use Rattle.visits.specs.Promise.{VisitOutcome}
use Rattle.visits.specs.Visit.{At, State}

-- calls to the field of parity q, each known by its contract alone: s is the field as a picture, with its
-- marks, as the last call to it left them. For the next call, number k, the caller lends e and the frame's
-- planes p: of the field's lines `May` says what they may be, as for a picture, and the other field's lines
-- may be anything
pub data FieldCallsWith (q : ℕ) (May : ℕ → State Planes → At → ℕ → Lent → Planes → Type 0) : ℕ → State Planes → List At → List ℕ → State Planes → Type 0 where
  last-of-field : {k : ℕ} {s : State Planes} → FieldCallsWith q May k s [] [] s
  call-of-field : {k : ℕ} {s t u : State Planes} {r : At} {n : ℕ} {e : Lent} {p : Planes} {rs : List At} {said : List ℕ}
      → 0 < e.size.w → Lengths (2 * (e.size.w * e.size.h)) p → May k s r n e (taken_out e.size q p) → VisitOutcome (Field q) e (p, s.1) r n t
      → FieldCallsWith q May (suc k) (taken_out e.size q t.0, t.1) rs said u → FieldCallsWith q May k s (r ∷ rs) (n ∷ said) u
