-- When a macroblock of a field may be shown: from the moment it is said to be final, by the marks of its own
-- field, none of its samples changes again, whatever requests to either field follow, and each is the whole
-- filtered field's. Assumes nothing.
use mathlib.Core.Path.{◌≡◌, sym, ap, subst, ◌∙◌}
use mathlib.Core.Bool.{true, not, ◌&&◌}
use mathlib.Core.List.{List}
use Prim.Native.Nat.{ℕ, ◌+◌, ◌*◌, ◌<◌}
use lib.Dec.{ltb}
use lib.ListN.{length}
use Rattle.edges.specs.Fields.{Lengths, taken_out}
use Rattle.edges.specs.Picture.{Planes, frame_of}
use Rattle.sizes.specs.declared.Size.{Size}
use Rattle.pictures.specs.Checks.{Lent, held_of}
use Rattle.visits.specs.Checks.{Sound, Fit}
use Rattle.visits.specs.Late.{Lends, Writes}
use Rattle.visits.specs.Promise.{visit_of, unvisited}
use Rattle.visits.specs.Visit.{At, State, fresh, run}
use Rattle.visits.proofs.LatePlaces.{none-marked}
use Rattle.finality.specs.Final.{has_right, has_lower, finality_of, finals, finals_of}
use Rattle.finality.specs.Settled.{Settled}
use Rattle.finality.proofs.Exactly.{yes-tells}
use Rattle.finality.proofs.InSequence.{made-in-sequence}
use Rattle.finality.proofs.LateSettled.{late-settled, written-settled}
use Rattle.finality.proofs.Settled.{final-settled}
use Rattle.interlaced.specs.Alone.{only}
use Rattle.interlaced.specs.Both.{Arrival, OfField, Both, marks_for, unvisited_both, lent_for, both_visit, both_after}
use Rattle.interlaced.specs.BothCalls.{BothCalls}
use Rattle.interlaced.specs.LateField.{FieldCallsWith}
use Rattle.interlaced.proofs.Apart.{all_valid, own-run}
use Rattle.interlaced.proofs.ByContracts.{both-calls-run}
use Rattle.interlaced.proofs.EachAlone.{field_in, each-alone}
use Rattle.interlaced.proofs.FieldsDemand3.{marks-fresh, dec_lengths, field-run, stays}
use Rattle.interlaced.proofs.LateFields.{as-pictures}

module _ (size : Size) (top bottom : OfField) (start : Planes) (rs later : List Arrival) (p : ℕ) (parity : p < 2) (x y : ℕ) where
  abbrev d : Lent
  d = lent_for size top bottom p

  abbrev now : Both
  now = both_after size top bottom start rs

  abbrev end : Both
  end = run (both_visit size top bottom) later now

  abbrev FieldSettled : Type 0
  FieldSettled = Settled size.w x y (frame_of (held_of d) size.h (taken_out size p start)) (taken_out size p now.frame) (taken_out size p end.frame)

  -- the field is the picture after its own requests
  module _ (wide : 0 < size.w) (valid : Lengths (2 * (size.w * size.h)) start) where
    abbrev picture : State Planes
    picture = run (visit_of d) (only p rs) (unvisited d (taken_out size p start))

    now-is : field_in size top bottom wide p now ≡ picture
    now-is = field-run size top bottom wide start valid p parity rs

    end_is : field_in size top bottom wide p end ≡ run (visit_of d) (only p later) picture
    end_is =
        let alone = each-alone size top bottom wide p parity in
        own-run alone later now (all_valid alone rs (unvisited_both size start) valid) ∙ ap (run (visit_of d) (only p later)) now-is

    by-picture : (finality_of size (marks_for p now) x y).yes ≡ true → FieldSettled
    by-picture e =
        let yes-there = subst (λ (s : State Planes). (finality_of size s.1 x y).yes ≡ true) now-is e in
        let k = final-settled d (taken_out size p start) (only p rs) (only p later) x y yes-there in
        subst (λ (s : State Planes). Settled size.w x y (frame_of (held_of d) size.h (taken_out size p start)) s.0 (taken_out size p end.frame)) (sym now-is)
        (subst (λ (s : State Planes). Settled size.w x y (frame_of (held_of d) size.h (taken_out size p start)) picture.0 s.0) (sym end_is) k)

  -- with planes of wrong lengths no request is done, so nothing becomes final
  settled : (finality_of size (marks_for p now) x y).yes ≡ true → FieldSettled
  settled e = go (dec_lengths (2 * (size.w * size.h)) start)
    where
      wide : 0 < size.w
      wide = (yes-tells size (marks_for p now) x y e).0.sides.both.wide

      go : Dec (Lengths (2 * (size.w * size.h)) start) → FieldSettled
      go (yes valid) = by-picture wide valid e
      go (no wrong) =
          let none = ap (marks_for p) (stays size top bottom wide start wrong rs) ∙ marks-fresh size start p in
          let k = subst (λ (ms : List ℕ). (finality_of size ms x y).yes ≡ true) none e in
          absurd (none-marked (size.w * size.h) (y * size.w + x) (yes-tells size (fresh size.w size.h) x y k).1.own)

-- ---- the promise, of the visits that the code makes; and of any calls that keep the contract of `visit`
pub field-settled : (size : Size) (top bottom : OfField) (start : Planes) (rs later : List Arrival) (p : ℕ) → p < 2 → (x y : ℕ) → let now = both_after size top bottom start rs in
    (finality_of size (marks_for p now) x y).yes ≡ true
    → Settled size.w x y (frame_of (held_of (lent_for size top bottom p)) size.h (taken_out size p start)) (taken_out size p now.frame)
    (taken_out size p (run (both_visit size top bottom) later now).frame)
field-settled = settled

pub field-final-of-calls : (size : Size) (top bottom : OfField) {start : Planes} {rs later : List Arrival} {said after : List ℕ} {now end : Both} (p : ℕ) → p < 2 → (x y : ℕ)
    → BothCalls size top bottom (unvisited_both size start) rs said now → BothCalls size top bottom now later after end → (finality_of size (marks_for p now) x y).yes ≡ true
    → Settled size.w x y (frame_of (held_of (lent_for size top bottom p)) size.h (taken_out size p start)) (taken_out size p now.frame) (taken_out size p end.frame)
field-final-of-calls size top bottom {start} {rs} {later} p h x y before after e =
    let b = (both-calls-run before).0 in
    let a = (both-calls-run after).0 in
    rw (a, b) (field-settled size top bottom start rs later p h x y (rw b at e))

-- ---- the same where data arrive between the calls to the field
pub late-field-settled : (d : Lent) → Sound d → (start first : Planes) → Fit d start → Fit d first → {q : ℕ} → q < 2
    → {rs later : List At} {said after : List ℕ} {now end : State Planes} {k : ℕ} (x y : ℕ)
    → FieldCallsWith q (λ j. Lends d start) 0 (unvisited d first) rs said now → FieldCallsWith q (λ j. Lends d start) k now later after end
    → (finality_of d.size now.1 x y).yes ≡ true → Settled d.size.w x y (frame_of (held_of d) d.size.h start) now.0 end.0
late-field-settled d sound start first f g parity x y before after = late-settled d sound start first f g x y (as-pictures parity before) (as-pictures parity after)

pub written-field-settled : (d : Lent) → Sound d → (start first : Planes) → Fit d start → Fit d first → (when : ℕ → ℕ) → {q : ℕ} → q < 2
    → {rs later : List At} {said after : List ℕ} {now end : State Planes} (x y : ℕ)
    → FieldCallsWith q (Writes d start when) 0 (unvisited d first) rs said now → FieldCallsWith q (Writes d start when) (length rs) now later after end
    → (finality_of d.size now.1 x y).yes ≡ true → Settled d.size.w x y (frame_of (held_of d) d.size.h start) now.0 end.0
written-field-settled d sound start first f g when parity x y before after = written-settled d sound start first f g when x y (as-pictures parity before) (as-pictures parity after)

-- ---- what a visit of a field makes final is known beforehand, as in a frame
pub field-made-in-sequence : (size : Size) (top bottom : OfField) → 0 < size.w → (start : Planes) → Lengths (2 * (size.w * size.h)) start → (rs : List Arrival) (p : ℕ) → p < 2 → (x y : ℕ)
    → let now = both_after size top bottom start rs in (both_visit size top bottom now (p, (x, y))).0 ≡ 0
    → finals_of size (marks_for p (both_visit size top bottom now (p, (x, y))).1) x y ≡ finals 0 (not (has_right size x) && not (has_lower size y)) (ltb 0 x && not (has_lower size y)) (ltb 0 y)
field-made-in-sequence size top bottom wide start valid rs p parity x y z =
    let now = both_after size top bottom start rs in
    let d = lent_for size top bottom p in
    let alone = each-alone size top bottom wide p parity in
    let v = all_valid alone rs (unvisited_both size start) valid in
    let e = field-run size top bottom wide start valid p parity rs in
    let done = sym (alone.says now (x, y) v ∙ ap (λ (s : State Planes). (visit_of d s (x, y)).0) e) ∙ z in
    ap (λ (s : State Planes). finals_of size s.1 x y) (alone.own now (x, y) v ∙ ap (λ (s : State Planes). (visit_of d s (x, y)).1) e)
    ∙ made-in-sequence d (taken_out size p start) (only p rs) x y done
