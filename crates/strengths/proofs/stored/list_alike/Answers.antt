use Rattle.std.proofs.Common.{◌≡◌, ◌+◌, ◌*◌, ◌&&◌, ◌||◌, length, not, sym, ◌∙◌, arith, rules}
use borrow.Author.Tests.{eqb-true, eqb-false}
use Rattle.laws.specs.Equal.{eq_z}
use Rattle.laws.specs.Some.{every}
use Rattle.motion.specs.Motion.{equal_motion}
use Rattle.strengths.specs.Inner.{stored_motion, one_stored}
use Rattle.strengths.proofs.ReadPlaces.{square_within}
use Rattle.strengths.proofs.OwnAlike.{none-stored, walked-apart}
use Rattle.strengths.proofs.stored.list_alike.Goals as goal

pub returns-then-is_empty : goal.returns-then-is_empty
returns-then-is_empty c =
    let l = c.args.list.now in
    let a = c.args.square in
    let e : length l.references.now ≡ 0 = eqb-true _ _ (sym c.is_empty.ensures ∙ c.if-is_empty.true) in
    none-stored l.references.now l.vectors.now a.at a.stride (omega (arith, e)) (omega (arith, c.requires.empty e))

pub some_own-references-requires-clause-asked : goal.some_own-references-requires-clause-asked
some_own-references-requires-clause-asked c =
    let l = c.args.list.now in
    let a = c.args.square in
    let e : length l.references.now ≡ 0 → ⊥ = eqb-false (length l.references.now) 0 (sym c.is_empty.ensures ∙ c.if-is_empty.false) in
    let h = c.requires.full (omega (arith, e)) in
    λ r k m n κs ref met ranges sizes u.
    let o = square_within a.at a.stride {n = a.at + 3 * a.stride + 4} (omega arith) r k m n in
    omega (arith, o, h.0)

pub some_own-vectors-requires-clause-asked : goal.some_own-vectors-requires-clause-asked
some_own-vectors-requires-clause-asked c =
    let l = c.args.list.now in
    let a = c.args.square in
    let e : length l.references.now ≡ 0 → ⊥ = eqb-false (length l.references.now) 0 (sym c.is_empty.ensures ∙ c.if-is_empty.false) in
    let h = c.requires.full (omega (arith, e)) in
    λ r k m n κs ref met ranges sizes u.
    let o = square_within a.at a.stride {n = a.at + 3 * a.stride + 4} (omega arith) r k m n in
    omega (arith, o, h.1)

pub returns : goal.returns
unfolding one_stored
returns c =
    let l = c.args.list.now in
    let a = c.args.square in
    let first = c.stored-first.result in
    let references = c.some_own-references.ensures (λ i. not (eq_z (stored_motion l.references.now l.vectors.now i).reference first.reference)) (λ r k b h m q. search rules) in
    let vectors = c.some_own-vectors.ensures (λ i. not (eq_z (stored_motion l.references.now l.vectors.now i).x first.x && eq_z (stored_motion l.references.now l.vectors.now i).y first.y)) (λ r k b h m q. search rules) in
    (λ i. not (references i || vectors i))
    ∙ walked-apart l.references.now l.vectors.now a.at a.stride first
    ∙ (λ i. every 4 (λ j. every 4 (λ k. equal_motion (stored_motion l.references.now l.vectors.now (a.at + j * a.stride + k)) (c.stored-first.ensures i))))
