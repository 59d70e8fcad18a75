-- `filter_rows`: the two ways out are those of the promise. Assumes nothing.
use Rattle.std.proofs.Common.{◌≡◌, ◌≤◌, ℕ, sym, ◌∙◌, arith}
use Rattle.laws.specs.Loop.{span}
use Rattle.laws.proofs.Loop.{span-end}
use Rattle.edges.specs.Laid.{layout_of, laid_row, laid_rows}
use Rattle.edges.specs.LentPlanes.{samples}
use Rattle.edges.specs.Picture.{Planes, Held}
use Rattle.edges.specs.declared.plan.Layout.{Layout}
use Rattle.edges.proofs.OnPart.{rows-on-part}
use Rattle.sizes.proofs.Sized.{frame-of-part-le}
use Rattle.pictures.specs.Checks.{held_of}
use Rattle.pictures.specs.LentData.{given}
use Rattle.pictures.proofs.RowCalls.{answered-rows-fit, answered-grids, answered-lengths, row-inside, row-small, done-rows}
use Rattle.pictures.proofs.rows.filter_rows.Goals as goal

-- all rows have been filtered
laid-end : (g : Held) (l : Layout) (a n m : ℕ) (p : Planes) {q : Planes} → q ≡ span a n (laid_row g l) p → n ≤ m → m ≤ n → q ≡ laid_rows g l a m p
unfolding laid_rows
laid-end g l a n m p e h k = span-end a n m (laid_row g l) p e h k

pub filter_row-requires-clause-parity : goal.filter_row-requires-clause-parity
filter_row-requires-clause-parity c =
    let a = c.args in
    let g = answered-rows-fit a.picture.part (given a.picture.size a.lent.now) a.a a.b (samples a.planes.now) (sym c.in_ok-check_rows.ensures) in
    (g.fit.parity, row-small a.picture.part (given a.picture.size a.lent.now) a.a a.b _ _ _ g c.loop-y.y c.loop-y-test.true)

pub filter_row-requires-clause-planes : goal.filter_row-requires-clause-planes
filter_row-requires-clause-planes c =
    let a = c.args in
    let f = answered-rows-fit a.picture.part (given a.picture.size a.lent.now) a.a a.b (samples a.planes.now) (sym c.in_ok-check_rows.ensures) in
    let s = c.loop-y.invariant.0 in
    let m = frame-of-part-le a.picture.part (row-inside a.picture.part (given a.picture.size a.lent.now) a.a a.b _ _ _ f c.loop-y.y c.loop-y-test.true) in
    record { luma = omega (arith, m, f.fit.luma, s.luma_length); u = omega (arith, m, f.fit.u, s.u_length); v = omega (arith, m, f.fit.v, s.v_length) }

pub filter_row-requires-clause-grids : goal.filter_row-requires-clause-grids
filter_row-requires-clause-grids c =
    let a = c.args in
    let p = samples a.planes.now in
    let z = sym c.in_ok-check_rows.ensures in
    let f = answered-rows-fit a.picture.part (given a.picture.size a.lent.now) a.a a.b p z in
    answered-grids a.picture.part (given a.picture.size a.lent.now) a.a a.b p z _ (row-inside a.picture.part (given a.picture.size a.lent.now) a.a a.b _ _ _ f c.loop-y.y c.loop-y-test.true)

pub returns-clause-outcome : goal.returns-clause-outcome
returns-clause-outcome c =
    let a = c.args in
    let d = given a.picture.size a.lent.now in
    let p = samples a.planes.now in
    let z = sym c.in_ok-check_rows.ensures in
    let g = answered-rows-fit a.picture.part d a.a a.b p z in
    let end = c.loop-y.auto.y-end g.order in
    done-rows a.picture.part d a.a a.b p _ z
    (laid-end (held_of d) (layout_of a.picture.part) a.a c.loop-y.y a.b p c.loop-y.invariant.1 end (omega (arith, c.loop-y-test.false))
    ∙ rows-on-part (held_of d) a.picture.size.h g.fit.sides.both.wide a.picture.part g.fit.parity a.a a.b g.line p (answered-lengths a.picture.part d a.a a.b p z))
