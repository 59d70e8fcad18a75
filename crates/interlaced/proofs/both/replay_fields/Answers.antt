-- A turn is a visit, and its answer is put in its place; the end. Assumes nothing.
use Rattle.std.proofs.Common.{◌≡◌, false, rules, sym, ◌∙◌, arith}
use Rattle.std.proofs.lemmas.List.{length-map, length-set, map-set}
use Rattle.laws.proofs.Bools.{or-false, equal}
use Rattle.refusals.specs.Refusals.{number_of, answer_numbers}
use Rattle.visits.proofs.Calls.{served-all}
use Rattle.interlaced.specs.Promise.{uneven_arrivals}
use Rattle.interlaced.proofs.Calls.{arrivals-length, served-arrival}
use Rattle.interlaced.proofs.both.replay_fields.Goals as goal

pub loop-k-preserved : goal.loop-k-preserved
loop-k-preserved c =
    let a = c.args in
    let even = or-false _ _ c.if-ps-xs.false in
    let rows = or-false _ _ even.0 in
    let of_each = equal _ _ rows.0 in
    let turn =
    served-arrival a.ps.now a.xs.now a.ys.now (omega (arith, c.loop-k-test.true, of_each)) of_each (sym (equal _ _ rows.1))
    (length-map c.loop-k.answers number_of ∙ c.loop-k.invariant.1 ∙ sym of_each) c.loop-k.invariant.2 c.visit_field.ensures.outcome in (
      search rules,
      length-set c.loop-k.answers c.loop-k.k c.visit_field.result ∙ c.loop-k.invariant.1,
      rw (map-set number_of c.loop-k.answers c.loop-k.k c.visit_field.result) turn,
    )

pub returns-clause-outcome : goal.returns-clause-outcome
returns-clause-outcome c =
    let a = c.args in
    let even = or-false _ _ c.if-ps-xs.false in
    let rows = or-false _ _ even.0 in
    let of_each = equal _ _ rows.0 in
    let n = arrivals-length a.ps.now a.xs.now a.ys.now of_each (sym (equal _ _ rows.1)) in
    let m = served-all (omega (arith, n, of_each, c.loop-k-test.false)) (length-map c.loop-k.answers number_of ∙ c.loop-k.invariant.1 ∙ sym of_each ∙ sym n) c.loop-k.invariant.2 in
    let e : uneven_arrivals a.ps.now a.xs.now a.ys.now (answer_numbers a.answers.now) ≡ false = rw (length-map a.answers.now number_of, rows.0, rows.1, even.1) in
    record { says = rw e; leaves = rw e m.0; writes = rw e m.1 }
