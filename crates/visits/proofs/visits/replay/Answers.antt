-- `replay`: a turn, and the end. Assumes nothing.
use Rattle.std.proofs.Common.{◌≡◌, false, rules, sym, ◌∙◌, arith}
use Rattle.std.proofs.lemmas.List.{length-map, length-set, map-set}
use Rattle.laws.proofs.Bools.{or-false, equal}
use Rattle.refusals.specs.Refusals.{number_of, answer_numbers}
use Rattle.visits.specs.Promise.{uneven}
use Rattle.visits.proofs.Calls.{requests-length, served-turn, served-all}
use Rattle.visits.proofs.visits.replay.Goals as goal

pub loop-k-preserved : goal.loop-k-preserved
loop-k-preserved c =
    let a = c.args in
    let even = or-false _ _ c.if-ys-xs.false in
    let turn =
    served-turn a.xs.now a.ys.now c.loop-k-test.true (sym (equal _ _ even.0)) (length-map c.loop-k.answers number_of ∙ c.loop-k.invariant.1) c.loop-k.invariant.2
    c.visit_surveyed.ensures.outcome in (
      search rules,
      length-set c.loop-k.answers c.loop-k.k c.visit_surveyed.result ∙ c.loop-k.invariant.1,
      rw (map-set number_of c.loop-k.answers c.loop-k.k c.visit_surveyed.result) turn,
    )

pub returns-clause-outcome : goal.returns-clause-outcome
returns-clause-outcome c =
    let a = c.args in
    let even = or-false _ _ c.if-ys-xs.false in
    let n = requests-length a.xs.now a.ys.now (sym (equal _ _ even.0)) in
    let m = served-all (omega (arith, n, c.loop-k-test.false)) (length-map c.loop-k.answers number_of ∙ c.loop-k.invariant.1 ∙ sym n) c.loop-k.invariant.2 in
    let e : uneven a.xs.now a.ys.now (answer_numbers a.answers.now) ≡ false = rw (length-map a.answers.now number_of) c.if-ys-xs.false in
    record { says = rw e; leaves = rw e m.0; writes = rw e m.1 }
