use Rattle.std.proofs.Common.{◌≡◌, Bool, cond, refl, sym, ap, ◌∙◌, rules, arith}
use Rattle.motion.specs.Lent.{grids_of}
use Rattle.refusals.specs.Refusals.{number_of, code_of}
use Rattle.refusals.proofs.Codes.{code-positive}
use Rattle.strengths.proofs.DeriveOutcomes.{agrees, values-refuse, values-pass, answer-passed}
use Rattle.strengths.proofs.GridsFit.{grids-fit, derivable}
use Rattle.strengths.proofs.macroblocks.check_at.Goals as goal

pub invariant_of-blocks : goal.invariant_of-blocks
invariant_of-blocks c =
    let a = c.args in
    let s = a.source.now in
    let g = grids_of s.grids in
    record { is_small = (derivable s.size a.x a.y s.t8s.now g a.strengths (grids-fit s.size a.x a.y s.t8s.now g a.strengths c.requires)).place }

pub check_values-requires-clause-flags : goal.check_values-requires-clause-flags
check_values-requires-clause-flags c =
    let a = c.args in
    let s = a.source.now in
    let g = grids_of s.grids in
    (derivable s.size a.x a.y s.t8s.now g a.strengths (grids-fit s.size a.x a.y s.t8s.now g a.strengths c.requires)).flags

pub check_values-requires-clause-inter : goal.check_values-requires-clause-inter
check_values-requires-clause-inter c =
    let a = c.args in
    let s = a.source.now in
    let g = grids_of s.grids in
    let d = derivable s.size a.x a.y s.t8s.now g a.strengths (grids-fit s.size a.x a.y s.t8s.now g a.strengths c.requires) in
    record { column = d.place.column; last = omega (arith, d.within.hold.inters) }

pub check_values-requires-clause-list0 : goal.check_values-requires-clause-list0
check_values-requires-clause-list0 c =
    let a = c.args in
    let s = a.source.now in
    let g = grids_of s.grids in
    let d = derivable s.size a.x a.y s.t8s.now g a.strengths (grids-fit s.size a.x a.y s.t8s.now g a.strengths c.requires) in
    record { column = d.place.column; last = omega (arith, d.within.hold.refs) }

pub check_values-requires-clause-list1 : goal.check_values-requires-clause-list1
check_values-requires-clause-list1 c h =
    let a = c.args in
    let s = a.source.now in
    let g = grids_of s.grids in
    let d = derivable s.size a.x a.y s.t8s.now g a.strengths (grids-fit s.size a.x a.y s.t8s.now g a.strengths c.requires) in
    record { column = d.place.column; last = omega (arith, (d.within.hold.list1.full h).0) }

pub returns-in_err-check_values : goal.returns-in_err-check_values
returns-in_err-check_values c =
    let a = c.args in
    let s = a.source.now in
    let same : number_of c.from_residual.result ≡ code_of c.in_err-check_values.field-0.0 = search rules in
    same
    ∙ values-refuse s.size a.x a.y s.t8s.now (grids_of s.grids) a.strengths c.requires c.in_err-check_values.ensures (code-positive c.in_err-check_values.field-0.0) _

pub untrue_known-requires-clause-within : goal.untrue_known-requires-clause-within
untrue_known-requires-clause-within c =
    let a = c.args in
    let s = a.source.now in
    let g = grids_of s.grids in
    (derivable s.size a.x a.y s.t8s.now g a.strengths (grids-fit s.size a.x a.y s.t8s.now g a.strengths c.requires)).within

pub untrue_known-requires-clause-agree : goal.untrue_known-requires-clause-agree
untrue_known-requires-clause-agree c =
    let a = c.args in
    let s = a.source.now in
    let g = grids_of s.grids in
    agrees s.size a.x a.y s.t8s.now g a.strengths (values-pass s.size a.x a.y s.t8s.now g a.strengths c.requires c.in_ok-check_values.ensures refl)

pub returns-then-untrue_known : goal.returns-then-untrue_known
returns-then-untrue_known c =
    let a = c.args in
    let s = a.source.now in
    let g = grids_of s.grids in
    let z = values-pass s.size a.x a.y s.t8s.now g a.strengths c.requires c.in_ok-check_values.ensures refl in
    sym (answer-passed s.size a.x a.y s.t8s.now g a.strengths z _ ∙ ap (λ (b : Bool). cond b 12 0) (sym c.untrue_known.ensures ∙ c.if-untrue_known.true))

pub returns : goal.returns
returns c =
    let a = c.args in
    let s = a.source.now in
    let g = grids_of s.grids in
    let z = values-pass s.size a.x a.y s.t8s.now g a.strengths c.requires c.in_ok-check_values.ensures refl in
    sym (answer-passed s.size a.x a.y s.t8s.now g a.strengths z _ ∙ ap (λ (b : Bool). cond b 12 0) (sym c.untrue_known.ensures ∙ c.if-untrue_known.false))
