use Rattle.std.proofs.Common.{Bool, ap, ◌∙◌}
use native.Mathlib.Omega.{arith}
use Rattle.recordings.specs.Orders.{frames_of, second_of}
use Rattle.recordings.proofs.Verdict.{becomes, in-space}
use Rattle.recordings.proofs.orders.holds.Goals as goal

pub returns : goal.returns
returns c =
    let n = c.args.recorded.now.n in
    let two = c.is_some-two.ensures in
    in-space _ _ _ _ c.zeros.result c.zeros-2.result c.zeros-3.result c.zeros-4.result c.zeros-5.result _ c.frames-m.result c.second-n2.result
    (rw (c.most.ensures, two) at c.if-most-n.false)
    c.frames-m.ensures.lower_bound.1
    (c.frames-m.ensures.value ∙ ap (λ (b : Bool). frames_of b n) two)
    (omega (arith, c.frames-m.ensures.lower_bound))
    c.second-n2.ensures.upper_bound
    (c.second-n2.ensures.value ∙ ap (λ (b : Bool). second_of b n) two)
    c.zeros.ensures.value
    c.zeros-2.ensures.value
    c.zeros-3.ensures.value
    c.zeros-4.ensures.value
    c.zeros-5.ensures.value
    (becomes _ _ _ (rw (c.copy.ensures, c.copy-2.ensures, c.copy-3.ensures) at c.filter.ensures.is) c.is_whole.ensures c.is_visited.ensures c.are_same.ensures)
