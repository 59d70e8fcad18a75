-- `made_final`: the three are asked about as the definition has it. Assumes nothing.
use Rattle.std.proofs.Common.{◌-◌, ltb, rules, refl, ap, ◌∙◌}
use Rattle.finality.specs.Final.{finality, finality_of, if_there, finals_of}
use Rattle.finality.proofs.Asked.{own-refuses, left-refuses, upper-refuses, all-told, there-told, none-there}
use Rattle.finality.proofs.calls.made_final.Goals.{then-x-gt0+in_ok-left, else-x-gt0}
use Rattle.finality.proofs.calls.made_final.Goals as goal

pub returns-in_err-own : goal.returns-in_err-own
unfolding finals_of
returns-in_err-own c =
    let a = c.args in
    let left = if_there (ltb 0 a.x) (finality_of a.size a.marks.now (a.x - 1) a.y) in
    let upper = if_there (ltb 0 a.y) (finality_of a.size a.marks.now a.x (a.y - 1)) in
    own-refuses _ (search rules) _ left upper c.in_err-own.ensures

pub returns-in_err-left : goal.returns-in_err-left
unfolding finals_of
returns-in_err-left c = left-refuses _ (search rules) _ _ _ _ c.in_ok-own.ensures (there-told c.args.x c.if-x-gt0.true c.in_err-left.ensures)

pub returns-in_err-upper : goal.returns-in_err-upper
unfolding finals_of
returns-in_err-upper c =
    let upper = there-told c.args.y c.if-y-gt0.true c.in_err-upper.ensures in
    elim c.if-x-gt0.branch [
      | then-x-gt0+in_ok-left w ↦ upper-refuses _ (search rules) _ _ _ _ _ c.in_ok-own.ensures (there-told c.args.x w.if-x-gt0.true w.in_ok-left.ensures) upper
      | else-x-gt0 w ↦ upper-refuses _ (search rules) _ _ _ _ _ c.in_ok-own.ensures (none-there c.args.x _ w.if-x-gt0.false w.left-is) upper
    ]

pub returns-in_ok-upper : goal.returns-in_ok-upper
unfolding finals_of
returns-in_ok-upper c =
    let upper = there-told c.args.y c.if-y-gt0.true c.in_ok-upper.ensures in
    elim c.if-x-gt0.branch [
      | then-x-gt0+in_ok-left w ↦ all-told c.in_ok-own.ensures (ap (finality 0) w.left-is ∙ there-told c.args.x w.if-x-gt0.true w.in_ok-left.ensures) upper
      | else-x-gt0 w ↦ all-told c.in_ok-own.ensures (none-there c.args.x _ w.if-x-gt0.false w.left-is) upper
    ]

pub returns-else-y-gt0 : goal.returns-else-y-gt0
unfolding finals_of
returns-else-y-gt0 c =
    let upper = none-there c.args.y _ c.if-y-gt0.false refl in
    elim c.if-x-gt0.branch [
      | then-x-gt0+in_ok-left w ↦ all-told c.in_ok-own.ensures (ap (finality 0) w.left-is ∙ there-told c.args.x w.if-x-gt0.true w.in_ok-left.ensures) upper
      | else-x-gt0 w ↦ all-told c.in_ok-own.ensures (none-there c.args.x _ w.if-x-gt0.false w.left-is) upper
    ]
