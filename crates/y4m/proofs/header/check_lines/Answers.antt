-- A check after the other.
use Rattle.std.proofs.Common.{rules}
use Rattle.refusals.proofs.Codes.{code-positive}
use Rattle.y4m.proofs.Lines.{formed, frame-refused, colours-refused, sides-refused, size-found}
use Rattle.y4m.proofs.header.check_lines.Goals as goal

pub returns-in_err-check_form-2-clause-number : goal.returns-in_err-check_form-2-clause-number
returns-in_err-check_form-2-clause-number c =
    let l = c.args.line.now in
    let f = c.args.frame.now in
    let k = frame-refused l f (formed _ c.in_ok-check_form.ensures) c.in_ok-w.ensures.0 c.in_ok-h.ensures.0 c.in_ok-c.ensures.0 c.in_err-check_form-2.ensures (code-positive c.in_err-check_form-2.field-0.0) in
    search rules

pub returns-in_err-check_colours-clause-number : goal.returns-in_err-check_colours-clause-number
returns-in_err-check_colours-clause-number c =
    let l = c.args.line.now in
    let f = c.args.frame.now in
    let k = colours-refused l f (formed _ c.in_ok-check_form.ensures) c.in_ok-w.ensures.0 c.in_ok-h.ensures.0 c.in_ok-c.ensures.0 (formed _ c.in_ok-check_form-2.ensures) c.in_ok-c.c c.in_ok-c.ensures.1 c.in_err-check_colours.ensures (code-positive c.in_err-check_colours.field-0.0) in
    search rules

pub returns-clause-number : goal.returns-clause-number
returns-clause-number c =
    let l = c.args.line.now in
    let f = c.args.frame.now in
    sides-refused l f (formed _ c.in_ok-check_form.ensures) c.in_ok-w.ensures.0 c.in_ok-h.ensures.0 c.in_ok-c.ensures.0 (formed _ c.in_ok-check_form-2.ensures) c.in_ok-c.c c.in_ok-c.ensures.1 c.in_ok-check_colours.ensures c.in_ok-w.ensures.1 c.in_ok-h.ensures.1 c.size_of.ensures.number

pub returns-clause-size : goal.returns-clause-size
returns-clause-size c =
    let l = c.args.line.now in
    let f = c.args.frame.now in
    size-found l f (formed _ c.in_ok-check_form.ensures) c.in_ok-w.ensures.0 c.in_ok-h.ensures.0 c.in_ok-c.ensures.0 (formed _ c.in_ok-check_form-2.ensures) c.in_ok-c.c c.in_ok-c.ensures.1 c.in_ok-check_colours.ensures c.in_ok-w.ensures.1 c.in_ok-h.ensures.1 c.size_of.result c.size_of.ensures.number c.size_of.ensures.size
