-- A group of checks after the other.
use Rattle.std.proofs.Common.{rules}
use Rattle.refusals.proofs.Codes.{code-positive}
use Rattle.y4m.proofs.Seen.{one_line, two-lines, bad-line, says-cut_short, none-refused, all_there}
use Rattle.y4m.proofs.reader.see.Goals as goal

pub returns-in_err-line-clause-number : goal.returns-in_err-line-clause-number
returns-in_err-line-clause-number c = let k = one_line c.args.stream.now c.in_err-line.ensures.0 in search rules

pub returns-in_err-frame-clause-number : goal.returns-in_err-frame-clause-number
returns-in_err-frame-clause-number c = let k = two-lines c.args.stream.now c.in_ok-line.ensures.0 c.in_err-frame.ensures.0 in search rules

pub returns-in_err-size-clause-number : goal.returns-in_err-size-clause-number
returns-in_err-size-clause-number c =
    let a = c.in_ok-line in
    let b = c.in_ok-frame in
    let k = bad-line c.args.stream.now a.line.now a.rest.now b.frame.now b.planes.now a.ensures.0 a.ensures.1 b.ensures.0 b.ensures.1 c.in_err-size.ensures.number (code-positive c.in_err-size.field-0.0) in
    search rules

pub returns-then-planes-size-clause-number : goal.returns-then-planes-size-clause-number
returns-then-planes-size-clause-number c =
    let a = c.in_ok-line in
    let b = c.in_ok-frame in
    let d = c.in_ok-size.ensures in
    says-cut_short c.args.stream.now a.line.now a.rest.now b.frame.now b.planes.now a.ensures.0 a.ensures.1 b.ensures.0 b.ensures.1 d.number d.size.0 c.if-planes-size.true

pub returns-clause-number : goal.returns-clause-number
returns-clause-number c =
    let a = c.in_ok-line in
    let b = c.in_ok-frame in
    let d = c.in_ok-size.ensures in
    none-refused c.args.stream.now a.line.now a.rest.now b.frame.now b.planes.now a.ensures.0 a.ensures.1 b.ensures.0 b.ensures.1 d.number d.size.0 c.if-planes-size.false

pub returns-clause-seen : goal.returns-clause-seen
returns-clause-seen c =
    let a = c.in_ok-line in
    let b = c.in_ok-frame in
    let d = c.in_ok-size.ensures in
    all_there c.args.stream.now a.line.now a.rest.now b.frame.now b.planes.now a.ensures.0 a.ensures.1 b.ensures.0 b.ensures.1 d.number d.size.0 d.size.1 c.if-planes-size.false
