-- What was seen, and planes of other lengths.
use Rattle.std.proofs.Common.{rules}
use Rattle.y4m.proofs.Outcomes.{turned-away}
use Rattle.y4m.proofs.reader.read.Goals as goal

pub returns-in_err-size-clause-outcome : goal.returns-in_err-size-clause-outcome
returns-in_err-size-clause-outcome c =
    let a = c.args in
    turned-away a.stream.now a.luma.now a.u.now a.v.now c.in_err-size.field-0.0 (search rules) c.in_err-size.ensures.number
