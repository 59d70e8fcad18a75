-- Five pieces, one behind the other.
use Rattle.std.proofs.Common.{rules}
use Rattle.y4m.proofs.Decimal.{decimal-part}
use Rattle.y4m.proofs.Written.{lines-put}
use Rattle.y4m.proofs.writer.put_lines.Goals as goal

pub put-c-requires : goal.put-c-requires
put-c-requires c =
    let d = (decimal-part c.args.w c.requires.0.least c.requires.0.most).1 in
    search rules

pub put_number-d-requires : goal.put_number-d-requires
put_number-d-requires c =
    let d = (decimal-part c.args.w c.requires.0.least c.requires.0.most).1 in
    search rules

pub put-requires : goal.put-requires
put-requires c =
    let d = (decimal-part c.args.w c.requires.0.least c.requires.0.most).1 in
    let e = (decimal-part c.args.h c.requires.1.least c.requires.1.most).1 in
    search rules

pub returns : goal.returns
returns c =
    lines-put c.args.stream.now c.args.w c.args.h c.requires.0 c.requires.1 c.requires.2 c.put-a.ensures c.put_number-b.ensures
    c.put-c.ensures
    c.put_number-d.ensures
    c.put.ensures
