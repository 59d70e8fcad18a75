-- The lines, and the planes behind them.
use Rattle.std.proofs.Common.{rules, arith}
use Rattle.y4m.specs.Stream.{lines_with}
use Rattle.y4m.proofs.Written.{two-lines-length, planes-put}
use Rattle.y4m.proofs.writer.put_all.Goals as goal

pub put-b-requires : goal.put-b-requires
put-b-requires c = let l = two-lines-length c.args.w c.args.h c.requires.0 c.requires.1 in search rules

pub put-c-requires : goal.put-c-requires
put-c-requires c = let l = two-lines-length c.args.w c.args.h c.requires.0 c.requires.1 in search rules

pub put-requires : goal.put-requires
put-requires c = let l = two-lines-length c.args.w c.args.h c.requires.0 c.requires.1 in search rules

pub returns : goal.returns
returns c =
    let a = c.args in
    let l = two-lines-length a.w a.h c.requires.0 c.requires.1 in
    let e = c.requires.2 in
    planes-put a.stream.now (lines_with a.w a.h) a.luma.now a.u.now a.v.now (omega arith) c.put_lines-a.ensures c.put-b.ensures
    c.put-c.ensures
    c.put.ensures
