-- The lines, and 384 bytes a macroblock.
use Rattle.std.proofs.Common.{◌*◌, arith}
use Rattle.y4m.proofs.Written.{pixels-of, two-lines-length}
use Rattle.y4m.proofs.writer.whole.Goals as goal

pub returns : goal.returns
returns c =
    let s = c.args.size in
    let p = pixels-of s c.requires in
    let l = two-lines-length (16 * s.w) (16 * s.h) p.0 p.1 in
    let w = c.digits.ensures.value in
    let h = c.digits-2.ensures.value in
    omega arith
