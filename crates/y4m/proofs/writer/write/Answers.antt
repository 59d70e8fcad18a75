-- The sizes and planes that are not refused fit the stream.
use Rattle.std.proofs.Common.{◌*◌, length, sym, ◌∙◌, arith}
use Rattle.sizes.proofs.Sized.{planes-fit}
use Rattle.y4m.proofs.Written.{pixels-of, two-lines-length}
use Rattle.y4m.proofs.writer.write.Goals as goal

pub put_all-requires : goal.put_all-requires
put_all-requires c =
    let a = c.args in
    let p = pixels-of a.size c.in_ok-whole.ensures.0 in
    let l = two-lines-length (16 * a.size.w) (16 * a.size.h) p.0 p.1 in
    let f = planes-fit _ (length a.luma.now) (length a.u.now) (length a.v.now) (sym c.bad_planes.ensures ∙ c.if-bad_planes.false) in
    let n = c.in_ok-whole.ensures.1 in
    (p.0, p.1, omega (arith, n))
