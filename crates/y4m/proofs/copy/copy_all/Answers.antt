-- Two bytes more, or the last one.
use Rattle.std.proofs.Common.{◌≡◌, ◌+◌, ap, ◌∙◌, arith}
use Rattle.std.proofs.Math.Seq.{paste}
use Rattle.y4m.proofs.Copied.{pasted-one, pasted-all}
use Rattle.y4m.proofs.copy.copy_all.Goals as goal

pub loop-i-preserved : goal.loop-i-preserved
loop-i-preserved c =
    let to = c.args.to.now in
    let from = c.args.from.now in
    let i = c.loop-i.i in
    let n : i + 1 + 1 ≡ i + 2 = omega arith in
    record {
      within = omega arith;
      copied =
          pasted-one to from (i + 1) (omega arith) (omega arith) (pasted-one to from i (omega arith) (omega arith) c.loop-i.invariant.copied)
          ∙ ap (paste to 0 from) n;
    }

pub returns-then-i-from : goal.returns-then-i-from
returns-then-i-from c =
    let to = c.args.to.now in
    let from = c.args.from.now in
    let i = c.loop-i.i in
    pasted-all to from (i + 1) (omega arith) (pasted-one to from i (omega arith) (omega arith) c.loop-i.invariant.copied)
