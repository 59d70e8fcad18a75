use Rattle.std.proofs.Common.{◌≡◌, length, sym, ◌∙◌, arith}
use borrow.Author.Tests.{eqb-true}
use Rattle.motion.proofs.GridParts.{motion-none}
use Rattle.motion.proofs.grids.ReferenceList.motion.Goals as goal

pub returns-then-is_empty : goal.returns-then-is_empty
returns-then-is_empty c =
    let l = c.args.self.now in
    let e : length l.references.now ≡ 0 = eqb-true _ _ (sym c.is_empty.ensures ∙ c.if-is_empty.true) in
    motion-none l.pictures.now l.references.now l.vectors.now c.args.i (omega (arith, e)) (omega (arith, c.requires.empty e))
