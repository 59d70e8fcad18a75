-- As many of four digits as the number has.
use Rattle.std.proofs.Common.{ℕ, List, subst}
use Rattle.y4m.specs.Places.{Put}
use Rattle.y4m.proofs.Decimal.{part-is}
use Rattle.y4m.proofs.writer.put_number.Goals as goal

pub returns : goal.returns
returns c =
    let s = c.args in
    let p = c.requires.0 in
    let e = part-is s.n p.least p.most c.digits-from.ensures.value c.four-text.ensures.value c.four-text.ensures.value_2 in
    subst (λ (text : List ℕ). Put s.stream.now s.at text c.put.result c.put.new.stream) e c.put.ensures
