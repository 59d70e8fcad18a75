-- `upper_right`: below the first row there is a row before. Assumes nothing.
use Rattle.std.proofs.Common.{arith}
use Rattle.std.proofs.iter.Serving.{serving}
use Rattle.laws.proofs.Grid.{row-pos}
use Rattle.sizes.proofs.places.Place.upper_right.Goals as goal

pub then-requires : goal.then-requires
then-requires c = grind (serving, arith, row-pos c.args.self.y c.args.self.w)
