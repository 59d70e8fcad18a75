-- Lemmas whose names a Rust path cannot say, for `using`. Assumes nothing.
use Rattle.laws.proofs.Grid.{row_fits}
use Rattle.laws.proofs.Loop.{loops}
use Rattle.sizes.proofs.Sized.{frame-of-part-le}

pub ruleset rows_of_part = (loops, row_fits, frame-of-part-le)
