use Rattle.std.proofs.Common.{rules}
use Rattle.std.proofs.lemmas.Iterator.{YieldsList-from_map, YieldsList-from_slice, items_from_collect}
use Rattle.std.proofs.lemmas.Result.{IfOk-at_ok}
use Rattle.std.specs.Prelude.{ℕ, ℤ, pos}
use Rattle.recordings.proofs.load.pictures_of.Goals as goal

pub returns-clause-is : goal.returns-clause-is
returns-clause-is c =
    let one : ℕ → ℤ = λ n. pos n in
    IfOk-at_ok _ c.in_ok-collect.was (items_from_collect _ c.collect.ensures.ran (YieldsList-from_map _ one (YieldsList-from_slice _ cc) c.map.ensures.closure (λ x r q k. search rules)))
