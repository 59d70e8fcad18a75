use Rattle.std.proofs.Common.{rules, ◌/◌, length, ◌∙◌, ap}
use Rattle.std.proofs.lemmas.Iterator.{YieldsList-from_map, YieldsList-from_slice, items_from_collect}
use Rattle.std.proofs.lemmas.Result.{IfOk-at_ok}
use Rattle.std.specs.Prelude.{ℕ, List, map}
use Rattle.recordings.specs.Numbers.{number_at}
use Rattle.recordings.proofs.Numbers.{pairs}
use Rattle.recordings.proofs.load.numbers_of.Goals as goal

pub returns-clause-is : goal.returns-clause-is
returns-clause-is c =
    let one : List ℕ → ℕ = λ b. number_at b 0 in
    IfOk-at_ok _ c.in_ok-collect.was (items_from_collect _ c.collect.ensures.ran (YieldsList-from_map _ one (YieldsList-from_slice _ cc) c.map.ensures.closure (λ x r q k. search rules)))
    ∙ ap (map one) c.as_chunks.ensures.front
    ∙ pairs (length c.args.raw.now / 2) c.args.raw.now
