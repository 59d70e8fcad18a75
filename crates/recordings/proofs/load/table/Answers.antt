use Rattle.std.proofs.Common.{rules, ◌/◌, length, ◌∙◌, ap}
use Rattle.std.proofs.lemmas.Iterator.{YieldsList-from_map, YieldsList-from_slice, items_from_collect}
use Rattle.std.proofs.lemmas.Result.{IfOk-at_ok}
use Rattle.std.specs.Prelude.{ℕ, List, map}
use Rattle.slices.specs.declared.SliceRecord.{SliceRecord}
use Rattle.recordings.specs.Slices.{record_at}
use Rattle.recordings.proofs.Slices.{chunks}
use Rattle.recordings.proofs.load.table.Goals as goal

pub returns-clause-is : goal.returns-clause-is
returns-clause-is c =
    let one : List ℕ → SliceRecord = λ b. record_at b 0 in
    IfOk-at_ok _ c.in_ok-collect.was (items_from_collect _ c.collect.ensures.ran (YieldsList-from_map _ one (YieldsList-from_slice _ cc) c.map.ensures.closure (λ x r q k. search rules)))
    ∙ ap (map one) c.as_chunks.ensures.front
    ∙ chunks (length c.args.raw.now / 3) c.args.raw.now
