-- `any_bad_pair`: the closure's test, of all records. Assumes nothing.
use Rattle.std.proofs.Common.{◌≡◌, List, length, rules, refl, ◌∙◌}
use Rattle.laws.specs.Some.{some}
use Rattle.laws.proofs.Some.{some-of-all}
use Rattle.slices.specs.Table.{no_record, record_of, bad_pair, some_bad_pair}
use Rattle.slices.specs.declared.SliceRecord.{SliceRecord}
use Rattle.slices.proofs.told.any_bad_pair.Goals as goal

by-records : (t : List SliceRecord) → some (length t) (λ k. bad_pair (record_of t k)) ≡ some_bad_pair t
unfolding some_bad_pair
by-records t = refl

pub returns : goal.returns
returns c = c.any_bad.ensures bad_pair (λ x b h. search rules) ∙ some-of-all bad_pair no_record c.args.records.now ∙ by-records c.args.records.now
