-- `any_bad_mode`: the closure's test, of all records. Assumes nothing.
use Rattle.std.proofs.Common.{◌≡◌, List, length, rules, refl, ◌∙◌}
use Rattle.laws.specs.Some.{some}
use Rattle.laws.proofs.Some.{some-of-all}
use Rattle.slices.specs.Table.{no_record, record_of, bad_mode, some_bad_mode}
use Rattle.slices.specs.declared.SliceRecord.{SliceRecord}
use Rattle.slices.proofs.told.any_bad_mode.Goals as goal

by-records : (t : List SliceRecord) → some (length t) (λ k. bad_mode (record_of t k)) ≡ some_bad_mode t
unfolding some_bad_mode
by-records t = refl

pub returns : goal.returns
returns c = c.any_bad.ensures bad_mode (λ x b h. search rules) ∙ some-of-all bad_mode no_record c.args.records.now ∙ by-records c.args.records.now
