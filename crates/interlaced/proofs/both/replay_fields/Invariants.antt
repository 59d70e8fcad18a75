-- After k turns the first k answers stand in their places, and what is left to do leads where all of it leads
-- from the start. Assumes nothing.
use Rattle.std.proofs.Common.{◌≡◌, length}
use Rattle.refusals.specs.Refusals.{answer_numbers}
use Rattle.visits.specs.Inner.{Served}
use Rattle.interlaced.specs.Both.{both_visit}
use Rattle.interlaced.specs.LentFields.{of_field_lent, interlaced_of, SameBoth}
use Rattle.interlaced.specs.Promise.{arrivals}
use Rattle.interlaced.proofs.both.replay_fields.Given as goal

abbrev pub invariant-loop-k : goal.invariant-loop-k
invariant-loop-k l =
    SameBoth l.initial.both l.both
    × (length l.answers ≡ length l.xs)
    × Served (both_visit l.size (of_field_lent l.lent.top) (of_field_lent l.lent.bottom)) (arrivals l.ps l.xs l.ys) (interlaced_of l.initial.both) l.k (interlaced_of l.both) (answer_numbers l.answers)
