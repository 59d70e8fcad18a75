-- `replay`: after k turns the first k answers stand in their places, and what is left to do leads where all
-- of it leads from the start. Assumes nothing.
use Rattle.std.proofs.Common.{◌≡◌, length}
use Rattle.edges.specs.LentPlanes.{samples, SamePlanes}
use Rattle.refusals.specs.Refusals.{answer_numbers}
use Rattle.pictures.specs.LentData.{given}
use Rattle.visits.specs.Inner.{Served}
use Rattle.visits.specs.Promise.{requests, visit_in}
use Rattle.visits.proofs.visits.replay.Given as goal

abbrev pub invariant-loop-k : goal.invariant-loop-k
invariant-loop-k l =
    SamePlanes l.initial.planes l.planes
    × (length l.answers ≡ length l.xs)
    × Served (visit_in l.picture.part (given l.picture.size l.lent)) (requests l.xs l.ys) (samples l.initial.planes, l.initial.marks) l.k (samples l.planes, l.marks) (answer_numbers l.answers)
