use Rattle.std.proofs.Common.{◌≡◌, length}
use Rattle.laws.specs.Some.{every}
use Rattle.motion.specs.Lent.{grids_of}
use Rattle.recordings.specs.Grids.{served_at, derived_to}
use Rattle.recordings.proofs.grids.derive.Given as goal

abbrev pub invariant-loop-i : goal.invariant-loop-i
invariant-loop-i l = record {
  long : length l.strengths ≡ length l.initial.strengths;
  all : l.done ≡ every l.i (served_at l.source.size l.source.t8s.now (grids_of l.source.grids) (length l.initial.strengths));
  leaves : l.strengths ≡ derived_to l.source.size l.source.field (grids_of l.source.grids) l.source.t8s.now l.i l.initial.strengths;
}
