use Rattle.std.proofs.Common.{◌≡◌}
use Rattle.laws.specs.Loop.{span}
use Rattle.laws.specs.Refusal.{or_else}
use Rattle.motion.specs.Lent.{grids_of}
use Rattle.strengths.specs.Calls.{answer_at}
use Rattle.strengths.specs.Told.{known_of, kinds_of}
use Rattle.strengths.proofs.stretches.check_stretch.Given as goal

abbrev pub invariant-loop-x : goal.invariant-loop-x
invariant-loop-x l =
    let s = l.source in
    0
    ≡ span l.fn.stretch.first l.x (λ k r. or_else r (answer_at s.size l.fn.stretch.y (known_of l.told) (kinds_of l.told) s.t8s.now (grids_of s.grids) l.strengths k)) 0
