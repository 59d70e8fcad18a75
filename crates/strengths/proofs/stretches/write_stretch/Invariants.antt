use Rattle.std.proofs.Common.{◌≡◌, ◌+◌, ◌*◌}
use Rattle.laws.specs.Loop.{span}
use Rattle.motion.specs.Lent.{grids_of}
use Rattle.sizes.specs.Entries.{flag_at}
use Rattle.strengths.specs.Strength.{mode_of, strength_at, written}
use Rattle.strengths.proofs.stretches.write_stretch.Given as goal

abbrev pub invariant-loop-x : goal.invariant-loop-x
invariant-loop-x l =
    let s = l.source in
    l.strengths
    ≡ span l.fn.stretch.first l.x (λ k. written (l.fn.stretch.y * s.size.w + k) (strength_at (mode_of s.field) (grids_of s.grids) s.size.w (flag_at s.t8s.now) k l.fn.stretch.y)) l.initial.strengths
