use Rattle.std.proofs.Common.{◌≡◌, ◌+◌, ◌*◌}
use Rattle.laws.specs.Loop.{up_to}
use Rattle.motion.specs.Lent.{grids_of}
use Rattle.strengths.specs.ByKind.{strength_by}
use Rattle.strengths.specs.Inner.{filled}
use Rattle.strengths.proofs.derive.derive_inter.Given as goal

abbrev pub invariant-loop-j : goal.invariant-loop-j
invariant-loop-j l =
    l.strengths
    ≡ up_to l.j (λ r u. filled 4 (l.to + 4 * r) (λ n. strength_by l.kind l.mode (grids_of l.g) l.blocks.place.w l.t l.blocks.place.x l.blocks.place.y (4 * r + n)) u) l.initial.strengths
