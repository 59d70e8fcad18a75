use Rattle.std.proofs.Common.{◌≡◌, ◌+◌, ◌*◌}
use Rattle.laws.specs.Loop.{up_to}
use Rattle.strengths.specs.Edges.{intra_edge}
use Rattle.strengths.specs.Inner.{filled}
use Rattle.strengths.proofs.derive.derive_intra.Given as goal

abbrev pub invariant-loop-j : goal.invariant-loop-j
invariant-loop-j l = l.strengths ≡ up_to l.j (λ r t. filled 4 (l.to + 4 * r) (λ n. intra_edge l.mode l.t8 l.x l.y (4 * r + n)) t) l.initial.strengths
