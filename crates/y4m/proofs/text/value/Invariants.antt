-- What is left to be read belongs behind n.
use Rattle.std.proofs.Common.{◌≡◌, ◌≤◌, drop}
use Rattle.y4m.specs.Text.{value_of, value_from}
use Rattle.y4m.specs.Places.{capped}
use Rattle.y4m.proofs.text.value.Given as goal

abbrev pub invariant-loop-d : goal.invariant-loop-d
invariant-loop-d l = record { most : l.n ≤ 4097; same : capped (value_of l.s) ≡ capped (value_from l.n (drop l.d-index l.s)) }
