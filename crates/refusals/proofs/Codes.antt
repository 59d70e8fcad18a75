-- The number of a refusal is never 0, which says that nothing was refused. Assumes nothing.
use mathlib.Core.Path.{◌≡◌}
use native.Mathlib.Omega.{arith}
use Rattle.refusals.specs.Refusals.{code_of}
use Rattle.refusals.specs.declared.Refusal.{Refusal}

pub code-positive : (e : Refusal) → code_of e ≡ 0 → ⊥
code-positive e h = grind arith
