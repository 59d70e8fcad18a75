-- `any_bad`: one entry a turn, whatever the closure's test is. Assumes nothing.
use Rattle.std.proofs.Common.{◌≡◌, Bool, take}
use Rattle.std.specs.List.{list_any}
use Rattle.sizes.specs.Inner.{Tells}
use Rattle.sizes.proofs.entries.any_bad.Given as goal

abbrev pub invariant-loop-x : goal.invariant-loop-x
invariant-loop-x g l = (p : g.row.T.Denot → Bool) → Tells (λ x. g.F.Fn.post l.bad (x, tt)) p → l.found ≡ list_any p (take l.x-index l.xs)
