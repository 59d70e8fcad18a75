use Rattle.std.proofs.Common.{◌<◌}
use Rattle.arrivals.proofs.print.sum.Given as goal

abbrev pub invariant-loop-i : goal.invariant-loop-i
invariant-loop-i l = l.h < 65521
