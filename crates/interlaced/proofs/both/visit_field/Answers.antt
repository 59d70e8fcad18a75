-- Each return is the visit of its field. Assumes nothing.
use Rattle.std.proofs.Common.{rules}
use Rattle.interlaced.proofs.Calls.{top-visited, bottom-visited}
use Rattle.interlaced.proofs.both.visit_field.Goals as goal

pub returns-then-top-clause-outcome : goal.returns-then-top-clause-outcome
returns-then-top-clause-outcome c = top-visited _ _ _ _ _ _ (search rules) c.visit_surveyed.ensures.outcome

pub returns-clause-outcome : goal.returns-clause-outcome
returns-clause-outcome c = bottom-visited _ _ _ _ _ _ (search rules) c.visit_surveyed-2.ensures.outcome
