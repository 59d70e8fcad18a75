-- `over_near`: the closure's test. Assumes nothing.
use Rattle.std.proofs.Common.{rules, ltb}
use Rattle.sizes.proofs.entries.over_near.Goals as goal

pub returns : goal.returns
returns c = c.bad_near.ensures (ltb c.args.top) 0 (λ x b h. search rules)
