-- One digit more.
use Rattle.std.proofs.Common.{ℕ, ◌+◌, drop, sym, ap, ◌∙◌, arith}
use Rattle.y4m.specs.Text.{value_from}
use Rattle.y4m.specs.Places.{capped}
use Rattle.y4m.proofs.Values.{value-turn}
use Rattle.y4m.proofs.text.value.Goals as goal

pub loop-d-preserved : goal.loop-d-preserved
loop-d-preserved c =
    let s = c.args.s.now in
    let i = c.loop-d.d-index in
    record {
      most = c.appended-n.ensures.upper_bound;
      same =
          c.loop-d.invariant.same
          ∙ value-turn c.loop-d.n s i (omega arith)
          ∙ ap (λ (m : ℕ). capped (value_from m (drop (i + 1) s))) (sym c.appended-n.ensures.value);
    }
