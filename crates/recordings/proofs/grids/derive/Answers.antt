use mathlib.Core.Path.{refl, ap, ◌∙◌}
use Rattle.std.proofs.Common.{Bool, ◌&&◌, length}
use native.Mathlib.Omega.{arith}
use Rattle.motion.specs.Lent.{grids_of}
use Rattle.laws.proofs.Loop.{up_to-none, up_to-more}
use Rattle.laws.proofs.Some.{every-none, every_more}
use Rattle.recordings.proofs.Derived.{ok-by-number, turn}
use Rattle.recordings.proofs.grids.derive.Goals as goal

pub loop-i-init : goal.loop-i-init
loop-i-init c = record { long = refl; all = every-none _; leaves = up_to-none _ _ }

pub loop-i-preserved : goal.loop-i-preserved
loop-i-preserved c =
    let a = c.args in
    let s = a.source.now in
    let i = c.loop-i.invariant in
    let t = turn s.size s.field (grids_of s.grids) s.t8s.now c.loop-i.i (length a.strengths.now) i.long c.column-x.ensures c.row-y.ensures c.derive_mb.ensures in
    record {
      long = omega (arith, i.long, c.derive_mb.auto.strengths);
      all = every_more _ _ i.all (ap (λ (x : Bool). c.loop-i.done && x) (c.is_ok-done.ensures.value ∙ ok-by-number c.derive_mb.result ∙ t.0));
      leaves = up_to-more _ _ _ i.leaves t.1;
    }
