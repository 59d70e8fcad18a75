use Rattle.motion.specs.Lent.{grids_of}
use Rattle.strengths.proofs.Along.{one-macroblock}
use Rattle.strengths.proofs.calls.derive_known.Goals as goal

pub returns : goal.returns
returns c =
    let a = c.args in
    let s = a.source.now in
    one-macroblock s.size s.field a.x a.y a.known s.t8s.now (grids_of s.grids) a.strengths.now _ _ c.derive_stretch.ensures
