-- `edge`: the two passes are its lines. Assumes nothing.
use mathlib.Core.Path.{◌∙◌}
use Rattle.lines.specs.Depth.{eight}
use Rattle.batches.specs.Lines.{from_row}
use Rattle.batches.proofs.Bands.{row-columns}
use Rattle.batches.proofs.LanesPass.{short-both}
use Rattle.batches.proofs.chroma_passes.edge.Goals as goal

pub returns : goal.returns
returns g c =
    let a = c.args in
    rw c.normal.ensures at c.strong.ensures
    ∙ short-both eight a.e.s a.e.u a.e.v (from_row g.row.ROW) g.row.ROW (row-columns g.row.ROW c.requires.row_bound) a.t
