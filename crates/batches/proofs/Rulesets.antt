-- Lemmas whose names a Rust path cannot say, for `using`. Assumes nothing.
use Rattle.laws.proofs.Bools.{and-true}
use Rattle.laws.proofs.Loop.{loops}
use Rattle.batches.proofs.LanesPass.{long-idle, long-both, short-idle, short-both}
use Rattle.batches.proofs.Bands.{row-columns}
use Rattle.batches.proofs.EdgeLines.{long-still, long-edge, short_still, pair-still, edges-u, edges-v}
use Rattle.batches.proofs.MovedRows.{copied-put}
use Rattle.batches.proofs.Segments.{none-strong}
use Rattle.batches.proofs.Shapes.{short-tc}

pub ruleset copied = copied-put

pub ruleset passes = (loops, long-idle, short-idle)

pub ruleset both_passes = (long-both, short-both, row-columns)

pub ruleset edge_lines = (long-still, long-edge)

pub ruleset strong_bits = none-strong

pub ruleset chroma_turns = (loops, short_still, short-tc)

pub ruleset pair_lines = (and-true, pair-still, edges-u, edges-v)
