-- Lemmas whose names a Rust path cannot say, for `using`. Assumes nothing.
use Rattle.std.proofs.lemmas.List.{get_or-take, get_or-drop}
use Rattle.laws.proofs.Bools.{and-true}
use Rattle.laws.proofs.Grid.{row_fits}
use Rattle.laws.proofs.Loop.{loops}
use Rattle.sizes.proofs.Sized.{frame-of-part-le}
use Rattle.edges.proofs.Before.{or-own}
use Rattle.edges.proofs.EdgeByEdge.{luma-written, chroma-pair-on, chroma-written}
use Rattle.edges.proofs.Layouts.{skip-lt, frame-times, luma-window}

pub ruleset luma_ways = luma-written

pub ruleset chroma_ways = (and-true, chroma-pair-on, chroma-written)

pub ruleset zeros = (loops, get_or-take, get_or-drop)

pub ruleset windows = (skip-lt, frame-times, luma-window)

pub ruleset rows_of_part = (loops, row_fits, frame-of-part-le)

pub ruleset neighbours = (or-own)
