-- Apart: no promise to a caller of the public calls rests on it. What the code holds while it filters one
-- macroblock: offsets and switches by value. They stand for every macroblock; of those that are not filtered
-- nothing is said by them.
use Rattle.std.specs.Prelude.{ℕ, true, List, pos}
use Rattle.lines.specs.Depth.{eight}
use Rattle.sizes.specs.Entries.{flag_at}
use Rattle.edges.specs.Picture.{Held, entries}
use Rattle.edges.specs.declared.EdgesOn.{EdgesOn}
use Rattle.edges.specs.declared.Offsets.{Offsets}

abbrev pub held_as : ℕ → (ℕ → ℕ) → List ℕ → List ℕ → Offsets → EdgesOn → Held
held_as w strengths qps t8s o on = record { depth = eight; w = w; strengths = strengths; qp = λ i. pos (entries qps i); t8 = flag_at t8s; a = λ i. o.a; b = λ i. o.b; u = o.chroma_u; v = o.chroma_v; left = λ i. on.left; top = λ i. on.top; inner = λ i. on.inner }

-- a picture of one slice, so that all its edges are filtered with one pair of offsets: by strengths given as
-- a sequence, and by those of a grid
abbrev pub every_edge : EdgesOn
every_edge = record { left = true; top = true; inner = true }

abbrev pub held_by : ℕ → (ℕ → ℕ) → List ℕ → List ℕ → Offsets → Held
held_by w strengths qps t8s o = held_as w strengths qps t8s o every_edge

abbrev pub held : ℕ → List ℕ → List ℕ → List ℕ → Offsets → Held
held w strengths = held_by w (entries strengths)
