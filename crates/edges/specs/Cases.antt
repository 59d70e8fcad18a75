-- Apart: no promise to a caller of the public calls rests on it. What worked cases of pictures are lent: all
-- four offsets 0.
use Rattle.std.specs.Prelude.{pos}
use Rattle.edges.specs.declared.Offsets.{Offsets}

abbrev pub no_offsets : Offsets
no_offsets = record { a = pos 0; b = pos 0; chroma_u = pos 0; chroma_v = pos 0 }
