-- The picture that a reference names: docs/RULES.md, "Strengths". In ITU-T H.264, clause 8.7.2.1, whether two
-- blocks use the same reference pictures depends on the pictures alone, not on the list or on the index that
-- names them; with weighted prediction two indices may name one. By the table 7, 9, 7 index 0 names picture
-- 7, and so does index 2; index 3 is past it and names none (proofs/Pictures).
use Rattle.std.specs.Prelude.{List, [], ◌∷◌, ℤ, pos, negsuc, slice_index_or}

-- no picture: -1
abbrev pub none : ℤ
none = negsuc 0

-- the picture of an index by a list's table, which holds one for each index: none for -1 and for an index
-- past the table
abbrev pub picture_in : List ℤ → ℤ → ℤ
picture_in pictures (pos i) = slice_index_or pictures i none
picture_in pictures (negsuc i) = none

-- what a reference names; where the table is empty, the picture of its own number
unfoldable pub named_by : List ℤ → ℤ → ℤ
named_by [] r = r
named_by (p ∷ pictures) r = picture_in (p ∷ pictures) r
