-- The numbers of refusals: docs/RULES.md, "Answers".
use Rattle.std.specs.Prelude.{ℕ, List, map, Result, Ok, Err}
use Rattle.refusals.specs.declared.Refusal.{Refusal}
use Rattle.refusals.specs.declared.Refusal.TheVariants.{Size, Outside, Planes, Grids, Blocks, Offset, Flag, Qp, Strength, Reference, Mixed, Kind, Visited, NotReady, Malformed, OtherPlanes, Sides, Stream, Parity, SliceNumber, SliceMode, Picture}

abbrev pub code_of : Refusal → ℕ
code_of Size = 1
code_of Outside = 2
code_of Planes = 3
code_of Grids = 4
code_of Blocks = 5
code_of Offset = 6
code_of Flag = 7
code_of Qp = 8
code_of Strength = 9
code_of Reference = 10
code_of Mixed = 11
code_of Kind = 12
code_of Visited = 13
code_of NotReady = 14
code_of Malformed = 15
code_of OtherPlanes = 16
code_of Sides = 17
code_of Stream = 18
code_of Parity = 19
code_of SliceNumber = 20
code_of SliceMode = 21
code_of Picture = 22

-- of an outcome: 0 where nothing was refused
abbrev pub number_of : {T : Type 0} → Result T Refusal → ℕ
number_of (Ok x) = 0
number_of (Err r) = code_of r

-- .. of a list of them
abbrev pub answer_numbers : List (Result Unit Refusal) → List ℕ
answer_numbers = map number_of
