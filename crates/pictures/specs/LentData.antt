-- What is lent beside the planes, as the theory has it.
use Rattle.sizes.specs.declared.Size.{Size}
use Rattle.slices.specs.LentSlicing.{slicing_of}
use Rattle.pictures.specs.Checks.{Lent, lent_by}
use Rattle.pictures.specs.declared.Lent.{Lent as DataLent}

-- of a picture of that size
abbrev pub given : Size → DataLent → Lent
given size d = lent_by size (slicing_of d.slicing) d.grids.strengths.now d.grids.qps.now d.grids.t8s.now
