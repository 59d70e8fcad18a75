-- Slices that are lent, as the theory has them.
use Rattle.slices.specs.Slicing.{Slicing, single, sliced}
use Rattle.slices.specs.declared.Slicing.{Slicing as SlicingLent}
use Rattle.slices.specs.declared.Slicing.TheVariants.{Single, Table}

abbrev pub slicing_of : SlicingLent → Slicing
slicing_of (Single o) = single o
slicing_of (Table c t ns) = sliced c t.now ns.now
