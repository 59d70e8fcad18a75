-- What the code is lent, as the lists of the theory.
use Rattle.motion.specs.Grids.{Grids, grids}
use Rattle.motion.specs.declared.grids.Grids.{Grids as Lent}

abbrev pub grids_of : Lent → Grids
grids_of g =
    grids g.inter.now g.nnz.now g.list0.references.now g.list0.vectors.now g.list1.references.now g.list1.vectors.now
    g.list0.pictures.now g.list1.pictures.now
