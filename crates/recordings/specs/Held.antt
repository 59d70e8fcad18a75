-- Apart: no promise to a caller rests on it, but what this program says of itself. What is held of a picture
-- that was read, as the theory has it.
use Rattle.edges.specs.Picture.{Planes, planes}
use Rattle.sizes.specs.declared.Size.{Size}
use Rattle.slices.specs.Slicing.{Slicing, single, sliced}
use Rattle.pictures.specs.Checks.{Lent, lent_by}
use Rattle.recordings.specs.declared.load.Frame.{Frame}
use Rattle.recordings.specs.declared.load.Held.{Held}
use Rattle.recordings.specs.declared.load.Slices.{Slices}
use Rattle.recordings.specs.declared.load.Slices.TheVariants.{Single, Table}

abbrev pub slicing_held : Slices → Slicing
slicing_held (Single o) = single o
slicing_held (Table c t ns) = sliced c t.items ns.items

abbrev pub lent_held : Size → Held → Lent
lent_held size l = lent_by size (slicing_held l.slices) l.strengths.items l.qps.items l.t8s.items

abbrev pub planes_held : Frame → Planes
planes_held f = planes f.luma.items f.u.items f.v.items
