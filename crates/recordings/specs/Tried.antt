-- Apart: no promise to a caller rests on it, but what this program says of itself. What the code holds of a
-- recording, as the theory has it.
use Rattle.std.specs.Prelude.{◌≡◌, Option, Some, None, is_some, length}
use Rattle.edges.specs.Picture.{Planes, planes}
use Rattle.edges.specs.LentPlanes.{samples, SamePlanes}
use Rattle.sizes.specs.declared.Size.{Size}
use Rattle.pictures.specs.Checks.{Lent}
use Rattle.pictures.specs.LentData.{given}
use Rattle.pictures.specs.declared.Lent.{Lent as DataLent}
use Rattle.recordings.specs.Orders.{Recording, WithMarks}
use Rattle.recordings.specs.declared.both.Recorded.{Recorded}
use Rattle.recordings.specs.declared.both.Tried.{Tried}
use Rattle.recordings.specs.declared.orders.Shown.{Shown}

-- a frame has no second picture, so what stands there is never looked at
abbrev pub second_given : Size → DataLent → Option DataLent → Lent
second_given size d None = given size d
second_given size d (Some e) = given size e

abbrev pub recording : Recorded → Recording
recording r = record { n = r.n; two = is_some r.second; first = given r.size r.first; second = second_given r.size r.first r.second }

-- planes and marks as they are filtered anew
abbrev pub tried : Tried → WithMarks
tried t = (samples t.planes, t.first.now, t.second.now)

pub record SameTried (t u : Tried) : Type 0 where
  pub planes : SamePlanes t.planes u.planes
  pub first : u.first.ghost_name ≡ t.first.ghost_name
  pub second : u.second.ghost_name ≡ t.second.ghost_name
  pub first_length : length u.first.now ≡ length t.first.now
  pub second_length : length u.second.now ≡ length t.second.now

-- planes that are only looked at
abbrev pub shown : Shown → Planes
shown p = planes p.luma.now p.u.now p.v.now
