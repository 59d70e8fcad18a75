-- Planes that are lent: their samples, and that they are still those that were lent, as long as before.
use Rattle.std.specs.Prelude.{◌≡◌, length}
use Rattle.edges.specs.Picture.{Planes, planes}
use Rattle.edges.specs.declared.Planes.{Planes as PlanesLent}

abbrev pub samples : PlanesLent → Planes
samples p = planes p.luma.now p.u.now p.v.now

pub record SamePlanes (p q : PlanesLent) : Type 0 where
  pub luma : q.luma.ghost_name ≡ p.luma.ghost_name
  pub u : q.u.ghost_name ≡ p.u.ghost_name
  pub v : q.v.ghost_name ≡ p.v.ghost_name
  pub luma_length : length q.luma.now ≡ length p.luma.now
  pub u_length : length q.u.now ≡ length p.u.now
  pub v_length : length q.v.now ≡ length p.v.now
