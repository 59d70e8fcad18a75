-- `filter_edges`: the calls make the definition's step. Assumes nothing.
use native.Mathlib.Omega.{arith}
use Prim.Native.Nat.{◌+◌, ◌*◌}
use Rattle.edges.specs.Laid.{layout_of}
use Rattle.edges.specs.Alike.{held_as}
use Rattle.edges.specs.Picture.{entries}
use Rattle.edges.proofs.EdgeByEdge.{after-rest}
use Rattle.edges.proofs.Layouts.{skip-lt, frame-times}
use Rattle.edges.proofs.ByPlan.{luma-inside, chroma-inside, planned}
use Rattle.edges.proofs.picture.filter_edges.Goals as goal

pub luma_plane-requires : goal.luma_plane-requires
luma_plane-requires c =
    let a = c.args in
    let d = a.grids.now in
    let g = held_as a.place.w (entries d.strengths.now) d.qps.now d.t8s.now a.settings.offsets a.settings.on in
    let k = frame-times a.part (a.place.y * a.place.w + a.place.w) in (
      luma-inside g (layout_of a.part) a.place.x a.place.y (skip-lt a.part c.requires.0) c.requires.1 _ (omega (arith, k, c.requires.2.luma)) _
          (c.plan_at-plan.ensures (entries d.strengths.now)),
      omega (arith, c.requires),
    )

pub chroma_planes-requires : goal.chroma_planes-requires
chroma_planes-requires c =
    let a = c.args in
    let d = a.grids.now in
    let g = held_as a.place.w (entries d.strengths.now) d.qps.now d.t8s.now a.settings.offsets a.settings.on in
    let k = frame-times a.part (a.place.y * a.place.w + a.place.w) in
    let turn = skip-lt a.part c.requires.0 in
    let e = c.plan_at-plan.ensures (entries d.strengths.now) in (
      chroma-inside g (layout_of a.part) a.place.x a.place.y turn c.requires.1 _ (omega (arith, k, c.requires.2.u)) _ e,
      chroma-inside g (layout_of a.part) a.place.x a.place.y turn c.requires.1 _ (omega (arith, k, c.requires.2.v)) _ e,
      omega (arith, c.requires),
    )

pub returns-clause-is : goal.returns-clause-is
returns-clause-is c =
    let a = c.args in
    let d = a.grids.now in
    let mine = after-rest d.strengths.now (32 * (a.place.y * a.place.w + a.place.x)) in
    planned (held_as a.place.w (entries d.strengths.now) d.qps.now d.t8s.now a.settings.offsets a.settings.on) (layout_of a.part) a.place.x a.place.y a.planes.now.luma.now a.planes.now.u.now a.planes.now.v.now _
    (c.plan_at-plan.ensures (entries d.strengths.now)) (rw (c.address.ensures, mine) at c.luma_plane.ensures) (rw (c.address.ensures, mine) at c.chroma_planes.ensures.u_after) (rw (c.address.ensures, mine) at c.chroma_planes.ensures.v_after)
