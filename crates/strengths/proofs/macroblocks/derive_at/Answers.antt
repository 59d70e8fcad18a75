use Rattle.std.proofs.Common.{length, ◌∙◌}
use Rattle.motion.specs.Lent.{grids_of}
use Rattle.strengths.proofs.DeriveOutcomes.{passed, by-true-kind}
use Rattle.strengths.proofs.macroblocks.derive_at.Goals as goal

pub invariant_of-blocks : goal.invariant_of-blocks
invariant_of-blocks c = let a = c.args in let s = a.source.now in record { is_small = (passed s.size a.x a.y s.t8s.now (grids_of s.grids) (length a.strengths.now) _ c.requires).fits.place }

pub kind_found-kind-requires-clause-within : goal.kind_found-kind-requires-clause-within
kind_found-kind-requires-clause-within c = let a = c.args in let s = a.source.now in (passed s.size a.x a.y s.t8s.now (grids_of s.grids) (length a.strengths.now) _ c.requires).fits.within

pub kind_found-kind-requires-clause-agree : goal.kind_found-kind-requires-clause-agree
kind_found-kind-requires-clause-agree c = let a = c.args in let s = a.source.now in (passed s.size a.x a.y s.t8s.now (grids_of s.grids) (length a.strengths.now) _ c.requires).agree

pub kind_found-kind-requires-clause-said : goal.kind_found-kind-requires-clause-said
kind_found-kind-requires-clause-said c = let a = c.args in let s = a.source.now in (passed s.size a.x a.y s.t8s.now (grids_of s.grids) (length a.strengths.now) _ c.requires).said

pub at-t-requires-clause-in_picture : goal.at-t-requires-clause-in_picture
at-t-requires-clause-in_picture c = let a = c.args in let s = a.source.now in (passed s.size a.x a.y s.t8s.now (grids_of s.grids) (length a.strengths.now) _ c.requires).fits.index

pub at-t-requires-clause-in_picture_2 : goal.at-t-requires-clause-in_picture_2
at-t-requires-clause-in_picture_2 c = let a = c.args in let s = a.source.now in (passed s.size a.x a.y s.t8s.now (grids_of s.grids) (length a.strengths.now) _ c.requires).fits.flags

pub derive-requires-clause-within : goal.derive-requires-clause-within
derive-requires-clause-within c = let a = c.args in let s = a.source.now in (passed s.size a.x a.y s.t8s.now (grids_of s.grids) (length a.strengths.now) _ c.requires).fits.within

pub derive-requires-clause-agree : goal.derive-requires-clause-agree
derive-requires-clause-agree c = let a = c.args in let s = a.source.now in (passed s.size a.x a.y s.t8s.now (grids_of s.grids) (length a.strengths.now) _ c.requires).agree

pub derive-requires-clause-room : goal.derive-requires-clause-room
derive-requires-clause-room c = let a = c.args in let s = a.source.now in (passed s.size a.x a.y s.t8s.now (grids_of s.grids) (length a.strengths.now) _ c.requires).fits.room

pub returns : goal.returns
returns c =
    let a = c.args in
    let s = a.source.now in
    let g = grids_of s.grids in
    let n = length a.strengths.now in
    (rw (c.for_field.ensures, c.at-t.ensures) at c.derive.ensures)
    ∙ by-true-kind s.size s.field a.x a.y s.t8s.now g a.strengths.now c.kind_found-kind.result n (passed s.size a.x a.y s.t8s.now g n _ c.requires).zero c.kind_found-kind.ensures
