use Rattle.std.proofs.Common.{◌≡◌, ◌*◌, true, ◌==◌, slice_index, sym, ap, ◌∙◌}
use Rattle.laws.proofs.Bools.{and-true}
use Rattle.motion.specs.Lent.{grids_of}
use Rattle.strengths.specs.Blocks.{origin}
use Rattle.strengths.specs.Kinds.{is_kind}
use Rattle.strengths.proofs.InterAgrees.{known-kind, found-kind}
use Rattle.strengths.proofs.OwnAlike.{one-motion}
use Rattle.strengths.proofs.macroblocks.kind_found.Goals as goal

pub returns-then-first-says_any : goal.returns-then-first-says_any
returns-then-first-says_any c =
    let a = c.args.blocks.place in
    let g = grids_of c.args.g.now in
    let first : (slice_index c.args.g.now.inter.now c.origin.result == 1) ≡ true = (and-true _ _ c.if-first-says_any.true).0 in
    ap (is_kind g a.w a.x a.y) c.of_flags.ensures
    ∙ found-kind g a.w a.x a.y c.requires.agree c.own_alike.result
    (rw c.origin.ensures at first)
    (λ e. one-motion g (origin a.w a.x a.y) (4 * a.w) (sym (rw c.own.ensures at c.own_alike.ensures) ∙ e))

pub returns : goal.returns
returns c =
    let a = c.args.blocks.place in
    let g = grids_of c.args.g.now in
    ap (is_kind g a.w a.x a.y) (rw c.origin.ensures at c.kind.ensures) ∙ known-kind g a.w a.x a.y c.requires.agree c.args.known c.requires.said
