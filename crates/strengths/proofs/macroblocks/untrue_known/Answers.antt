use Rattle.std.proofs.Common.{◌≡◌, ltb, get_or, sym, ◌∙◌, rules}
use Rattle.motion.specs.Lent.{grids_of}
use Rattle.strengths.specs.ByKind.{first_inter, untrue_by}
use Rattle.strengths.proofs.InterAgrees.{one_motion, some_counted, known_by, unasked}
use Rattle.strengths.proofs.macroblocks.untrue_known.Goals as goal

pub returns-then-not-asks_motion : goal.returns-then-not-asks_motion
returns-then-not-asks_motion c =
    let a = c.args.blocks.place in
    let g = grids_of c.args.g.now in
    rw c.origin.ensures at c.is_untrue.ensures
    ∙ unasked c.args.known (first_inter g.inter a.w a.x a.y) (one_motion g a.w a.x a.y) (some_counted g a.w a.x a.y)
    (sym c.asks_motion.ensures ∙ c.if-not-asks_motion.true)
    ∙ known_by g a.w a.x a.y c.requires.agree c.args.known

pub returns : goal.returns
returns c =
    let a = c.args.blocks.place in
    let g = grids_of c.args.g.now in
    let same : c.own_same-same.result ≡ one_motion g a.w a.x a.y = rw c.own-own.ensures at c.own_same-same.ensures in
    let found = c.some_own-counted.ensures (λ i. ltb 0 (get_or g.nnz i 0)) (λ r k b h l q. search rules) in
    let counted : c.some_own-counted.result ≡ some_counted g a.w a.x a.y = rw c.own-own.ensures at found in
    rw c.origin.ensures at c.is_untrue-2.ensures
    ∙ (λ i. untrue_by c.args.known (first_inter g.inter a.w a.x a.y) (same i) (counted i))
    ∙ known_by g a.w a.x a.y c.requires.agree c.args.known
