use Rattle.std.proofs.Common.{◌≡◌, ℕ, ◌+◌, ◌*◌, Bool, true, false, ◌||◌, sym, subst, ◌∙◌}
use Rattle.laws.proofs.Bools.{or-false}
use Rattle.strengths.specs.Eights.{across_flag, p_odd, q_odd, coded_by, InCounts}
use Rattle.strengths.proofs.CodedBlocks.{p-counts}
use Rattle.strengths.proofs.Edges.{located, same-border, same_flag}
use Rattle.strengths.proofs.fours.MbEdge.is_coded.Goals as goal

-- by their own counts, where neither is of an 8x8 macroblock
pub returns-then-not-across-own : goal.returns-then-not-across-own
unfolding coded_by
returns-then-not-across-own c =
    let e = c.args.self in
    let k = e.k + c.args.s in
    let o = or-false _ _ c.if-not-across-own.true in
    let t : across_flag e.t k ≡ false = same_flag e.k c.args.s e.is_edge.first e.is_edge.byte c.requires.segment e.t ∙ sym c.across-across.ensures ∙ o.0 in
    sym (λ i. coded_by c.args.nnz.now (4 * e.blocks.place.w) (t i) (p_odd k) (sym c.p-p.ensures.is i) || coded_by c.args.nnz.now (4 * e.blocks.place.w) (o.1 i) (q_odd k) (sym c.q-q.ensures.is i))

moved : {n stride odd odd' i i' : ℕ} {t : Bool} → odd ≡ odd' → i ≡ i' → InCounts n stride t odd i → InCounts n stride t odd' i'
moved {n} {stride} {odd} {odd'} {i} {i'} {t} e f h = subst (λ (j : ℕ). InCounts n stride t odd' j) f (subst (λ (o : ℕ). InCounts n stride t o i) e h)

pub coded_by-before-requires : goal.coded_by-before-requires
coded_by-before-requires c =
    let e = c.args.self in
    let p = e.blocks.place in
    let d = e.is_edge in
    let s = c.args.s in
    let h = located p.w p.x p.y e.k s e.way d.first d.byte c.requires.segment e.blocks.is_small.column d.is d.inside in
    let b = same-border e.k s d.first d.byte c.requires.segment p.x p.y ∙ d.inside in
    rw c.stride-stride.ensures
    (moved (sym (c.odd_row.ensures ∙ h.p-row)) (sym c.p-p.ensures.is) (p-counts p.w (λ i. true) p.x p.y (e.k + s) e.blocks.is_small.column c.across-across.result b c.requires.counts.last))
