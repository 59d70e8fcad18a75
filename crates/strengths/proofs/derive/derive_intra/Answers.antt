use Rattle.std.proofs.Common.{◌≡◌, ℕ, ◌+◌, ◌*◌, ◌%◌, ◌<◌, sym, ap, ◌∙◌, arith, rules, set}
use Rattle.laws.proofs.Loop.{up_to-more, up_to-same, up_to-end}
use Rattle.strengths.specs.Edges.{intra_edge}
use Rattle.strengths.proofs.Edges.{same-intra, edges-flat}
use Rattle.strengths.proofs.derive.derive_intra.Goals as goal

first : (j : ℕ) → 4 * j % 4 ≡ 0
first j = omega arith

pub loop-j-preserved : goal.loop-j-preserved
loop-j-preserved c =
    let a = c.args in
    let j = c.loop-j.j in
    let e : (s : ℕ) → s < 4 → c.intra_edge-v.result ≡ intra_edge a.mode a.t8 a.x a.y (4 * j + s) =
    λ s h. c.intra_edge-v.ensures ∙ sym (same-intra (4 * j) s (first j) (omega arith) h a.mode a.t8 a.x a.y) in
    up_to-more _ _ _ c.loop-j.invariant (c.fill_four.ensures (λ n. c.intra_edge-v.result) (λ s n h q. search rules) ∙ up_to-same 4 _ _ c.loop-j.strengths (λ s u h. ap (λ (n : ℕ). set u (a.to + 4 * j + s) n) (e s h)))

pub returns : goal.returns
returns c =
    let a = c.args in
    up_to-end _ 8 _ _ c.loop-j.invariant (omega arith) (omega arith) ∙ edges-flat (intra_edge a.mode a.t8 a.x a.y) a.to a.strengths.now
