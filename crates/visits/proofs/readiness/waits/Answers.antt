-- `waits`: the three marks read are those of the neighbours, found by index. Assumes nothing.
use Rattle.std.proofs.Common.{◌≡◌, not, ◌&&◌, ◌||◌, ◌+◌, ◌-◌, ◌*◌, ◌<◌, ℕ, List, Bool, eqb, ltb, get_or, refl, rules, sym, ap, ◌∙◌, arith}
use lib.Dec.{ltb→lt}
use Rattle.laws.proofs.Grid.{row-pos}
use Rattle.laws.proofs.Bools.{and_parts, guarded}
use Rattle.sizes.proofs.Neighbours.{at-before}
use Rattle.sizes.specs.Inner.{is_at}
use Rattle.visits.proofs.Outcome.{waiting-by-index}
use Rattle.visits.proofs.readiness.waits.Goals as goal

abbrev lacks : ℕ → Bool
lacks m = not (eqb m 1)

-- w - 1 places before i is one after the upper neighbour
corner : (marks : List ℕ) (w x y : ℕ) → x < w → let i = y * w + x in let near = ltb 0 y && ltb (x + 1) w in
    (near && lacks (get_or marks (i - (w - 1)) 0)) ≡ (near && lacks (get_or marks (i - w + 1) 0))
corner marks w x y h =
    guarded (ltb 0 y && ltb (x + 1) w)
    (λ t.
    let p = row-pos y w (ltb→lt 0 y (and_parts (ltb 0 y) (ltb (x + 1) w) t).0) in
    let e : y * w + x - (w - 1) ≡ y * w + x - w + 1 = omega arith in
    ap (λ (k : ℕ). lacks (get_or marks k 0)) e)

pub returns : goal.returns
returns c =
    let p = c.args.place in
    let ms = c.args.marks.now in
    let at = p.y * p.w + p.x in
    let left = c.bad_before-left.ensures lacks 0 (λ x b h. search rules) ∙ ap (is_at lacks 0 ms) c.left.ensures ∙ at-before lacks 0 (ltb 0 p.x) ms at 1 in
    let upper = c.bad_before-upper.ensures lacks 0 (λ x b h. search rules) ∙ ap (is_at lacks 0 ms) c.upper.ensures ∙ at-before lacks 0 (ltb 0 p.y) ms at p.w in
    let right =
    c.bad_before-upper_right.ensures lacks 0 (λ x b h. search rules) ∙ ap (is_at lacks 0 ms) c.upper_right.ensures
    ∙ at-before lacks 0 (ltb 0 p.y && ltb (p.x + 1) p.w) ms at (p.w - 1) ∙ corner ms p.w p.x p.y c.requires.column in
    (λ i. left i || upper i || right i) ∙ sym (waiting-by-index p.w ms p.x p.y at refl)
