-- `bad_marks`: the closure's test. Assumes nothing.
use Rattle.std.proofs.Common.{◌≡◌, ℕ, ◌+◌, ◌-◌, ◌*◌, Bool, ◌&&◌, ◌||◌, List, ltb, rules, ap, ◌∙◌}
use Rattle.sizes.proofs.Neighbours.{at-before}
use Rattle.sizes.specs.Entries.{bad_before, bad_near}
use Rattle.sizes.specs.Inner.{is_at}
use Rattle.visits.specs.Checks.{bad_mark, bad_marks}
use Rattle.visits.proofs.checks.bad_marks.Goals as goal

both : (ms : List ℕ) (w x y : ℕ) {a b : Bool} → a ≡ bad_near bad_mark ms w x y → b ≡ bad_before bad_mark (ltb 0 y && ltb (x + 1) w) ms (y * w + x) (w - 1)
    → (a || b) ≡ bad_marks ms w x y
unfolding bad_marks
both ms w x y e f = λ i. e i || f i

pub returns : goal.returns
returns c =
    let p = c.args.place in
    let ms = c.args.marks.now in
    let at = p.y * p.w + p.x in
    both ms p.w p.x p.y c.over_near-near.ensures
    (c.bad_before-upper_right.ensures bad_mark 0 (λ x b h. search rules) ∙ ap (is_at bad_mark 0 ms) c.upper_right.ensures
    ∙ at-before bad_mark 0 (ltb 0 p.y && ltb (p.x + 1) p.w) ms at (p.w - 1))
