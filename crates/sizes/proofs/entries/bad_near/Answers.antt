-- `bad_near`: a neighbour's entry is read where there is one. Assumes nothing.
use Rattle.std.proofs.Common.{◌∙◌, ap, ltb, ◌+◌, ◌*◌, get_or, ℕ, rules}
use Rattle.std.proofs.lemmas.List.{get_or_default}
use Rattle.sizes.proofs.Neighbours.{at-before}
use Rattle.sizes.specs.Inner.{is_at}
use Rattle.sizes.proofs.entries.bad_near.Goals as goal

pub returns : goal.returns
returns g c = λ p none t.
    let a = c.args in
    let at = a.place.y * a.place.w + a.place.x in
    let x = c.index-xs-address.result in
    let read = c.index-xs-address.is ∙ ap (λ (i : ℕ). get_or a.xs.now i x) c.address.ensures ∙ get_or_default a.xs.now at x none c.requires.place.index in
    let own = t _ _ c.bad-own.ensures ∙ ap p read in
    let left = c.bad_before-left.ensures p none t ∙ ap (is_at p none a.xs.now) c.left.ensures ∙ at-before p none (ltb 0 a.place.x) a.xs.now at 1 in
    let upper = c.bad_before-upper.ensures p none t ∙ ap (is_at p none a.xs.now) c.upper.ensures ∙ at-before p none (ltb 0 a.place.y) a.xs.now at a.place.w in
    search (own, left, upper, rules)
