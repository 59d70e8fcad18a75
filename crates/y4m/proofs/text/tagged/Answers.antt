-- The first two of the line's tags tell how often it has the tag.
use Rattle.std.proofs.Common.{rules, eqb, refl, sym}
use borrow.Author.Tests.{tests}
use Rattle.std.proofs.lemmas.Iterator.Adapters.{YieldsList-from_skip}
use Rattle.std.proofs.lemmas.Iterator.Consumers.{YieldsList-at, YieldsList-from_filter}
use Rattle.std.proofs.lemmas.Iterator.Splits.{YieldsList-from_slice_split}
use Rattle.y4m.specs.Places.{is_tag}
use Rattle.y4m.proofs.Words.{no-more, one-only, two-more, untagged, tagged-twice, tagged-once}
use Rattle.y4m.proofs.text.tagged.Goals as goal

pub returns-in_default : goal.returns-in_default
returns-in_default c =
    let t = c.args.t in
    let l = c.args.line.now in
    untagged t l (no-more _ _ _
    (YieldsList-from_filter _ (is_tag t)
    (YieldsList-at c.filter-tags.ensures.source
    (YieldsList-from_skip 1
    (YieldsList-at c.skip.ensures.source
    (YieldsList-from_slice_split _ (λ x. eqb x 32) l c.split.ensures.rest c.split.ensures.done c.split.ensures.closure (λ x b q k. search (rules, tests)))) c.skip.ensures.count)) c.filter-tags.ensures.closure (λ x b q k. search (rules, tests)))
    c.in_default.is c.next.ensures.steps)

pub returns-then-twice : goal.returns-then-twice
returns-then-twice c =
    let t = c.args.t in
    let l = c.args.line.now in
    let two = two-more _ _ _
    (YieldsList-from_filter _ (is_tag t)
    (YieldsList-at c.filter-tags.ensures.source
    (YieldsList-from_skip 1
    (YieldsList-at c.skip.ensures.source
    (YieldsList-from_slice_split _ (λ x. eqb x 32) l c.split.ensures.rest c.split.ensures.done c.split.ensures.closure (λ x b q k. search (rules, tests)))) c.skip.ensures.count)) c.filter-tags.ensures.closure (λ x b q k. search (rules, tests)))
    c.in-Some.tag c.in-Some.is c.next.ensures.steps c.next-2.ensures.steps (sym c.if-twice.ensures) in
    (tagged-twice t l two.2, refl)

pub returns : goal.returns
returns c =
    let t = c.args.t in
    let l = c.args.line.now in
    let one = one-only _ _ _
    (YieldsList-from_filter _ (is_tag t)
    (YieldsList-at c.filter-tags.ensures.source
    (YieldsList-from_skip 1
    (YieldsList-at c.skip.ensures.source
    (YieldsList-from_slice_split _ (λ x. eqb x 32) l c.split.ensures.rest c.split.ensures.done c.split.ensures.closure (λ x b q k. search (rules, tests)))) c.skip.ensures.count)) c.filter-tags.ensures.closure (λ x b q k. search (rules, tests)))
    c.in-Some.tag c.in-Some.is c.next.ensures.steps c.next-2.ensures.steps (sym c.if-twice.ensures) in
    tagged-once t l one c.get.result c.get.ensures.lookup
