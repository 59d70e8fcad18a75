-- What std's search finds is where the text is cut.
use Rattle.std.proofs.Common.{rules, ◌≡◌, eqb, sym, ◌∙◌}
use Rattle.std.specs.List.{position}
use Rattle.std.proofs.lemmas.List.{take_rest}
use borrow.Author.Tests.{tests}
use Rattle.std.proofs.lemmas.Iterator.{YieldsList-from_slice}
use Rattle.std.proofs.lemmas.Iterator.Search.{position_from_yields_List}
use Rattle.y4m.proofs.Words.{split-found, split_none}
use Rattle.y4m.proofs.text.split_once.Goals as goal

pub returns-in_err-i : goal.returns-in_err-i
returns-in_err-i c =
    let b = c.args.b in
    let s = c.args.s.now in
    let found : c.position.result ≡ position (λ x. eqb x b) s = position_from_yields_List (λ x. eqb x b) _ _ c.position.result c.position.ensures.ran (YieldsList-from_slice s cc) (λ x b q k. search (rules, tests)) in
    rw c.from_residual.ensures (split_none b s (sym c.in_err-i.was ∙ found))

pub returns : goal.returns
returns c =
    let b = c.args.b in
    let s = c.args.s.now in
    let found : c.position.result ≡ position (λ x. eqb x b) s = position_from_yields_List (λ x. eqb x b) _ _ c.position.result c.position.ensures.ran (YieldsList-from_slice s cc) (λ x b q k. search (rules, tests)) in
    rw take_rest (split-found b s c.in_ok-i.i (sym c.in_ok-i.was ∙ found))
