-- Digits alone, and one at least.
use Rattle.std.proofs.Common.{rules, sym, ◌∙◌}
use borrow.Author.Tests.{tests}
use Rattle.std.proofs.lemmas.Iterator.{YieldsList-from_slice}
use Rattle.std.proofs.lemmas.Iterator.Search.{all_from_yields_List}
use Rattle.y4m.specs.Text.{is_digit}
use Rattle.y4m.proofs.Values.{decimal-test}
use Rattle.y4m.proofs.text.is_decimal.Goals as goal

pub returns-then-not-is_empty : goal.returns-then-not-is_empty
returns-then-not-is_empty c =
    all_from_yields_List is_digit _ _ _ c.all.ensures.ran (YieldsList-from_slice c.args.s.now cc) (λ x b q k. search (rules, tests))
    ∙ decimal-test c.args.s.now (sym c.is_empty.ensures ∙ c.if-not-is_empty.true)
