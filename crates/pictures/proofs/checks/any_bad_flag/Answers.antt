-- `any_bad_flag`: the closure's test, of the entries from a to b. Assumes nothing.
use Rattle.std.proofs.Common.{rules, length, not, Bool, ◌&&◌, sym, ap, ◌∙◌}
use borrow.Author.Tests.{ne_eqb}
use Rattle.sizes.specs.Entries.{bad_flag}
use Rattle.pictures.specs.Checks.{some_bad}
use Rattle.pictures.proofs.SomeBad.{any-some-bad}
use Rattle.pictures.proofs.checks.any_bad_flag.Goals as goal

pub returns : goal.returns
returns c =
    let a = c.args in
    let some = ne_eqb (length a.t8s.now) 0 c.if-t8s-eq0.false in
    c.any_bad.ensures bad_flag (λ x b h. search rules)
    ∙ any-some-bad bad_flag a.a a.b a.t8s.now c.requires.0 (c.requires.1 some)
    ∙ sym (ap (λ (none : Bool). not none && some_bad bad_flag a.a a.b a.t8s.now) some)
