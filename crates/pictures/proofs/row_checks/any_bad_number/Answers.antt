-- `any_bad_number`: the closure's test, of the entries from a to b. Assumes nothing.
use Rattle.std.proofs.Common.{rules, sym, ap, subst, ◌∙◌}
use Rattle.slices.specs.Inner.{NumbersHold}
use Rattle.slices.specs.LentSlicing.{slicing_of}
use Rattle.slices.specs.Slicing.{bad_number, some_bad_number}
use Rattle.slices.specs.declared.Slicing.{Slicing}
use Rattle.pictures.specs.Checks.{some_bad}
use Rattle.pictures.proofs.SomeBad.{any-some-bad}
use Rattle.pictures.proofs.row_checks.any_bad_number.Goals as goal

pub returns-in-Table : goal.returns-in-Table
returns-in-Table c =
    let a = c.args in
    let t = c.in-Table.records.now in
    c.any_bad.ensures (bad_number t) (λ x b h. search rules)
    ∙ any-some-bad (bad_number t) a.a a.b c.in-Table.numbers.now c.requires.0 (subst (λ (s : Slicing). NumbersHold a.b (slicing_of s)) c.in-Table.is c.requires.1)
    ∙ sym (ap (λ (s : Slicing). some_bad_number (slicing_of s) (λ bad xs. some_bad bad a.a a.b xs)) c.in-Table.is)
