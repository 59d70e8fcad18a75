-- `bad_numbers`: the closure's test, where there is a table. Assumes nothing.
use Rattle.std.proofs.Common.{◌≡◌, ℕ, Bool, List, rules, refl, sym, ap, ◌∙◌}
use Rattle.sizes.specs.Entries.{bad_near}
use Rattle.slices.specs.LentSlicing.{slicing_of}
use Rattle.slices.specs.Slicing.{bad_number, some_bad_number}
use Rattle.slices.specs.declared.Slicing.{Slicing}
use Rattle.visits.specs.Checks.{bad_around}
use Rattle.visits.proofs.checks.bad_numbers.Goals as goal

around : (bad : ℕ → Bool) (ns : List ℕ) (w x y : ℕ) → bad_near bad ns w x y ≡ bad_around bad ns w x y
unfolding bad_around
around bad ns w x y = refl

pub returns-in-Table : goal.returns-in-Table
returns-in-Table c =
    let a = c.args in
    let t = c.in-Table.records.now in
    c.bad_near.ensures (bad_number t) 0 (λ x b h. search rules)
    ∙ around (bad_number t) c.in-Table.numbers.now a.place.w a.place.x a.place.y
    ∙ sym (ap (λ (s : Slicing). some_bad_number (slicing_of s) (λ bad ns. bad_around bad ns a.place.w a.place.x a.place.y)) c.in-Table.is)
