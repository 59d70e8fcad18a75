-- Worked examples: the answers to requests to both fields, of one macroblock each. Assumes nothing.
use mathlib.Core.Path.{◌≡◌, refl}
use mathlib.Core.List.{[], ◌∷◌, replicate}
use Rattle.edges.specs.Picture.{planes}
use Rattle.edges.specs.Cases.{no_offsets}
use Rattle.sizes.specs.declared.Size.{Size}
use Rattle.visits.specs.Checks.{early_in}
use Rattle.visits.specs.Visit.{answer, visit, answers}
use Rattle.interlaced.specs.Both.{OfField, unvisited_both, both_visit}
use Rattle.interlaced.specs.Inner.{of_field}

abbrev one : Size
one = record { w = 1; h = 1 }

abbrev still_field : OfField
still_field = of_field no_offsets (replicate 32 0) (30 ∷ []) []

-- with no planes: a parity of 2; the right parity, and 3; outside the picture, with a right parity and a
-- wrong one
no-planes : answers (both_visit one still_field still_field) ((2, (0, 0)) ∷ (0, (0, 0)) ∷ (1, (1, 0)) ∷ (255, (0, 1)) ∷ []) (unvisited_both one (planes [] [] []))
    ≡ 19 ∷ 3 ∷ 2 ∷ 2 ∷ []
unfolding both_visit visit answer early_in
no-planes = refl
