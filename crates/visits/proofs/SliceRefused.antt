-- Wrong calls with slices that look right, each shown to break the promise on the pair of SliceExamples.antt.
-- Assumes nothing.
use mathlib.Core.Path.{◌≡◌, sym, ap, ◌∙◌}
use mathlib.Core.List.{[], ◌∷◌}
use Prim.Native.Nat.{ℕ}
use native.Mathlib.Omega.{arith}
use lib.IntN.{pos, negsuc}
use lib.ListN.{get_or}
use Rattle.edges.specs.Picture.{Planes}
use Rattle.sizes.specs.declared.Part.TheVariants.{Frame}
use Rattle.pictures.specs.Checks.{Lent}
use Rattle.pictures.specs.Rows.{RowOutcome}
use Rattle.visits.specs.Smallest.{pair_planes}
use Rattle.visits.proofs.SliceExamples.{of_mode, with_a, pair_by, edge_sample, by-modes, by-slice-number, by-offsets, pair-answers, pair-empty}

-- a call that is done leaves the sample of the example
left_there : (d : Lent) (p : Planes) → RowOutcome Frame d 0 1 pair_planes 0 p → get_or p.luma 15 0 ≡ edge_sample d
left_there d p r = ap (λ (q : Planes). get_or q.luma 15 0) r.leaves

-- mode 1 that also keeps the right neighbour's left edge
pub keeps-right : (p : Planes) → get_or p.luma 15 0 ≡ 100 → RowOutcome Frame (pair_by 40 (of_mode 1 ∷ of_mode 0 ∷ []) (0 ∷ 1 ∷ [])) 0 1 pair_planes 0 p → ⊥
keeps-right p e r = let k : ◌≡◌ {A = ℕ} 100 101 = sym e ∙ left_there _ p r ∙ by-modes.1 in omega arith

-- mode 1 that still filters its own left edge
pub mode-1-filters : (p : Planes) → get_or p.luma 15 0 ≡ 101 → RowOutcome Frame (pair_by 40 (of_mode 0 ∷ of_mode 1 ∷ []) (0 ∷ 1 ∷ [])) 0 1 pair_planes 0 p → ⊥
mode-1-filters p e r = let k : ◌≡◌ {A = ℕ} 101 100 = sym e ∙ left_there _ p r ∙ by-modes.2 in omega arith

-- mode 2 by record in the place of number: two slices with equal records taken for one
pub by-record : (p : Planes) → get_or p.luma 15 0 ≡ 101 → RowOutcome Frame (pair_by 40 (of_mode 2 ∷ of_mode 2 ∷ []) (0 ∷ 1 ∷ [])) 0 1 pair_planes 0 p → ⊥
by-record p e r = let k : ◌≡◌ {A = ℕ} 101 100 = sym e ∙ left_there _ p r ∙ by-slice-number.0 in omega arith

-- offsets of the slice that holds p0
pub offsets-of-p0 : (p : Planes) → get_or p.luma 15 0 ≡ 100 → RowOutcome Frame (pair_by 20 (with_a (negsuc 11) ∷ with_a (pos 0) ∷ []) (0 ∷ 1 ∷ [])) 0 1 pair_planes 0 p → ⊥
offsets-of-p0 p e r = let k : ◌≡◌ {A = ℕ} 100 101 = sym e ∙ left_there _ p r ∙ by-offsets.0 in omega arith

-- unused records not asked: for an offset, for a mode
pub unused-offset : (p : Planes) → RowOutcome Frame (pair_by 40 (of_mode 0 ∷ with_a (pos 13) ∷ []) (0 ∷ 0 ∷ [])) 0 1 pair_planes 0 p → ⊥
unused-offset p r = let k : ◌≡◌ {A = ℕ} 0 6 = r.says ∙ pair-answers.2 in omega arith

pub unused-mode : (p : Planes) → RowOutcome Frame (pair_by 40 (of_mode 0 ∷ of_mode 3 ∷ []) (0 ∷ 0 ∷ [])) 0 1 pair_planes 0 p → ⊥
unused-mode p r = let k : ◌≡◌ {A = ℕ} 0 21 = r.says ∙ pair-answers.3 in omega arith

-- 21 before 20
pub mode-first : (p : Planes) → RowOutcome Frame (pair_by 40 (of_mode 3 ∷ []) (0 ∷ 1 ∷ [])) 0 1 pair_planes 21 p → ⊥
mode-first p r = let k : ◌≡◌ {A = ℕ} 21 20 = r.says ∙ pair-answers.5 in omega arith

-- an empty table taken for no slices
pub empty-for-none : (p : Planes) → RowOutcome Frame (pair_by 40 [] (0 ∷ 0 ∷ [])) 0 1 pair_planes 0 p → ⊥
empty-for-none p r = let k : ◌≡◌ {A = ℕ} 0 20 = r.says ∙ pair-answers.6 in omega arith

-- an empty range that asks of numbers, or does not ask of modes
pub empty-reads-numbers : (p : Planes) → RowOutcome Frame (pair_by 52 [] (7 ∷ 7 ∷ [])) 1 1 pair_planes 20 p → ⊥
empty-reads-numbers p r = let k : ◌≡◌ {A = ℕ} 20 0 = r.says ∙ pair-empty.0 in omega arith

pub empty-without-21 : (p : Planes) → RowOutcome Frame (pair_by 52 (of_mode 3 ∷ []) (7 ∷ 7 ∷ [])) 1 1 pair_planes 0 p → ⊥
empty-without-21 p r = let k : ◌≡◌ {A = ℕ} 0 21 = r.says ∙ pair-empty.1 in omega arith
