-- Apart: no promise rests on it. The fault of the old release at its smallest: 2 by 2 flat macroblocks, 100
-- 103 above 105 104 in luma, QP 40, strength 1 on every edge between two of them. The recording `upper-right`
-- is this picture.
use Rattle.std.specs.Prelude.{ℕ, zero, suc, List, [], ◌∷◌, ◌++◌, replicate}
use Rattle.laws.specs.Places.{Plane}
use Rattle.edges.specs.Picture.{Held}
use Rattle.edges.specs.Cases.{no_offsets}
use Rattle.pictures.specs.Checks.{Lent, lent, held_of}

-- n lines, each of m samples a and k samples b
unfoldable pub band : ℕ → ℕ → ℕ → ℕ → ℕ → Plane
band zero m a k b = []
band (suc n) m a k b = replicate m a ++ replicate k b ++ band n m a k b

unfoldable pub fault_luma : Plane
fault_luma = band 16 16 100 16 103 ++ band 16 16 105 16 104

-- the 32 strengths of a macroblock: s on its left edge, t on its top edge
abbrev pub outer_strengths : ℕ → ℕ → List ℕ
outer_strengths s t = replicate 4 s ++ replicate 12 0 ++ replicate 4 t ++ replicate 12 0

abbrev pub fault_strengths : List ℕ
fault_strengths = outer_strengths 0 0 ++ outer_strengths 1 0 ++ outer_strengths 0 1 ++ outer_strengths 1 1

abbrev pub fault_lent : Lent
fault_lent =
    lent (record { w = 2; h = 2 }) no_offsets fault_strengths (40 ∷ 40 ∷ 40 ∷ 40 ∷ []) []

abbrev pub fault_held : Held
fault_held = held_of fault_lent
