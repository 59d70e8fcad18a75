-- One chroma offset, and one for each of U and V. Where they are equal a picture is filtered as it was when
-- one served both; where they differ luma and U are what they were with U's, and V what it was with V's.
-- Assumes nothing.
use mathlib.Core.Path.{◌≡◌, sym, refl}
use mathlib.Core.Bool.{true}
use mathlib.Core.List.{List}
use Prim.Native.Nat.{ℕ, ◌+◌, ◌-◌}
use lib.IntN.{ℤ, pos}
use Rattle.laws.specs.Loop.{span}
use Rattle.laws.proofs.Loops.{up_to-both}
use Rattle.lines.specs.Depth.{eight}
use Rattle.sizes.specs.Entries.{flag_at}
use Rattle.edges.specs.Alike.{held_by}
use Rattle.edges.specs.Picture.{Planes, planes, Held, entries, luma_of, chroma_of, macroblock_at, row_of, rows_of}
use Rattle.edges.specs.declared.Offsets.{Offsets}

-- what is held with the one chroma offset c, as it stood
abbrev pub held_with_one : ℕ → (ℕ → ℕ) → List ℕ → List ℕ → ℤ → ℤ → ℤ → Held
held_with_one w strengths qps t8s a b c = record { depth = eight; w = w; strengths = strengths; qp = λ i. pos (entries qps i); t8 = flag_at t8s; a = λ i. a; b = λ i. b; u = c; v = c; left = λ i. true; top = λ i. true; inner = λ i. true }

module _ (w : ℕ) (strengths : ℕ → ℕ) (qps t8s : List ℕ) (o : Offsets) where
  abbrev two : Held
  two = held_by w strengths qps t8s o

  abbrev one : ℤ → Held
  one = held_with_one w strengths qps t8s o.a o.b

  pub equal-held : o.chroma_u ≡ o.chroma_v → two ≡ one o.chroma_u
  equal-held e = λ i. held_by w strengths qps t8s (record { a = o.a; b = o.b; chroma_u = o.chroma_u; chroma_v = sym e i })

  -- ---- a relation of two states that a macroblock of each picture keeps is kept by rows
  module _ (c : ℤ) (R : Planes → Planes → Type 0) (kept : (x y : ℕ) (p q : Planes) → R p q → R (macroblock_at two x y p) (macroblock_at (one c) x y q)) where
    rows_both : (a b : ℕ) (p q : Planes) → R p q → R (rows_of two a b p) (rows_of (one c) a b q)
    unfolding rows_of row_of span
    rows_both a b p q =
        up_to-both R (b - a) _ _ p q (λ r s t l. up_to-both R w _ _ s t (λ x m n k. kept x (a + r) m n))

  -- ---- luma and U with U's, V with V's
  u-alone : (a b : ℕ) (p : Planes) → let q = rows_of (one o.chroma_u) a b p in ((rows_of two a b p).luma ≡ q.luma) × ((rows_of two a b p).u ≡ q.u)
  unfolding macroblock_at luma_of chroma_of
  u-alone a b p = rows_both o.chroma_u (λ s t. (s.luma ≡ t.luma) × (s.u ≡ t.u)) kept a b p p (refl, refl)
    where
      kept : (x y : ℕ) (s t : Planes) → (s.luma ≡ t.luma) × (s.u ≡ t.u)
          → ((macroblock_at two x y s).luma ≡ (macroblock_at (one o.chroma_u) x y t).luma) × ((macroblock_at two x y s).u ≡ (macroblock_at (one o.chroma_u) x y t).u)
      kept x y s t h = (λ i. luma_of two x y (h.0 i), λ i. chroma_of two o.chroma_u x y (h.1 i))

  v-alone : (a b : ℕ) (p : Planes) → (rows_of two a b p).v ≡ (rows_of (one o.chroma_v) a b p).v
  unfolding macroblock_at luma_of chroma_of
  v-alone a b p = rows_both o.chroma_v (λ s t. s.v ≡ t.v) kept a b p p refl
    where
      kept : (x y : ℕ) (s t : Planes) → s.v ≡ t.v → (macroblock_at two x y s).v ≡ (macroblock_at (one o.chroma_v) x y t).v
      kept x y s t h = λ i. chroma_of two o.chroma_v x y (h i)

  pub rows-each : (a b : ℕ) (p : Planes)
      → rows_of two a b p ≡ planes (rows_of (one o.chroma_u) a b p).luma (rows_of (one o.chroma_u) a b p).u (rows_of (one o.chroma_v) a b p).v
  rows-each a b p = λ i. planes ((u-alone a b p).0 i) ((u-alone a b p).1 i) (v-alone a b p i)
