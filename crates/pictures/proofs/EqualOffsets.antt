-- As before: with equal chroma offsets a filtering call is what it was when one served U and V, which is
-- spelled out here; with two, each plane of a row call is what it was with its own. Assumes nothing.
use mathlib.Core.Path.{◌≡◌, refl, sym, ap, ◌∙◌}
use mathlib.Core.Bool.{Bool, true, false, cond, ◌||◌}
use mathlib.Core.List.{List, [], ◌∷◌, ◌++◌}
use Prim.Native.Nat.{ℕ, ◌*◌}
use lib.Dec.{eqb}
use lib.IntN.{ℤ}
use lib.ListN.{length}
use Rattle.laws.specs.Refusal.{refusal}
use Rattle.edges.specs.Fields.{taken_out, put_back, on_part}
use Rattle.edges.specs.Picture.{Planes, planes, Held, entries, rows_of}
use Rattle.edges.specs.declared.Offsets.{Offsets}
use Rattle.edges.proofs.OwnOffset.{held_with_one, equal-held, rows-each}
use Rattle.sizes.specs.declared.Part.{Part}
use Rattle.sizes.specs.declared.Part.TheVariants.{Frame, Field}
use Rattle.sizes.specs.declared.Size.{Size}
use Rattle.slices.specs.Slicing.{single}
use Rattle.slices.specs.Table.{bad_offset, bad_offsets}
use Rattle.pictures.specs.Checks.{Lent, lent, held_of, bad_lent, picture_checks, Reads, entry_checks, slice_checks, filter_checks}
use Rattle.pictures.specs.Rows.{bad_range, row_reads, row_answer, RowOutcome}

-- check 6 of three offsets
abbrev pub bad_three : ℤ → ℤ → ℤ → Bool
bad_three a b c = bad_offset a || bad_offset b || bad_offset c

asked_twice : (x y : Bool) → (x || y || y) ≡ (x || y)
asked_twice true y = refl
asked_twice false true = refl
asked_twice false false = refl

pub equal-offsets : (o : Offsets) → o.chroma_u ≡ o.chroma_v → bad_offsets o ≡ bad_three o.a o.b o.chroma_u
equal-offsets o e =
    ap (λ (c : ℤ). bad_three o.a o.b o.chroma_u || bad_offset c) (sym e)
    ∙ asked_twice (bad_offset o.a || bad_offset o.b) (bad_offset o.chroma_u)

module _ (size : Size) (o : Offsets) (strengths qps t8s : List ℕ) where
  abbrev d : Lent
  d = lent size o strengths qps t8s

  -- what is held, and all checks, with the chroma offset c
  abbrev pub one_held : ℤ → Held
  one_held c = held_with_one size.w (entries strengths) qps t8s o.a o.b c

  -- `six`: check 6 applies
  abbrev checks_with : Bool → Part → ℕ → ℕ → ℕ → Bool → Bool → Reads → List (ℕ × Bool)
  checks_with six part luma u v outside other r =
      picture_checks part size outside luma u v
      ++ ((4, bad_lent (size.w * size.h) (length strengths) (length qps) (length t8s) || other) ∷ (6, six) ∷ [])
      ++ entry_checks qps r
      ++ slice_checks (single o) r

  abbrev pub one_checks : ℤ → Part → ℕ → ℕ → ℕ → Bool → Bool → Reads → List (ℕ × Bool)
  one_checks c = checks_with (bad_three o.a o.b c)

  -- rows a to b of a part, filtered with the chroma offset c
  abbrev pub one_rows : ℤ → Part → ℕ → ℕ → Planes → Planes
  one_rows c part a b = on_part part size (rows_of (one_held c) a b)

  module _ (e : o.chroma_u ≡ o.chroma_v) where
    pub equal-lent : held_of d ≡ one_held o.chroma_u
    equal-lent = equal-held size.w (entries strengths) qps t8s o e

    pub equal-checks : (part : Part) (luma u v : ℕ) (outside other : Bool) (r : Reads)
        → filter_checks part d luma u v outside other r ≡ one_checks o.chroma_u part luma u v outside other r
    equal-checks part luma u v outside other r = λ i. checks_with (equal-offsets o e i) part luma u v outside other r

    pub equal-rows-before : (part : Part) (a b : ℕ) (p : Planes) {k : ℕ} {p' : Planes} → RowOutcome part d a b p k p' → let c = o.chroma_u in
        (k ≡ refusal (one_checks c part (length p.luma) (length p.u) (length p.v) (bad_range size a b) false (row_reads size.w a b strengths t8s)))
        × (p' ≡ cond (eqb k 0) (one_rows c part a b p) p)
    unfolding row_answer
    equal-rows-before part a b p {k} r =
        let reads = row_reads size.w a b strengths t8s in (
          r.says ∙ ap refusal (equal-checks part (length p.luma) (length p.u) (length p.v) (bad_range size a b) false reads),
          r.leaves ∙ (λ i. cond (eqb k 0) (on_part part size (rows_of (equal-lent i) a b) p) p),
        )

  -- ---- whatever the offsets: luma and U by U's, V by V's
  each_part : (part : Part) (a b : ℕ) (p : Planes) → let u = o.chroma_u in let v = o.chroma_v in
      on_part part size (rows_of (held_of d) a b) p ≡ planes (one_rows u part a b p).luma (one_rows u part a b p).u (one_rows v part a b p).v
  each_part Frame a b p = rows-each size.w (entries strengths) qps t8s o a b p
  each_part (Field q) a b p =
      ap (λ (f : Planes). put_back size q f p) (rows-each size.w (entries strengths) qps t8s o a b (taken_out size q p))

  pub each-by-its-own : (part : Part) (a b : ℕ) (p p' : Planes) → RowOutcome part d a b p 0 p' → let u = o.chroma_u in let v = o.chroma_v in
      p' ≡ planes (one_rows u part a b p).luma (one_rows u part a b p).u (one_rows v part a b p).v
  each-by-its-own part a b p p' r = r.leaves ∙ each_part part a b p
