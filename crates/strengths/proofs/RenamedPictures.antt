-- Pictures renamed one to one change nothing for a strength call: no answer, and no strength. Assumes
-- nothing.
use mathlib.Core.Path.{◌≡◌, refl, sym, ap, subst, ◌∙◌}
use mathlib.Core.Bool.{Bool, false, ◌||◌}
use mathlib.Core.List.{List, [], ◌∷◌, map}
use Prim.Native.Nat.{ℕ, ◌*◌, ◌<◌, zero-le}
use native.Mathlib.Decide.{ℕ_discrete}
use native.Mathlib.Omega.{arith}
use borrow.Author.Tests.{le-leb, le-ltb}
use lib.Dec.{eqb, ltb, eqb→eq}
use lib.IntN.{ℤ, pos, negsuc}
use lib.ListN.{length, get_or, length-map, get_or-map, get_or-eq_default}
use lib.Signed.{lt_z, le_z}
use Rattle.laws.specs.Equal.{eq_z}
use Rattle.laws.specs.Refusal.{refusal}
use Rattle.laws.specs.Some.{some}
use Rattle.laws.proofs.Bools.{eq→eqb}
use Rattle.laws.proofs.Equal.{same_test}
use Rattle.laws.proofs.Lists.{within-any}
use Rattle.laws.proofs.Some.{some_same}
use Rattle.motion.specs.Grids.{Grids, grids, ref_at, vector_at, block_of, block_read, blk_at}
use Rattle.motion.specs.Motion.{differ, same_motion}
use Rattle.motion.specs.Pictures.{none, named_by}
use Rattle.motion.specs.declared.blocks.Blk.{Blk}
use Rattle.motion.proofs.Renamed.{renamed_block, OneToOne, differ-renamed, same-renamed}
use Rattle.sizes.specs.declared.Size.{Size}
use Rattle.strengths.specs.Blocks.{some_read}
use Rattle.strengths.specs.Calls.{derive_checks}
use Rattle.strengths.specs.Checks.{bad_grids, bad_lengths, one_table, below_none, bad_refs, not_picture, bad_table}
use Rattle.strengths.proofs.Alike.{Alike, alike-blocks, equal-blocks, SameCalls, alike-calls}
use Rattle.strengths.proofs.SameReads.{read_same}
use Rattle.strengths.proofs.Tables.{with_tables, checks_by, tables_fit, passed-tables, neither, unlent}

-- ---- pictures renamed by f, one to one. That 0 to 65,535 stay such numbers, and others do not become any,
-- is asked because check 22 asks for them
pub record Renaming (f : ℕ → ℕ) : Type 0 where
  pub one-to-one : (p q : ℕ) → f p ≡ f q → p ≡ q
  pub numbers : (p : ℕ) → ltb 65535 (f p) ≡ ltb 65535 p

abbrev pub renamed_picture : (ℕ → ℕ) → ℤ → ℤ
renamed_picture f (pos p) = pos (f p)
renamed_picture f (negsuc p) = negsuc p

abbrev pub renamed : (ℕ → ℕ) → Grids → Grids
renamed f g =
    grids g.inter g.nnz g.ref0 g.mv0 g.ref1 g.mv1 (map (renamed_picture f) g.pictures0) (map (renamed_picture f) g.pictures1)

module _ (f : ℕ → ℕ) (one : Renaming f) where
  abbrev ρ : ℤ → ℤ
  ρ = renamed_picture f

  one-to-one-references : OneToOne ρ
  one-to-one-references = record { equal = equal; used = used }
    where
      equal : (a b : ℤ) → eq_z (ρ a) (ρ b) ≡ eq_z a b
      equal (pos p) (pos q) =
          same_test (eqb (f p) (f q)) (eqb p q)
          (λ t. eq→eqb p q (one.one-to-one p q (eqb→eq (f p) (f q) t)))
          (λ t. eq→eqb (f p) (f q) (ap f (eqb→eq p q t)))
      equal (pos p) (negsuc q) = refl
      equal (negsuc p) (pos q) = refl
      equal (negsuc p) (negsuc q) = refl

      used : (a : ℤ) → le_z (pos 0) (ρ a) ≡ le_z (pos 0) a
      used (pos p) = le-leb 0 (f p) zero-le ∙ sym (le-leb 0 p zero-le)
      used (negsuc p) = refl

  -- check 22
  number-renamed : (p : ℤ) → not_picture (ρ p) ≡ not_picture p
  number-renamed (pos p) = λ i. (le-ltb (f p) 0 zero-le ∙ sym (le-ltb p 0 zero-le)) i || one.numbers p i
  number-renamed (negsuc p) = refl

  table-renamed : (t : List ℤ) → bad_table (map ρ t) ≡ bad_table t
  unfolding bad_table
  table-renamed t =
      ap (λ (m : ℕ). some m (λ i. not_picture (get_or (map ρ t) i (pos 0)))) (length-map t ρ)
      ∙ some_same (length t) _ _ (λ i h. ap not_picture (within-any (map ρ t) i (pos 0) (pos (f 0)) (subst (λ (m : ℕ). i < m) (sym (length-map t ρ)) h) ∙ get_or-map ρ t i (pos 0)) ∙ number-renamed (get_or t i (pos 0)))

  -- what an index names, by a table that is there; with none the index must name none
  named-renamed : (t : List ℤ) (r : ℤ) → (length t ≡ 0 → r ≡ none) → named_by (map ρ t) r ≡ ρ (named_by t r)
  unfolding named_by
  named-renamed [] r h = subst (λ (z : ℤ). z ≡ ρ z) (sym (h refl)) refl
  named-renamed (p ∷ t) (pos i) h = get_or-map ρ (p ∷ t) i none
  named-renamed (p ∷ t) (negsuc i) h = refl

  -- blocks that are renamed are alike
  renamed-alike : (w x y : ℕ) (t8s : List ℕ) (g g' : Grids) → g.nnz ≡ g'.nnz → ((i : ℕ) → blk_at g' i ≡ renamed_block ρ (blk_at g i)) → Alike w x y t8s t8s g g'
  renamed-alike w x y t8s g g' n e =
      alike-blocks w x y t8s g g' n
      (λ i b. ap (λ (q : Blk). q.inter) (sym (e i)))
      (λ i j b c. sym ((λ k. same_motion (e i k) (e j k)) ∙ same-renamed one-to-one-references (blk_at g i) (blk_at g j)))
      (λ v i j b c. sym ((λ k. differ v (e i k) (e j k)) ∙ differ-renamed one-to-one-references v (blk_at g i) (blk_at g j)))

  module _ (g : Grids) (fit : tables_fit g) where
    lent : (length g.pictures0 ≡ 0 → ⊥) → (i : ℕ) → blk_at (renamed f g) i ≡ renamed_block ρ (blk_at g i)
    unfolding block_read
    lent h i =
        let a = named-renamed g.pictures0 (ref_at g.ref0 i) (λ e. absurd (h e)) in
        let b = named-renamed g.pictures1 (ref_at g.ref1 i) (λ e. get_or-eq_default g.ref1 none {n = i} (omega (arith, unlent (length g.ref1) (length g.pictures0) (length g.pictures1) fit h e))) in
        λ j. block_of (eqb (get_or g.inter i 0) 1)
        (vector_at (a j) g.mv0 i)
        (vector_at (b j) g.mv1 i)

    empty : (t : List ℤ) → length t ≡ 0 → t ≡ map ρ t
    empty [] e = refl
    empty (p ∷ t) e = absurd (omega arith)

    alike : (w x y : ℕ) (t8s : List ℕ) → Alike w x y t8s t8s g (renamed f g)
    alike w x y t8s = go (ℕ_discrete (length g.pictures0) 0)
      where
        go : Dec (length g.pictures0 ≡ 0) → Alike w x y t8s t8s g (renamed f g)
        go (yes e) =
            equal-blocks w x y t8s g (renamed f g) refl
            (λ i b j. block_read g.inter g.ref0 g.mv0 g.ref1 g.mv1 (empty g.pictures0 e j) (empty g.pictures1 (neither (length g.ref1) (length g.pictures0) (length g.pictures1) fit e) j) i)
        go (no h) = renamed-alike w x y t8s g (renamed f g) refl (lent h)

  -- the checks, and so the calls
  module _ (size : Size) (field : Bool) (x y : ℕ) (t8s : List ℕ) (g : Grids) (s : List ℕ) where
    checks-renamed : refusal (derive_checks size x y t8s g (length s)) ≡ refusal (derive_checks size x y t8s (renamed f g) (length s))
    checks-renamed =
        sym
        (λ i. refusal (checks_by size x y t8s g (length s)
        (bad_grids (16 * (size.w * size.h)) g || one_table (length g.ref1) (length-map g.pictures0 ρ i) (length-map g.pictures1 ρ i))
        (bad_refs g size.w x y)
        (table-renamed g.pictures0 i || table-renamed g.pictures1 i)))

    pub renamed-same : SameCalls size field x y t8s t8s g (renamed f g) s
    renamed-same =
        alike-calls size field x y s checks-renamed (λ p. alike g (passed-tables size x y t8s g (length s) p) size.w x y t8s)

  -- ---- where no tables are lent the numbers of pictures stand in the grids, and may be renamed there
  abbrev pub renumbered : Grids → Grids
  renumbered g = grids g.inter g.nnz (map ρ g.ref0) g.mv0 (map ρ g.ref1) g.mv1 [] []

  below-renamed : (r : ℤ) → lt_z r none ≡ lt_z (ρ r) none
  below-renamed (pos p) = refl
  below-renamed (negsuc p) = refl

  ten-renumbered : (w x y : ℕ) (refs : List ℤ) → some_read w x y (below_none refs) ≡ some_read w x y (below_none (map ρ refs))
  ten-renumbered w x y refs =
      read_same w x y (below_none refs) (below_none (map ρ refs))
      (λ i b. below-renamed (ref_at refs i) ∙ ap (λ (z : ℤ). lt_z z none) (sym (get_or-map ρ refs i none)))

  module _ (size : Size) (field : Bool) (x y : ℕ) (t8s : List ℕ) (g : Grids) (s : List ℕ) where
    abbrev plain : Grids
    plain = with_tables g [] []

    blk-renumbered : (i : ℕ) → blk_at (renumbered g) i ≡ renamed_block ρ (blk_at plain i)
    unfolding block_read named_by
    blk-renumbered i =
        λ j. block_of (eqb (get_or g.inter i 0) 1)
        (vector_at (get_or-map ρ g.ref0 i none j) g.mv0 i)
        (vector_at (get_or-map ρ g.ref1 i none j) g.mv1 i)

    checks-renumbered : refusal (derive_checks size x y t8s plain (length s)) ≡ refusal (derive_checks size x y t8s (renumbered g) (length s))
    checks-renumbered =
        λ i. refusal (checks_by size x y t8s g (length s)
        (bad_lengths (16 * (size.w * size.h)) (length g.inter) (length g.nnz) (sym (length-map g.ref0 ρ) i) (length g.mv0) (sym (length-map g.ref1 ρ) i) (length g.mv1) || false)
        (ten-renumbered size.w x y g.ref0 i || ten-renumbered size.w x y g.ref1 i)
        (bad_table [] || bad_table []))

    pub renumbered-same : SameCalls size field x y t8s t8s plain (renumbered g) s
    renumbered-same = alike-calls size field x y s checks-renumbered (λ p. renamed-alike size.w x y t8s plain (renumbered g) refl blk-renumbered)
