-- With both tables empty all is as it was when references were compared as the numbers that are stored:
-- strengths, kinds, flags, checks, and what the calls promise. Assumes nothing.
use mathlib.Core.Path.{◌≡◌, sym, ap, subst, ◌∙◌}
use mathlib.Core.Bool.{Bool, cond, not, ◌&&◌, ◌||◌, or-false}
use mathlib.Core.List.{List, [], ◌∷◌, ◌++◌}
use Prim.Native.Nat.{ℕ, ◌+◌, ◌*◌}
use lib.Dec.{eqb}
use lib.ListN.{length, get_or}
use Rattle.laws.specs.Refusal.{refusal}
use Rattle.motion.specs.Grids.{Grids, counted, block_of, block_read, blk_at}
use Rattle.motion.specs.Motion.{same_motion}
use Rattle.motion.specs.Pictures.{named_by}
use Rattle.motion.specs.declared.blocks.Blk.{Blk}
use Rattle.sizes.specs.Entries.{flag_at}
use Rattle.sizes.specs.Sizes.{bad_size, outside_of}
use Rattle.sizes.specs.declared.Size.{Size}
use Rattle.strengths.specs.Blocks.{origin}
use Rattle.strengths.specs.Calls.{answer_of, DeriveOutcome, KindOutcome, FlagsOutcome}
use Rattle.strengths.specs.Checks.{bad_grids, bad_by_macroblock, bad_inter, bad_flags, bad_refs, one_table, bad_table, disagree}
use Rattle.strengths.specs.Kinds.{every_own, uniform, flat, is_kind}
use Rattle.strengths.specs.Reads.{stored_at}
use Rattle.strengths.specs.Strength.{q_block, p_block, border, skipped, mode_of, intra_strength, coded, between, strength_at, written}
use Rattle.strengths.specs.declared.kinds.Flagged.{Flagged}
use Rattle.strengths.specs.declared.kinds.MbKind.{MbKind}
use Rattle.strengths.specs.declared.kinds.MbKind.TheVariants.{Intra, Skip, InterUniform, Inter}
use Rattle.strengths.specs.declared.kinds.Mode.{Mode}
use Rattle.strengths.specs.declared.kinds.Request.{Request}
use Rattle.strengths.proofs.Tables.{checks_by, empty-good}

-- ---- block i, each list with the reference that is stored
abbrev pub stored_block : Grids → ℕ → Blk
stored_block g i = block_of (eqb (get_or g.inter i 0) 1) (stored_at g.ref0 g.mv0 i) (stored_at g.ref1 g.mv1 i)

-- the definitions, over what a block is, as they are over `blk_at`
abbrev pub strength_from : (ℕ → Blk) → Mode → Grids → ℕ → (ℕ → Bool) → ℕ → ℕ → ℕ → ℕ
strength_from block mode g w t8s x y k =
    cond
    (border x y k || skipped (t8s (y * w + x)) k)
    0
    (between mode.limit (intra_strength mode k) (coded g w t8s (p_block w x y k) || coded g w t8s (q_block w x y k)) (block (p_block w x y k)) (block (q_block w x y k)))

abbrev pub uniform_from : (ℕ → Blk) → ℕ → ℕ → ℕ → Bool
uniform_from block w x y = every_own w x y (λ i. (block i).inter && same_motion (block i) (block (origin w x y)))

abbrev pub flat_from : (ℕ → Blk) → Grids → ℕ → ℕ → ℕ → Bool
flat_from block g w x y = uniform_from block w x y && every_own w x y (λ i. not (counted g.nnz i))

abbrev pub kind_from : (ℕ → Blk) → Grids → ℕ → ℕ → ℕ → MbKind → Bool
kind_from block g w x y Intra = every_own w x y (λ i. not (block i).inter)
kind_from block g w x y Skip = flat_from block g w x y
kind_from block g w x y InterUniform = uniform_from block w x y
kind_from block g w x y Inter = every_own w x y (λ i. (block i).inter)

-- .. and the promise: check 5 knew six grids, and there was no check 22
abbrev pub stored_answer : Size → ℕ → ℕ → List ℕ → Grids → Bool → ℕ → ℕ
stored_answer size x y t8s g untrue n =
    refusal
    ((1, bad_size size)
    ∷ (2, outside_of size x y)
    ∷ (4, bad_by_macroblock (size.w * size.h) n (length t8s))
    ∷ (5, bad_grids (16 * (size.w * size.h)) g)
    ∷ (7, bad_inter g size.w x y || bad_flags t8s size.w x y)
    ∷ (10, bad_refs g size.w x y)
    ∷ (11, disagree g.inter size.w x y)
    ∷ (12, untrue)
    ∷ [])

pub record StoredCall (size : Size) (field : Bool) (x y : ℕ) (t8s : List ℕ) (g : Grids) (untrue : Bool) (s : List ℕ) (n : ℕ) (s' : List ℕ) : Type 0 where
  pub says : n ≡ stored_answer size x y t8s g untrue (length s)
  pub leaves : s' ≡ cond (eqb n 0) (written (y * size.w + x) (strength_from (stored_block g) (mode_of field) g size.w (flag_at t8s) x y) s) s

module _ (g : Grids) (none0 : g.pictures0 ≡ []) (none1 : g.pictures1 ≡ []) where
  stored : blk_at g ≡ stored_block g
  unfolding block_read named_by
  stored = λ j i. block_read g.inter g.ref0 g.mv0 g.ref1 g.mv1 (none0 j) (none1 j) i

  pub strength-before : (mode : Mode) (w : ℕ) (t8s : ℕ → Bool) (x y k : ℕ) → strength_at mode g w t8s x y k ≡ strength_from (stored_block g) mode g w t8s x y k
  unfolding strength_at
  strength-before mode w t8s x y k = ap (λ (block : ℕ → Blk). strength_from block mode g w t8s x y k) stored

  pub uniform-before : (w x y : ℕ) → uniform g w x y ≡ uniform_from (stored_block g) w x y
  unfolding uniform
  uniform-before w x y = ap (λ (block : ℕ → Blk). uniform_from block w x y) stored

  pub flat-before : (w x y : ℕ) → flat g w x y ≡ flat_from (stored_block g) g w x y
  unfolding flat uniform
  flat-before w x y = ap (λ (block : ℕ → Blk). flat_from block g w x y) stored

  pub kind-before : (w x y : ℕ) (kind : MbKind) → is_kind g w x y kind ≡ kind_from (stored_block g) g w x y kind
  kind-before w x y Intra = ap (λ (block : ℕ → Blk). kind_from block g w x y Intra) stored
  kind-before w x y Skip = flat-before w x y
  kind-before w x y InterUniform = uniform-before w x y
  kind-before w x y Inter = ap (λ (block : ℕ → Blk). kind_from block g w x y Inter) stored

  module _ (size : Size) (field : Bool) (x y : ℕ) (t8s : List ℕ) (untrue : Bool) (s : List ℕ) (n : ℕ) (s' : List ℕ) where
    answer-before : answer_of size x y t8s g untrue (length s) ≡ stored_answer size x y t8s g untrue (length s)
    unfolding answer_of
    answer-before =
        let five = (λ j. bad_grids (16 * (size.w * size.h)) g || one_table (length g.ref1) (length (none0 j)) (length (none1 j))) ∙ or-false (bad_grids (16 * (size.w * size.h)) g) in
        let pictures = (λ j. bad_table (none0 j) || bad_table (none1 j)) ∙ λ j. empty-good j || empty-good j in
        λ j. refusal (checks_by size x y t8s g (length s) (five j) (bad_refs g size.w x y) (pictures j) ++ ((12, untrue) ∷ []))

    left-before : cond (eqb n 0) (written (y * size.w + x) (strength_at (mode_of field) g size.w (flag_at t8s) x y) s) s
        ≡ cond (eqb n 0) (written (y * size.w + x) (strength_from (stored_block g) (mode_of field) g size.w (flag_at t8s) x y) s) s
    left-before = λ j. cond (eqb n 0) (written (y * size.w + x) (λ (k : ℕ). strength-before (mode_of field) size.w (flag_at t8s) x y k j) s) s

    pub stored-call-before : (DeriveOutcome size field x y t8s g untrue s n s' → StoredCall size field x y t8s g untrue s n s')
        × (StoredCall size field x y t8s g untrue s n s' → DeriveOutcome size field x y t8s g untrue s n s')
    stored-call-before =
        (λ r. record { says = r.says ∙ answer-before; leaves = r.leaves ∙ left-before }, λ r. record { says = r.says ∙ sym answer-before; leaves = r.leaves ∙ sym left-before })

  -- and with what check 12 was then: the calls by kind and with flags
  module _ (size : Size) (field : Bool) (t8s s : List ℕ) (n : ℕ) (s' : List ℕ) where
    kept : (x y : ℕ) {u u' : Bool} → u ≡ u' → DeriveOutcome size field x y t8s g u s n s' → StoredCall size field x y t8s g u' s n s'
    kept x y {u} e r = subst (λ (b : Bool). StoredCall size field x y t8s g b s n s') e ((stored-call-before size field x y t8s u s n s').0 r)

    pub kind-call-before : (r : Request) → KindOutcome size field r t8s g s n s'
        → StoredCall size field r.x r.y t8s g (not (kind_from (stored_block g) g size.w r.x r.y r.kind)) s n s'
    kind-call-before r = kept r.x r.y (ap not (kind-before size.w r.x r.y r.kind))

    pub flags-call-before : (r : Flagged) → FlagsOutcome size field r t8s g s n s'
        → StoredCall size field r.x r.y t8s g ((r.flat && not (flat_from (stored_block g) g size.w r.x r.y)) || (r.uniform && not (uniform_from (stored_block g) size.w r.x r.y))) s n s'
    flags-call-before r =
        kept r.x r.y
        (λ j. (r.flat && not (flat-before size.w r.x r.y j)) || (r.uniform && not (uniform-before size.w r.x r.y j)))
