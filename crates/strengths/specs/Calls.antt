-- What the strength calls promise, three of a macroblock and one of a row: one answer and one final content
-- of the strengths grid, for every input. The flags t8s and the grids g, with the tables of their lists, are
-- only read. The numbers are those of docs/RULES.md, "Answers", the strengths those of ITU-T H.264, clause
-- 8.7.2.1 (`strength_at`): of a field where `field` is true, else of a frame. No check and no answer depends
-- on which.
use Rattle.std.specs.Prelude.{ℕ, ◌+◌, ◌*◌, ◌≡◌, Bool, true, false, cond, not, ◌&&◌, ◌||◌, List, [], ◌∷◌, ◌++◌, eqb, length}
use Rattle.laws.specs.Loop.{up_to}
use Rattle.laws.specs.Refusal.{refusal, or_else}
use Rattle.motion.specs.Grids.{Grids}
use Rattle.sizes.specs.Entries.{flag_at, bad_flag_count}
use Rattle.sizes.specs.Sizes.{bad_size, outside_of}
use Rattle.strengths.specs.Checks.{bad_by_macroblock, bad_blocks, bad_inter, bad_flags, bad_refs, bad_pictures, disagree}
use Rattle.strengths.specs.Kinds.{is_kind, flat, uniform, known_at}
use Rattle.strengths.specs.Strength.{mode_of, strength_at, written}
use Rattle.sizes.specs.declared.Size.{Size}
use Rattle.strengths.specs.declared.kinds.Known.{Known}
use Rattle.strengths.specs.declared.kinds.Known.TheVariants.{Stated, Flags, NoKind}
use Rattle.strengths.specs.declared.kinds.Request.{Request}
use Rattle.strengths.specs.declared.kinds.Flagged.{Flagged}

-- ---- checks 1 to 11, with 22 after 10; n is the length of the strengths grid
abbrev pub length_checks : Size → ℕ → ℕ → List ℕ → Grids → ℕ → List (ℕ × Bool)
length_checks size x y t8s g n =
    (1, bad_size size)
    ∷ (2, outside_of size x y)
    ∷ (4, bad_by_macroblock (size.w * size.h) n (length t8s))
    ∷ (5, bad_blocks (16 * (size.w * size.h)) g)
    ∷ []

abbrev pub value_checks_at : ℕ → ℕ → ℕ → List ℕ → Grids → List (ℕ × Bool)
value_checks_at w x y t8s g =
    (7, bad_inter g w x y || bad_flags t8s w x y)
    ∷ (10, bad_refs g w x y)
    ∷ (22, bad_pictures g)
    ∷ (11, disagree g.inter w x y)
    ∷ []

abbrev pub value_checks : Size → ℕ → ℕ → List ℕ → Grids → List (ℕ × Bool)
value_checks size x y t8s g = value_checks_at size.w x y t8s g

abbrev pub derive_checks : Size → ℕ → ℕ → List ℕ → Grids → ℕ → List (ℕ × Bool)
derive_checks size x y t8s g n = length_checks size x y t8s g n ++ value_checks size x y t8s g

-- ---- the answer: `untrue` is check 12
unfoldable pub answer_of : Size → ℕ → ℕ → List ℕ → Grids → Bool → ℕ → ℕ
answer_of size x y t8s g untrue n = refusal (derive_checks size x y t8s g n ++ ((12, untrue) ∷ []))

-- what is said is not true of the grids: a kind, flags that are set, or a kind that is none
abbrev pub untrue_known : Known → Grids → ℕ → ℕ → ℕ → Bool
untrue_known (Stated kind) g w x y = not (is_kind g w x y kind)
untrue_known (Flags a u) g w x y = (a && not (flat g w x y)) || (u && not (uniform g w x y))
untrue_known NoKind g w x y = true

abbrev pub untrue_kind : Size → Request → Grids → Bool
untrue_kind size r g = untrue_known (Stated r.kind) g size.w r.x r.y

abbrev pub untrue_flags : ℕ → Flagged → Grids → Bool
untrue_flags w r g = untrue_known (Flags r.flat r.uniform) g w r.x r.y

-- ---- an outcome: the answer n, and the grid before and after. A refusal leaves it as it was; else the 32
-- bytes of the macroblock are written and no other
pub record DeriveOutcome (size : Size) (field : Bool) (x y : ℕ) (t8s : List ℕ) (g : Grids) (untrue : Bool) (s : List ℕ) (n : ℕ) (s' : List ℕ) : Type 0 where
  pub says : n ≡ answer_of size x y t8s g untrue (length s)
  pub leaves : s' ≡ cond (eqb n 0) (written (y * size.w + x) (strength_at (mode_of field) g size.w (flag_at t8s) x y) s) s

abbrev pub KindOutcome : Size → Bool → Request → List ℕ → Grids → List ℕ → ℕ → List ℕ → Type 0
KindOutcome size field r t8s g = DeriveOutcome size field r.x r.y t8s g (untrue_kind size r g)

abbrev pub FlagsOutcome : Size → Bool → Flagged → List ℕ → Grids → List ℕ → ℕ → List ℕ → Type 0
FlagsOutcome size field r t8s g = DeriveOutcome size field r.x r.y t8s g (untrue_flags size.w r g)

abbrev pub PlainOutcome : Size → Bool → ℕ → ℕ → List ℕ → Grids → List ℕ → ℕ → List ℕ → Type 0
PlainOutcome size field x y t8s g = DeriveOutcome size field x y t8s g false

-- ---- a row of macroblocks, with a kind for each of the picture's or for none. What macroblock (x, y)
-- answers
abbrev pub answer_at : Size → ℕ → Known → List ℕ → List ℕ → Grids → ℕ → ℕ → ℕ
answer_at size y known kinds t8s g n x =
    answer_of size x y t8s g (untrue_known (known_at known kinds (y * size.w + x)) g size.w x y) n

-- checks 1, 2 and 4 of the row, then what its macroblocks answer, from the left: the first refusal
abbrev pub derive_row_checks : Size → ℕ → List ℕ → List (ℕ × Bool)
derive_row_checks size y kinds = (1, bad_size size) ∷ (2, outside_of size 0 y) ∷ (4, bad_flag_count (size.w * size.h) (length kinds)) ∷ []

unfoldable pub derive_row_answer : Size → ℕ → List ℕ → List ℕ → Grids → ℕ → ℕ
derive_row_answer size y kinds t8s g n =
    up_to size.w (λ x a. or_else a (answer_at size y (Flags false false) kinds t8s g n x)) (refusal (derive_row_checks size y kinds))

-- a refusal leaves the grid as it was; else the bytes of all macroblocks of the row are written and no other
pub record DeriveRowOutcome (size : Size) (field : Bool) (y : ℕ) (kinds t8s : List ℕ) (g : Grids) (s : List ℕ) (n : ℕ) (s' : List ℕ) : Type 0 where
  pub says : n ≡ derive_row_answer size y kinds t8s g (length s)
  pub leaves : s' ≡ cond (eqb n 0) (up_to size.w (λ x. written (y * size.w + x) (strength_at (mode_of field) g size.w (flag_at t8s) x y)) s) s
