-- What the calls over streams promise: one answer and one final content of what is lent, for every input.
use Rattle.std.specs.Prelude.{ℕ, ◌+◌, ◌*◌, ◌≤◌, ◌≡◌, Bool, cond, not, List, [], ◌∷◌, ◌++◌, Result, Ok, Err, IfOk, eqb, length}
use Rattle.laws.specs.Refusal.{refusal}
use Rattle.refusals.specs.Refusals.{code_of}
use Rattle.refusals.specs.declared.Refusal.{Refusal}
use Rattle.sizes.specs.Sizes.{bad_size, bad_planes}
use Rattle.sizes.specs.declared.Size.{Size}
use Rattle.y4m.specs.Stream.{header, malformed, other_planes, bad_sides, cut_short, size_in, count, luma_read, u_read, v_read, lines_for, stream_of}
use Rattle.y4m.specs.declared.Found.{Found}

-- the size of the first picture, as its header says it, and its number of macroblocks
abbrev pub size_said : List ℕ → Size
size_said s = size_in (header s)

abbrev pub macroblocks : List ℕ → ℕ
macroblocks s = count (size_said s)

-- a number, and with 0 a size
abbrev pub found : ℕ → Size → Found
found n size = record { number = n; w = cond (eqb n 0) size.w 0; h = cond (eqb n 0) size.h 0 }

-- .. as a call answers it
abbrev pub found_of : Result Size Refusal → Found
found_of (Ok size) = found 0 size
found_of (Err r) = record { number = code_of r; w = 0; h = 0 }

-- ---- a size that check 1 does not refuse
pub record GoodSize (size : Size) : Type 0 where
  pub w-most : size.w ≤ 256
  pub h-most : size.h ≤ 256
  pub most : size.w * size.h ≤ 36864

abbrev pub IfGoodSize : Result Size Refusal → Type 0
IfGoodSize r = IfOk r GoodSize

-- what is there after the answer n: something new with 0, what was there before with a refusal
abbrev pub if_done : ℕ → List ℕ → List ℕ → List ℕ
if_done n new old = cond (eqb n 0) new old

-- ---- the size of the first picture
abbrev pub stream_checks : List ℕ → List (ℕ × Bool)
stream_checks s =
    (15, malformed s) ∷ (16, other_planes (header s)) ∷ (17, bad_sides (header s)) ∷ (18, cut_short (macroblocks s) s) ∷ []

abbrev pub LookOutcome : List ℕ → Found → Type 0
LookOutcome s r = r ≡ found (refusal (stream_checks s)) (size_said s)

-- ---- its planes
abbrev pub read_checks : List ℕ → ℕ → ℕ → ℕ → List (ℕ × Bool)
read_checks s luma u v = stream_checks s ++ ((3, bad_planes (macroblocks s) luma u v) ∷ [])

pub record ReadOutcomeOf (n : ℕ) (s luma₀ u₀ v₀ : List ℕ) (r : Found) (luma₁ u₁ v₁ : List ℕ) : Type 0 where
  pub answer : r ≡ found n (size_said s)
  pub luma : luma₁ ≡ if_done n (luma_read (macroblocks s) s) luma₀
  pub u : u₁ ≡ if_done n (u_read (macroblocks s) s) u₀
  pub v : v₁ ≡ if_done n (v_read (macroblocks s) s) v₀

abbrev pub ReadOutcome : List ℕ → List ℕ → List ℕ → List ℕ → Found → List ℕ → List ℕ → List ℕ → Type 0
ReadOutcome s luma u v = ReadOutcomeOf (refusal (read_checks s (length luma) (length u) (length v))) s luma u v

-- ---- how long a written stream is
abbrev pub length_for : Size → ℕ
length_for size = length (lines_for size) + 384 * count size

abbrev pub LengthOutcome : Size → ℕ → Type 0
LengthOutcome size r = r ≡ cond (bad_size size) 0 (length_for size)

-- ---- a stream written
abbrev pub write_checks : Size → ℕ → ℕ → ℕ → ℕ → List (ℕ × Bool)
write_checks size luma u v stream =
    (1, bad_size size) ∷ (3, bad_planes (count size) luma u v) ∷ (18, not (eqb stream (length_for size))) ∷ []

abbrev pub write_answer : Size → List ℕ → List ℕ → List ℕ → List ℕ → ℕ
write_answer size luma u v stream = refusal (write_checks size (length luma) (length u) (length v) (length stream))

pub record WriteOutcome (size : Size) (luma u v s₀ : List ℕ) (r : ℕ) (s₁ : List ℕ) : Type 0 where
  pub answer : r ≡ write_answer size luma u v s₀
  pub stream : s₁ ≡ if_done r (stream_of size luma u v) s₀
