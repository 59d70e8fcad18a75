-- Apart: no promise to a caller rests on it, but what functions inside the crate ask and promise: text by the
-- places of its bytes, the checks group by group, a stream that is being written.
use Rattle.std.specs.Prelude.{ℕ, ◌+◌, ◌*◌, ◌/◌, ◌%◌, ◌<◌, ◌≤◌, ◌≡◌, Bool, true, false, cond, not, ◌&&◌, ◌||◌, List, [], ◌∷◌, ◌++◌, Option, Some, None, MatchOption, option_map, Result, MatchResult, IfOk, eqb, ltb, length, take, drop, slice_get}
use denote.Ref.{Bor}
use Rattle.refusals.specs.declared.Refusal.{Refusal}
use Rattle.refusals.specs.declared.Refusal.TheVariants.{Malformed}
use Rattle.sizes.specs.Sizes.{bad_size}
use Rattle.sizes.specs.declared.Size.{Size}
use Rattle.y4m.specs.Text.{ascii, newline, parts, lines_of}
use Rattle.y4m.specs.Stream.{good_header, well_formed, one_number, pixels, is_ours, other_planes, bad_sides, size_in, planes_at}
use Rattle.y4m.specs.Calls.{size_said, GoodSize}
use Rattle.y4m.specs.declared.reader.Stream.{Stream}

-- a text at its first byte b: what stands before it, and what behind
abbrev pub SplitAt : ℕ → List ℕ → Option (Bor (List ℕ) × Bor (List ℕ)) → Type 0
SplitAt b s r = MatchOption r (parts b s ≡ s ∷ []) (λ p. (parts b s ≡ p.0.now ∷ parts b p.1.now) × (s ≡ p.0.now ++ b ∷ p.1.now))

-- .. at the end of its first line
abbrev pub NextLine : List ℕ → Result (Bor (List ℕ) × Bor (List ℕ)) Refusal → Type 0
NextLine s r = MatchResult r (λ p. (lines_of s ≡ p.0.now ∷ lines_of p.1.now) × (s ≡ p.0.now ++ newline ∷ p.1.now)) (λ e. (lines_of s ≡ s ∷ []) × (e ≡ Malformed))

-- a word that begins with the letter t
abbrev pub is_tag : ℕ → List ℕ → Bool
is_tag t [] = false
is_tag t (x ∷ w) = eqb x t

-- the values of a tag, of which there is one at most, as a reference to that one; or a refusal
abbrev pub Tagged : List (List ℕ) → Result (Option (Bor (List ℕ))) Refusal → Type 0
Tagged vs r = MatchResult r (λ o. (length vs ≤ 1) × (option_map (λ v. v.now) o ≡ slice_get vs 0)) (λ e. (1 < length vs) × (e ≡ Malformed))

-- a side in pixels; 4097 stands for all that are above 4096, which are too large
abbrev pub capped : ℕ → ℕ
capped n = cond (ltb n 4097) n 4097

-- ---- the checks of the two lines, once both have their newline
abbrev pub line_checks : List ℕ → List ℕ → List (ℕ × Bool)
line_checks l f =
    (15, not (good_header l && well_formed (ascii "FRAME") f)) ∷ (16, other_planes l) ∷ (17, bad_sides l) ∷ []

-- .. one by one: of a line's form, of the value of the tag C, of sides in pixels
abbrev pub form_checks : List ℕ → List ℕ → List (ℕ × Bool)
form_checks w l = (15, not (well_formed w l)) ∷ []

abbrev pub other_value : Option (Bor (List ℕ)) → Bool
other_value None = false
other_value (Some c) = not (is_ours c.now)

abbrev pub colour_checks : Option (Bor (List ℕ)) → List (ℕ × Bool)
colour_checks c = (16, other_value c) ∷ []

abbrev pub bad_two : ℕ → ℕ → Bool
bad_two n m = not (eqb (n % 16) 0) || not (eqb (m % 16) 0) || bad_size (record { w = n / 16; h = m / 16 })

abbrev pub side_checks : ℕ → ℕ → List (ℕ × Bool)
side_checks w h = (17, bad_two w h) ∷ []

-- .. and what they find: a number, a size
abbrev pub OneNumber : List (List ℕ) → Result ℕ Refusal → Type 0
OneNumber vs r = MatchResult r (λ n. (one_number vs ≡ true) × (n ≡ capped (pixels vs))) (λ e. (one_number vs ≡ false) × (e ≡ Malformed))

abbrev pub SizeOf : ℕ → ℕ → Result Size Refusal → Type 0
SizeOf w h r = IfOk r (λ s. (s ≡ record { w = w / 16; h = h / 16 }) × GoodSize s)

abbrev pub SizeIn : List ℕ → Result Size Refusal → Type 0
SizeIn l r = IfOk r (λ s. (s ≡ size_in l) × GoodSize s)

-- what a stream holds that no check from 15 to 18 refuses
pub record Seen (s : List ℕ) (size : Size) (planes : List ℕ) : Type 0 where
  pub sized : size ≡ size_said s
  pub within : GoodSize size
  pub behind : planes ≡ drop (planes_at s) s
  pub long : 384 * (size.w * size.h) ≤ length planes

abbrev pub SeenIn : List ℕ → Result Stream Refusal → Type 0
SeenIn s r = IfOk r (λ t. Seen s t.size t.planes.now)

-- ---- a stream that is being written
-- a side in pixels: it has two to four digits
pub record Pixels (n : ℕ) : Type 0 where
  pub least : 10 ≤ n
  pub most : n < 10000

abbrev pub digit_count : ℕ → ℕ
digit_count n = cond (ltb n 100) 2 (cond (ltb n 1000) 3 4)

-- the last digit of a number, and its last four
abbrev pub digit_of : ℕ → ℕ
digit_of n = 48 + n % 10

abbrev pub four_digits : ℕ → List ℕ
four_digits n = digit_of (n / 10 / 10 / 10) ∷ digit_of (n / 10 / 10) ∷ digit_of (n / 10) ∷ digit_of n ∷ []

-- what a text put at a place of a stream makes of it, and where it ends
abbrev pub put_at : List ℕ → ℕ → List ℕ → List ℕ
put_at s at text = take at s ++ (text ++ drop (at + length text) s)

pub record Put (s : List ℕ) (at : ℕ) (text : List ℕ) (r : ℕ) (s₁ : List ℕ) : Type 0 where
  pub end : r ≡ at + length text
  pub stream : s₁ ≡ put_at s at text
