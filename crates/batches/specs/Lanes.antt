-- Apart: no promise to a caller of the public calls rests on it. The lanes of a batch: what each of its
-- sixteen lines is lent in a pass.
use Rattle.std.specs.Prelude.{ℕ, ◌+◌, ◌*◌, ◌<◌, ◌≡◌, Bool, cond, ◌&&◌, ◌||◌, List, [], ◌∷◌, Option, Some, None, ltb, eqb, get_or}
use Rattle.lines.specs.declared.limits.Limits.{Limits}
use Rattle.batches.specs.declared.lanes.Four.{Four}
use Rattle.batches.specs.declared.lanes.Thresholds.{Thresholds}

-- the thresholds of an edge as numbers: where nothing is to be filtered alpha is 0, which leaves each line
abbrev pub as_thresholds : Option Limits → Thresholds
as_thresholds (Some l) = record { alpha = l.alpha; beta = l.beta; index = l.index }
as_thresholds None = record { alpha = 0; beta = 0; index = 0 }

-- strengths are of five kinds, since 4 and above are one. A row has a value for each kind: in the pass of
-- strengths 1 to 3 a cap (`cap_row` of lines/specs/Inner), in the other an alpha. A cap or an alpha of 0
-- leaves a line
abbrev pub slot_of : ℕ → ℕ
slot_of s = cond (ltb s 4) s 4

abbrev pub strong_row : Thresholds → List ℕ
strong_row l = 0 ∷ 0 ∷ 0 ∷ 0 ∷ l.alpha ∷ []

abbrev pub at_slot : List ℕ → ℕ → ℕ
at_slot l s = get_or l (slot_of s) 0

-- a function looks up what the row l has, for each kind
abbrev pub LooksUp : (ℕ → ℕ → Type 0) → List ℕ → Type 0
LooksUp post l = (i x : ℕ) → i < 5 → post i x → x ≡ get_or l i 0

-- sixteen lanes, two of each value
abbrev pub spread_of : ℕ → ℕ → ℕ → ℕ → ℕ → ℕ → ℕ → ℕ → List ℕ
spread_of a b c d e f g h = a ∷ a ∷ b ∷ b ∷ c ∷ c ∷ d ∷ d ∷ e ∷ e ∷ f ∷ f ∷ g ∷ g ∷ h ∷ h ∷ []

-- of each luma line what the row l has for its strength
abbrev pub four_each : List ℕ → Four → List ℕ
four_each l s = spread_of (at_slot l s.a) (at_slot l s.a) (at_slot l s.b) (at_slot l s.b) (at_slot l s.c) (at_slot l s.c) (at_slot l s.d) (at_slot l s.d)

-- of each chroma line what its plane's row has: l is U's and m V's
abbrev pub two_each : List ℕ → List ℕ → Four → List ℕ
two_each l m s = spread_of (at_slot l s.a) (at_slot l s.b) (at_slot l s.c) (at_slot l s.d) (at_slot m s.a) (at_slot m s.b) (at_slot m s.c) (at_slot m s.d)

-- x for U's lines and y for V's
abbrev pub eight_each : ℕ → ℕ → List ℕ
eight_each x y = spread_of x x x x y y y y

-- whether a pass has a line to filter
abbrev pub is_weak : ℕ → Bool
is_weak s = ltb 0 s && ltb s 4

abbrev pub is_strong : ℕ → Bool
is_strong s = ltb 3 s

abbrev pub any : (ℕ → Bool) → Four → Bool
any on s = ((on s.a || on s.b) || on s.c) || on s.d

-- the four strengths as one number, so that one test asks all
abbrev pub word_of : Four → ℕ
word_of s = s.a + 256 * (s.b + 256 * (s.c + 256 * s.d))

-- no line can change: every strength is 0, or alpha is
abbrev pub no_strength : Four → Bool
no_strength s = eqb (word_of s) 0

abbrev pub still_edge : Four → Thresholds → Bool
still_edge s l = no_strength s || eqb l.alpha 0
