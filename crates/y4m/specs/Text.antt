-- Text as YUV4MPEG2 has it: lines between newlines, words between single spaces, numbers in decimal.
use Rattle.std.specs.Prelude.{ℕ, zero, suc, ◌+◌, ◌*◌, ◌-◌, ◌/◌, ◌%◌, Bool, true, false, cond, ◌&&◌, List, [], ◌∷◌, ◌++◌, eqb, ltb, leb, get_or, drop}
use Rattle.std.specs.Cmp.Lexicographic.{pointwise}
use Rattle.std.specs.List.{list_all}
use Prim.Native.Char.{code}
use Prim.Native.String.{String, [] as empty, ◌∷◌ as ◌then◌}

-- the bytes of a text in ASCII
abbrev pub ascii : String → List ℕ
ascii empty = []
ascii (c then s) = code c ∷ ascii s

abbrev pub letter : String → ℕ
letter t = get_or (ascii t) 0 0

abbrev pub newline : ℕ
newline = letter "\n"

abbrev pub space : ℕ
space = letter " "

-- two texts are equal
abbrev pub same_text : List ℕ → List ℕ → Bool
same_text xs ys = pointwise eqb xs ys

abbrev pub is_full : List ℕ → Bool
is_full [] = false
is_full (x ∷ xs) = true

-- every element passes a test
abbrev pub all : {A : Type 0} → (A → Bool) → List A → Bool
all p xs = list_all p xs

-- the parts of a text between the bytes b: one part more than there are such bytes, and a part may be empty
abbrev pub on_first : ℕ → List (List ℕ) → List (List ℕ)
on_first x [] = []
on_first x (p ∷ ps) = (x ∷ p) ∷ ps

abbrev pub parts : ℕ → List ℕ → List (List ℕ)
parts b [] = [] ∷ []
parts b (x ∷ xs) = cond (eqb x b) ([] ∷ parts b xs) (on_first x (parts b xs))

abbrev pub lines_of : List ℕ → List (List ℕ)
lines_of s = parts newline s

abbrev pub words_of : List ℕ → List (List ℕ)
words_of l = parts space l

-- part i, empty where there are fewer
abbrev pub part : ℕ → List (List ℕ) → List ℕ
part i ps = get_or ps i []

-- ---- numbers: digits alone, one at least. 0 to 9 are 48 to 57
abbrev pub is_digit : ℕ → Bool
is_digit x = leb 48 x && leb x 57

abbrev pub is_decimal : List ℕ → Bool
is_decimal ds = is_full ds && all is_digit ds

-- their value, whatever its size; n is that of the digits before
abbrev pub value_from : ℕ → List ℕ → ℕ
value_from n [] = n
value_from n (d ∷ ds) = value_from (10 * n + (d - 48)) ds

abbrev pub value_of : List ℕ → ℕ
value_of ds = value_from 0 ds

-- a number in decimal, without leading zeros; n digits are always enough for the number n or one below it
unfoldable pub digits_in : ℕ → ℕ → List ℕ
digits_in zero n = (48 + n) ∷ []
digits_in (suc k) n = cond (ltb n 10) ((48 + n) ∷ []) (digits_in k (n / 10) ++ ((48 + n % 10) ∷ []))

abbrev pub decimal : ℕ → List ℕ
decimal n = digits_in n n

-- ---- tags: the words of a line behind its first. A tag is a letter and its value
abbrev pub tags_of : List ℕ → List (List ℕ)
tags_of l = drop 1 (words_of l)

-- the values of the tags that begin with the letter t
abbrev pub values_of : ℕ → List (List ℕ) → List (List ℕ)
values_of t [] = []
values_of t ([] ∷ ws) = values_of t ws
values_of t ((x ∷ w) ∷ ws) = cond (eqb x t) (w ∷ values_of t ws) (values_of t ws)
