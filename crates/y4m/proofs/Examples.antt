-- Worked examples: text taken apart, the smallest stream, and one stream for each way to be refused. Assumes
-- nothing.
use Prim.Native.Nat.{ℕ, ◌+◌, ◌^◌}
use mathlib.Core.Path.{◌≡◌, refl}
use mathlib.Core.List.{List, [], ◌∷◌, ◌++◌, replicate}
use Rattle.laws.specs.Refusal.{refusal}
use Rattle.y4m.specs.Text.{ascii, lines_of, words_of, tags_of, values_of, value_of, digits_in, decimal}
use Rattle.y4m.specs.Stream.{malformed, other_planes, bad_sides, size_in, planes_at, lines_with}
use Rattle.y4m.specs.Calls.{read_checks, length_for}

-- ---- text
lines : lines_of (ascii "a\n\nb") ≡ ascii "a" ∷ [] ∷ ascii "b" ∷ []
lines = refl

words : words_of (ascii "FRAME  Ip ") ≡ ascii "FRAME" ∷ [] ∷ ascii "Ip" ∷ [] ∷ []
words = refl

tags : values_of 87 (tags_of (ascii "W1 H2 W3 XW4 W")) ≡ ascii "3" ∷ [] ∷ []
tags = refl

numbers : (value_of (ascii "00720") ≡ 720) × (value_of (ascii "18446744073709551632") ≡ 2 ^ 64 + 16)
numbers = (refl, refl)

digits : (decimal 0 ≡ ascii "0") × (decimal 16 ≡ ascii "16") × (decimal 4096 ≡ ascii "4096")
unfolding digits_in
digits = (refl, refl, refl)

-- ---- the answers of a reader with planes for one macroblock
abbrev pub number_for : List ℕ → ℕ
number_for s = refusal (read_checks s 256 64 64)

abbrev pub grey_bytes : List ℕ
grey_bytes = replicate 384 128

-- the smallest good stream; tags that are passed over, a size with zeros in front, a picture behind the first
pub read-well : (number_for (ascii "YUV4MPEG2 W16 H16\nFRAME\n" ++ grey_bytes) ≡ 0)
    × (number_for (ascii "YUV4MPEG2 C420jpeg Ip F25:1 H00016 XW4 W16\nFRAME Xq\n" ++ grey_bytes ++ ascii "FRAME\n" ++ grey_bytes) ≡ 0)
unfolding malformed other_planes bad_sides size_in planes_at
read-well = (refl, refl)

-- 15: no stream, another format, no height, two widths, a sign, two spaces, a space at the end, a carriage
-- return in the number, no FRAME, no newline behind it
pub no_lines : (number_for [] ≡ 15)
    × (number_for (ascii "RIFF W16 H16\nFRAME\n") ≡ 15)
    × (number_for (ascii "YUV4MPEG2 W16\nFRAME\n") ≡ 15)
    × (number_for (ascii "YUV4MPEG2 W16 H16 W16\nFRAME\n") ≡ 15)
    × (number_for (ascii "YUV4MPEG2 W16 H+16\nFRAME\n") ≡ 15)
    × (number_for (ascii "YUV4MPEG2  W16 H16\nFRAME\n") ≡ 15)
    × (number_for (ascii "YUV4MPEG2 W16 H16 \nFRAME\n") ≡ 15)
    × (number_for (ascii "YUV4MPEG2 W16 H16\r\nFRAME\n") ≡ 15)
    × (number_for (ascii "YUV4MPEG2 W16 H16\nFRAMES\n") ≡ 15)
    × (number_for (ascii "YUV4MPEG2 W16 H16\nFRAME") ≡ 15)
unfolding malformed other_planes bad_sides size_in planes_at
no_lines = (refl, refl, refl, refl, refl, refl, refl, refl, refl, refl)

-- 16: other planes, an empty C tag; 17: no multiple of 16, nothing, too wide, 2 to the 64th and 16; 18
pub no-picture : (number_for (ascii "YUV4MPEG2 W16 H16 C444\nFRAME\n" ++ grey_bytes) ≡ 16)
    × (number_for (ascii "YUV4MPEG2 W16 H16 C\nFRAME\n" ++ grey_bytes) ≡ 16)
    × (number_for (ascii "YUV4MPEG2 W16 H24\nFRAME\n" ++ grey_bytes) ≡ 17)
    × (number_for (ascii "YUV4MPEG2 W0 H16\nFRAME\n" ++ grey_bytes) ≡ 17)
    × (number_for (ascii "YUV4MPEG2 W4112 H16\nFRAME\n" ++ grey_bytes) ≡ 17)
    × (number_for (ascii "YUV4MPEG2 W18446744073709551632 H16\nFRAME\n" ++ grey_bytes) ≡ 17)
    × (number_for (ascii "YUV4MPEG2 W16 H16\nFRAME\n" ++ replicate 383 128) ≡ 18)
    × (number_for (ascii "YUV4MPEG2 W32 H16\nFRAME\n" ++ grey_bytes ++ grey_bytes) ≡ 3)
unfolding malformed other_planes bad_sides size_in planes_at
no-picture = (refl, refl, refl, refl, refl, refl, refl, refl)

-- ---- in order: of two that apply the first
pub first-of-two : (number_for (ascii "YUV4MPEG2 W16 H16 C444\nFRAM\n") ≡ 15)
    × (number_for (ascii "YUV4MPEG2 W15 H16 C444\nFRAME\n") ≡ 16)
    × (number_for (ascii "YUV4MPEG2 W15 H16\nFRAME\n") ≡ 17)
    × (number_for (ascii "YUV4MPEG2 W32 H16\nFRAME\n") ≡ 18)
unfolding malformed other_planes bad_sides size_in planes_at
first-of-two = (refl, refl, refl, refl)

-- ---- what is written, of one macroblock and of the station's pictures
lengths : (lines_with 16 16 ≡ ascii "YUV4MPEG2 W16 H16 C420mpeg2\nFRAME\n")
    × (length_for (record { w = 1; h = 1 }) ≡ 34 + 384)
    × (length_for (record { w = 45; h = 36 }) ≡ 36 + 622080)
unfolding lines_with digits_in
lengths = (refl, refl, refl)
