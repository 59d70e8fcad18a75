-- A stream of YUV4MPEG2: a header line, a line FRAME, the planes of the first picture, and whatever follows:
-- docs/RULES.md, "Streams".
use Rattle.std.specs.Prelude.{ℕ, ◌+◌, ◌*◌, ◌/◌, ◌%◌, Bool, not, ◌&&◌, ◌||◌, List, ◌++◌, eqb, ltb, leb, length, take, drop}
use Rattle.sizes.specs.Sizes.{bad_size}
use Rattle.sizes.specs.declared.Size.{Size}
use Rattle.y4m.specs.Text.{ascii, same_text, is_full, all, lines_of, words_of, part, is_decimal, value_of, decimal, tags_of, values_of, letter}

abbrev pub header : List ℕ → List ℕ
header s = part 0 (lines_of s)

abbrev pub frame_line : List ℕ → List ℕ
frame_line s = part 1 (lines_of s)

-- ---- 15: a line is malformed, or has no newline: each ends before another line, which may be empty
-- the first word is w, and no word is empty: spaces are single, and none ends the line
abbrev pub well_formed : List ℕ → List ℕ → Bool
well_formed w l = same_text (part 0 (words_of l)) w && all is_full (words_of l)

-- the values of the tags W, H and C of a header line
abbrev pub widths : List ℕ → List (List ℕ)
widths l = values_of (letter "W") (tags_of l)

abbrev pub heights : List ℕ → List (List ℕ)
heights l = values_of (letter "H") (tags_of l)

abbrev pub colours : List ℕ → List (List ℕ)
colours l = values_of (letter "C") (tags_of l)

-- given once, in decimal
abbrev pub one_number : List (List ℕ) → Bool
one_number vs = eqb (length vs) 1 && is_decimal (part 0 vs)

abbrev pub good_header : List ℕ → Bool
good_header l =
    well_formed (ascii "YUV4MPEG2") l && one_number (widths l) && one_number (heights l) && leb (length (colours l)) 1

unfoldable pub malformed : List ℕ → Bool
malformed s = not (leb 3 (length (lines_of s)) && good_header (header s) && well_formed (ascii "FRAME") (frame_line s))

-- ---- 16: a C tag names other planes than ours
abbrev pub is_ours : List ℕ → Bool
is_ours c = same_text c (ascii "420") || same_text c (ascii "420jpeg") || same_text c (ascii "420mpeg2") || same_text c (ascii "420paldv")

unfoldable pub other_planes : List ℕ → Bool
other_planes l = not (all is_ours (colours l))

-- ---- 17: a side in pixels is no multiple of 16, or check 1 applies to the size in macroblocks
abbrev pub pixels : List (List ℕ) → ℕ
pixels vs = value_of (part 0 vs)

unfoldable pub size_in : List ℕ → Size
size_in l = record { w = pixels (widths l) / 16; h = pixels (heights l) / 16 }

unfoldable pub bad_sides : List ℕ → Bool
bad_sides l = not (eqb (pixels (widths l) % 16) 0) || not (eqb (pixels (heights l) % 16) 0) || bad_size (size_in l)

-- ---- 18: fewer bytes follow the two lines than the planes of n macroblocks have
abbrev pub count : Size → ℕ
count size = size.w * size.h

unfoldable pub planes_at : List ℕ → ℕ
planes_at s = length (header s) + 1 + (length (frame_line s) + 1)

abbrev pub cut_short : ℕ → List ℕ → Bool
cut_short n s = ltb (length s) (planes_at s + 384 * n)

-- ---- the planes, one after the other
abbrev pub luma_read : ℕ → List ℕ → List ℕ
luma_read n s = take (256 * n) (drop (planes_at s) s)

abbrev pub u_read : ℕ → List ℕ → List ℕ
u_read n s = take (64 * n) (drop (planes_at s + 256 * n) s)

abbrev pub v_read : ℕ → List ℕ → List ℕ
v_read n s = take (64 * n) (drop (planes_at s + 320 * n) s)

-- ---- a stream that is written
-- its two lines, for a width and a height in pixels
unfoldable pub lines_with : ℕ → ℕ → List ℕ
lines_with w h = ascii "YUV4MPEG2 W" ++ decimal w ++ ascii " H" ++ decimal h ++ ascii " C420mpeg2\nFRAME\n"

abbrev pub lines_for : Size → List ℕ
lines_for size = lines_with (16 * size.w) (16 * size.h)

abbrev pub stream_of : Size → List ℕ → List ℕ → List ℕ → List ℕ
stream_of size luma u v = lines_for size ++ luma ++ u ++ v
