-- The two lines of a written stream, taken apart again: the words of its header and what its tags say.
-- Assumes nothing.
use Prim.Native.Nat.{ℕ, ◌<◌}
use mathlib.Core.Path.{◌≡◌, refl, sym, ap, ◌∙◌}
use mathlib.Core.Bool.{Bool, true, false, not, ◌&&◌}
use mathlib.Core.List.{List, [], ◌∷◌, ◌++◌, append_assoc}
use native.Mathlib.Omega.{arith}
use lib.Dec.{leb}
use lib.ListN.{length, drop}
use Rattle.y4m.specs.Text.{ascii, same_text, lines_of, words_of, values_of, decimal, is_decimal, is_full, all, is_digit, part}
use Rattle.y4m.specs.Stream.{widths, heights, colours, one_number, is_ours, well_formed, good_header, other_planes, lines_with}
use Rattle.y4m.proofs.Cut.{parts_cut, free-both, free-digits}
use Rattle.y4m.proofs.Decimal.{decimal-is}

-- ---- the two lines, and what follows them
abbrev pub header_with : ℕ → ℕ → List ℕ
header_with w h = ascii "YUV4MPEG2 W" ++ decimal w ++ ascii " H" ++ decimal h ++ ascii " C420mpeg2"

module _ (w h : ℕ) (rest : List ℕ) where
  pub lines_then : lines_with w h ++ rest ≡ header_with w h ++ 10 ∷ (ascii "FRAME" ++ 10 ∷ rest)
  unfolding lines_with
  lines_then =
      let p : List ℕ = ascii "YUV4MPEG2 W" ++ decimal w ++ ascii " H" ++ decimal h in
      append_assoc p (ascii " C420mpeg2\nFRAME\n") rest ∙ sym (append_assoc p (ascii " C420mpeg2") (10 ∷ (ascii "FRAME" ++ 10 ∷ rest)))

  -- its words
  words-of : words_of (header_with w h) ≡ ascii "YUV4MPEG2" ∷ (87 ∷ decimal w) ∷ (72 ∷ decimal h) ∷ ascii "C420mpeg2" ∷ []
  words-of =
      let x = (decimal-is w).digits in
      let y = (decimal-is h).digits in
      let f = free-digits 32 (decimal w) (omega arith) x in
      let g = free-digits 32 (decimal h) (omega arith) y in
      let e : header_with w h ≡ ascii "YUV4MPEG2" ++ 32 ∷ ((87 ∷ decimal w) ++ 32 ∷ ((72 ∷ decimal h) ++ 32 ∷ ascii "C420mpeg2")) =
      append_assoc (ascii "YUV4MPEG2 W" ++ decimal w ++ ascii " H") (decimal h) (ascii " C420mpeg2")
      ∙ append_assoc (ascii "YUV4MPEG2 W" ++ decimal w) (ascii " H") (decimal h ++ ascii " C420mpeg2")
      ∙ append_assoc (ascii "YUV4MPEG2 W") (decimal w) (ascii " H" ++ (decimal h ++ ascii " C420mpeg2")) in
      let c = parts_cut 32 (72 ∷ decimal h) (ascii "C420mpeg2") g in
      let b = parts_cut 32 (87 ∷ decimal w) ((72 ∷ decimal h) ++ 32 ∷ ascii "C420mpeg2") f in
      let a = parts_cut 32 (ascii "YUV4MPEG2") ((87 ∷ decimal w) ++ 32 ∷ ((72 ∷ decimal h) ++ 32 ∷ ascii "C420mpeg2")) refl in
      ap words_of e
      ∙ a
      ∙ ap (λ (ps : List (List ℕ)). ascii "YUV4MPEG2" ∷ ps) (b ∙ ap (λ (ps : List (List ℕ)). (87 ∷ decimal w) ∷ ps) c)

  -- what its tags say
  pub widths-of : widths (header_with w h) ≡ decimal w ∷ []
  widths-of = ap (λ (ws : List (List ℕ)). values_of 87 (drop 1 ws)) words-of

  pub heights-of : heights (header_with w h) ≡ decimal h ∷ []
  heights-of = ap (λ (ws : List (List ℕ)). values_of 72 (drop 1 ws)) words-of

  colours-of : colours (header_with w h) ≡ ascii "420mpeg2" ∷ []
  colours-of = ap (λ (ws : List (List ℕ)). values_of 67 (drop 1 ws)) words-of

  decimal-ok : (n : ℕ) → is_decimal (decimal n) ≡ true
  decimal-ok n = go (decimal n) (decimal-is n).some (decimal-is n).digits
    where
      go : (ds : List ℕ) → 0 < length ds → all is_digit ds ≡ true → is_decimal ds ≡ true
      go [] l e = absurd (omega arith)
      go (d ∷ ds) l e = e

  pub good : good_header (header_with w h) ≡ true
  good =
      let a : well_formed (ascii "YUV4MPEG2") (header_with w h) ≡ true =
      ap (λ (ws : List (List ℕ)). same_text (part 0 ws) (ascii "YUV4MPEG2") && all is_full ws) words-of in
      let b : one_number (widths (header_with w h)) ≡ true = ap one_number widths-of ∙ decimal-ok w in
      let c : one_number (heights (header_with w h)) ≡ true = ap one_number heights-of ∙ decimal-ok h in
      let d : leb (length (colours (header_with w h))) 1 ≡ true = ap (λ (vs : List (List ℕ)). leb (length vs) 1) colours-of in
      four-true a b c d
    where
      four-true : {a b c d : Bool} → a ≡ true → b ≡ true → c ≡ true → d ≡ true → (a && b && c && d) ≡ true
      four-true e f g i = rw (e, f, g, i)

  pub ours : other_planes (header_with w h) ≡ false
  unfolding other_planes
  ours = ap (λ (vs : List (List ℕ)). not (all is_ours vs)) colours-of

  -- the lines of the stream
  pub lines-of : lines_of (lines_with w h ++ rest) ≡ header_with w h ∷ ascii "FRAME" ∷ lines_of rest
  lines-of =
      let f = free-digits 10 (decimal w) (omega arith) (decimal-is w).digits in
      let g = free-digits 10 (decimal h) (omega arith) (decimal-is h).digits in
      let a = free-both 10 (ascii "YUV4MPEG2 W") (decimal w) refl f in
      let b = free-both 10 (ascii "YUV4MPEG2 W" ++ decimal w) (ascii " H") a refl in
      let c = free-both 10 (ascii "YUV4MPEG2 W" ++ decimal w ++ ascii " H") (decimal h) b g in
      let d = free-both 10 (ascii "YUV4MPEG2 W" ++ decimal w ++ ascii " H" ++ decimal h) (ascii " C420mpeg2") c refl in
      ap lines_of lines_then
      ∙ parts_cut 10 (header_with w h) (ascii "FRAME" ++ 10 ∷ rest) d
      ∙ ap (λ (ps : List (List ℕ)). header_with w h ∷ ps) (parts_cut 10 (ascii "FRAME") rest refl)
