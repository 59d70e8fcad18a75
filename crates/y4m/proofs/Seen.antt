-- What the checks of a stream come to, one group after the other. Assumes nothing.
use Prim.Native.Nat.{ℕ, suc, ◌+◌, ◌*◌, ◌<◌, ◌≤◌}
use mathlib.Core.Path.{◌≡◌, refl, sym, ap, ◌∙◌}
use mathlib.Core.Bool.{Bool, true, false, not, ◌&&◌}
use mathlib.Core.List.{List, [], ◌∷◌, ◌++◌}
use borrow.Author.Tests.{lt-ltb, le-ltb, le-leb}
use native.Mathlib.Omega.{arith}
use lib.Dec.{ltb, leb}
use lib.ListN.{length, drop, length-append}
use lib.Seq.{drop-append-add}
use mathlib.Core.Logic.{⊎_elim}
use Rattle.laws.proofs.Ints.{le-or-lt}
use Rattle.laws.specs.Refusal.{refusal}
use Rattle.laws.proofs.Refusal.{stop, skip, first-applies, first-passed}
use Rattle.sizes.specs.declared.Size.{Size}
use Rattle.y4m.specs.Text.{ascii, newline, part, lines_of}
use Rattle.y4m.specs.Stream.{header, frame_line, good_header, well_formed, malformed, other_planes, bad_sides, size_in, planes_at, cut_short, count}
use Rattle.y4m.specs.Calls.{macroblocks, size_said, stream_checks, GoodSize}
use Rattle.y4m.specs.Places.{line_checks, Seen}
use Rattle.y4m.proofs.Parts.{some-part}

-- whether both lines have a newline comes first
three-false : (x y z : Bool) → x ≡ false → not (x && y && z) ≡ true
three-false x y z e = rw e

three-true : (x y z : Bool) → x ≡ true → not (x && y && z) ≡ not (y && z)
three-true x y z e = rw e

-- a bound and what it bounds are shifted together
shifted : (n x k s : ℕ) → s ≡ n + x → ltb s (n + k) ≡ ltb x k
shifted n x k s e =
    ⊎_elim
    (λ h. let m : n + k ≤ s = omega arith in le-ltb s (n + k) m ∙ sym (le-ltb x k h))
    (λ h. let m : s < n + k = omega arith in lt-ltb s (n + k) m ∙ sym (lt-ltb x k h))
    (le-or-lt k x)

-- ---- 15: one line that is not ended, or two of which the second is not
module _ (s : List ℕ) where
  few-lines : leb 3 (length (lines_of s)) ≡ false → 15 ≡ refusal (stream_checks s)
  unfolding malformed
  few-lines e = stop 15 _ (three-false (leb 3 (length (lines_of s))) _ _ e)

  pub one_line : lines_of s ≡ s ∷ [] → 15 ≡ refusal (stream_checks s)
  one_line e = few-lines (ap (λ (ls : List (List ℕ)). leb 3 (length ls)) e)

  pub two-lines : {line rest : List ℕ} → lines_of s ≡ line ∷ lines_of rest → lines_of rest ≡ rest ∷ [] → 15 ≡ refusal (stream_checks s)
  two-lines {line} e f = few-lines (ap (λ (ls : List (List ℕ)). leb 3 (length ls)) (e ∙ ap (λ (ls : List (List ℕ)). line ∷ ls) f))

-- ---- both are ended, and planes follow
module _ (s line rest frame planes : List ℕ)
    (first : lines_of s ≡ line ∷ lines_of rest) (whole : s ≡ line ++ newline ∷ rest)
    (second : lines_of rest ≡ frame ∷ lines_of planes) (behind : rest ≡ frame ++ newline ∷ planes) where
  lines-are : lines_of s ≡ line ∷ frame ∷ lines_of planes
  lines-are = first ∙ ap (λ (ls : List (List ℕ)). line ∷ ls) second

  header-is : header s ≡ line
  header-is = ap (λ (ls : List (List ℕ)). part 0 ls) lines-are

  frame-is : frame_line s ≡ frame
  frame-is = ap (λ (ls : List (List ℕ)). part 1 ls) lines-are

  ended : leb 3 (length (lines_of s)) ≡ true
  ended = ap (λ (ls : List (List ℕ)). leb 3 (length ls)) lines-are ∙ le-leb 3 (suc (suc (length (lines_of planes)))) (omega (arith, some-part 10 planes))

  at-is : planes_at s ≡ length line + suc (length frame + 1)
  unfolding planes_at
  at-is = let p = ap length header-is in let q = ap length frame-is in omega arith

  planes-are : planes ≡ drop (planes_at s) s
  planes-are =
      sym ((λ i. drop (at-is i) (whole i))
      ∙ drop-append-add line (newline ∷ rest) (suc (length frame + 1))
      ∙ ap (drop (length frame + 1)) behind
      ∙ drop-append-add frame (newline ∷ planes) 1)

  long-is : length s ≡ planes_at s + length planes
  long-is =
      let p = ap length whole ∙ length-append line (newline ∷ rest) in
      let q = ap length behind ∙ length-append frame (newline ∷ planes) in
      omega (arith, at-is)

  checks-are : stream_checks s ≡ line_checks line frame ++ ((18, cut_short (macroblocks s) s) ∷ [])
  unfolding malformed
  checks-are =
      let p = header-is in
      let q = frame-is in
      ap (λ (m : Bool). (15, m) ∷ (16, other_planes (header s)) ∷ (17, bad_sides (header s)) ∷ (18, cut_short (macroblocks s) s) ∷ []) (three-true (leb 3 (length (lines_of s))) _ _ ended)
      ∙ (λ i. (15, not (good_header (p i) && well_formed (ascii "FRAME") (q i))) ∷ (16, other_planes (p i)) ∷ (17, bad_sides (p i)) ∷ (18, cut_short (macroblocks s) s) ∷ [])

  pub bad-line : {n : ℕ} → n ≡ refusal (line_checks line frame) → (n ≡ 0 → ⊥) → n ≡ refusal (stream_checks s)
  bad-line e z = first-applies (line_checks line frame) ((18, cut_short (macroblocks s) s) ∷ []) tt e z ∙ sym (ap refusal checks-are)

  module _ (passed : 0 ≡ refusal (line_checks line frame)) {size : Size} (sized : size ≡ size_in line) where
    eighteen : {n : ℕ} → n ≡ refusal ((18, cut_short (macroblocks s) s) ∷ []) → n ≡ refusal (stream_checks s)
    eighteen h = first-passed (line_checks line frame) ((18, cut_short (macroblocks s) s) ∷ []) tt (sym passed) h ∙ sym (ap refusal checks-are)

    said : size ≡ size_said s
    said = sized ∙ ap size_in (sym header-is)

    cut-is : cut_short (macroblocks s) s ≡ ltb (length planes) (384 * (size.w * size.h))
    cut-is =
        shifted (planes_at s) (length planes) (384 * count (size_said s)) (length s) long-is
        ∙ ap (λ (o : Size). ltb (length planes) (384 * count o)) (sym said)

    pub says-cut_short : length planes < 384 * (size.w * size.h) → 18 ≡ refusal (stream_checks s)
    says-cut_short h = eighteen (stop 18 0 (cut-is ∙ lt-ltb _ _ h))

    pub none-refused : 384 * (size.w * size.h) ≤ length planes → 0 ≡ refusal (stream_checks s)
    none-refused h = eighteen (skip 18 (cut-is ∙ le-ltb _ _ h) refl)

    pub all_there : GoodSize size → 384 * (size.w * size.h) ≤ length planes → Seen s size planes
    all_there g h = record { sized = said; within = g; behind = planes-are; long = h }
