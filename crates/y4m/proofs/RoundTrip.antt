-- What is written is read: the same size and the same planes, whatever follows in the stream. Assumes
-- nothing.
use Prim.Native.Nat.{ℕ, suc, ◌+◌, ◌*◌, ◌/◌, ◌%◌}
use mathlib.Core.Path.{◌≡◌, sym, ap, ◌∙◌, subst}
use mathlib.Core.Bool.{Bool, true, false, not, ◌&&◌, ◌||◌}
use mathlib.Core.List.{List, [], ◌∷◌, ◌++◌, append_assoc}
use borrow.Author.Tests.{le-leb, le-ltb}
use native.Mathlib.Omega.{arith}
use lib.Dec.{eqb, ltb, leb}
use lib.ListN.{length, take, drop, length-append}
use lib.Seq.{take_at, drop_at, drop-append-add, drop-append_seam}
use Rattle.laws.specs.Refusal.{refusal}
use Rattle.laws.proofs.Refusal.{passes, none-applies}
use Rattle.sizes.specs.Sizes.{bad_size, bad_planes}
use Rattle.sizes.specs.declared.Size.{Size}
use Rattle.sizes.proofs.Sized.{PlanesFit, planes-fit, fits-planes}
use Rattle.y4m.specs.Text.{ascii, decimal, lines_of, part}
use Rattle.y4m.specs.Stream.{header, frame_line, widths, heights, well_formed, good_header, malformed, other_planes, pixels, size_in, bad_sides, planes_at, cut_short, count, luma_read, u_read, v_read, lines_for, stream_of}
use Rattle.y4m.specs.Calls.{found, if_done, size_said, macroblocks, read_checks, ReadOutcome, length_for, write_checks, WriteOutcome}
use Rattle.y4m.specs.declared.Found.{Found}
use Rattle.y4m.proofs.Decimal.{decimal-is}
use Rattle.y4m.proofs.Parts.{some-part}
use Rattle.y4m.proofs.Written.{pieces-length}
use Rattle.y4m.proofs.WrittenLines.{header_with, lines_then, widths-of, heights-of, good, ours, lines-of}

-- ---- a picture that is written, and anything behind it
module _ (size : Size) (luma u v rest : List ℕ) (one : bad_size size ≡ false) (fit : PlanesFit (count size) (length luma) (length u) (length v)) where
  -- the planes, and what is behind them
  abbrev tail : List ℕ
  tail = luma ++ (u ++ (v ++ rest))

  abbrev stream : List ℕ
  stream = stream_of size luma u v ++ rest

  stream-is : stream ≡ lines_for size ++ tail
  stream-is =
      append_assoc (lines_for size ++ luma ++ u) v rest
      ∙ append_assoc (lines_for size ++ luma) u (v ++ rest)
      ∙ append_assoc (lines_for size) luma (u ++ (v ++ rest))

  lines_are : lines_of stream ≡ header_with (16 * size.w) (16 * size.h) ∷ ascii "FRAME" ∷ lines_of tail
  lines_are = ap lines_of stream-is ∙ lines-of (16 * size.w) (16 * size.h) tail

  header_is : header stream ≡ header_with (16 * size.w) (16 * size.h)
  header_is = ap (part 0) lines_are

  -- 15
  pub no-15 : malformed stream ≡ false
  unfolding malformed
  no-15 =
      let three : leb 3 (length (lines_of stream)) ≡ true =
      ap (λ (ls : List (List ℕ)). leb 3 (length ls)) lines_are ∙ le-leb 3 (suc (suc (length (lines_of tail)))) (omega (arith, some-part 10 tail)) in
      let a : good_header (header stream) ≡ true = ap good_header header_is ∙ good (16 * size.w) (16 * size.h) tail in
      let f : well_formed (ascii "FRAME") (frame_line stream) ≡ true = ap (λ (ls : List (List ℕ)). well_formed (ascii "FRAME") (part 1 ls)) lines_are in
      none_of three a f
    where
      none_of : {a b c : Bool} → a ≡ true → b ≡ true → c ≡ true → not (a && b && c) ≡ false
      none_of e f g = rw (e, f, g)

  -- 16
  pub no-16 : other_planes (header stream) ≡ false
  no-16 = ap other_planes header_is ∙ ours (16 * size.w) (16 * size.h) tail

  -- the size, and 17
  pub size_is : size_said stream ≡ size
  unfolding size_in
  size_is =
      let a = ap pixels (widths-of (16 * size.w) (16 * size.h) tail) ∙ (decimal-is (16 * size.w)).value in
      let b = ap pixels (heights-of (16 * size.w) (16 * size.h) tail) ∙ (decimal-is (16 * size.h)).value in
      let c : 16 * size.w / 16 ≡ size.w = omega arith in
      let d : 16 * size.h / 16 ≡ size.h = omega arith in
      ap size_in header_is ∙ (λ i. record { w = a i / 16; h = b i / 16 }) ∙ (λ i. record { w = c i; h = d i })

  pub no-17 : bad_sides (header stream) ≡ false
  unfolding bad_sides
  no-17 =
      let a = ap (λ (l : List ℕ). pixels (widths l)) header_is ∙ ap pixels (widths-of (16 * size.w) (16 * size.h) tail) ∙ (decimal-is (16 * size.w)).value in
      let b = ap (λ (l : List ℕ). pixels (heights l)) header_is ∙ ap pixels (heights-of (16 * size.w) (16 * size.h) tail) ∙ (decimal-is (16 * size.h)).value in
      let c : 16 * size.w % 16 ≡ 0 = omega arith in
      let d : 16 * size.h % 16 ≡ 0 = omega arith in
      none_of (ap (λ (n : ℕ). not (eqb (n % 16) 0)) a ∙ ap (λ (n : ℕ). not (eqb n 0)) c)
      (ap (λ (n : ℕ). not (eqb (n % 16) 0)) b ∙ ap (λ (n : ℕ). not (eqb n 0)) d)
      (ap bad_size size_is ∙ one)
    where
      none_of : {a b c : Bool} → a ≡ false → b ≡ false → c ≡ false → (a || b || c) ≡ false
      none_of e f g = rw (e, f, g)

  -- where the planes begin
  begin : planes_at stream ≡ length (lines_for size)
  unfolding planes_at
  begin =
      let w = 16 * size.w in
      let h = 16 * size.h in
      let a = ap length header_is in
      let b = ap (λ (ls : List (List ℕ)). length (part 1 ls)) lines_are in
      let c = ap length (lines_then w h []) in
      let d = length-append (lines_for size) [] in
      let e = length-append (header_with w h) (10 ∷ (ascii "FRAME" ++ 10 ∷ [])) in
      omega arith

  there : (k : ℕ) → drop (planes_at stream + k) stream ≡ drop k tail
  there k = (λ i. drop (begin i + k) (stream-is i)) ∙ drop-append-add (lines_for size) tail k

  behind : drop (planes_at stream) stream ≡ tail
  behind = (λ i. drop (begin i) (stream-is i)) ∙ drop-append_seam (lines_for size) tail

  counted : macroblocks stream ≡ count size
  counted = ap count size_is

  -- 18
  pub no-18 : cut_short (macroblocks stream) stream ≡ false
  no-18 =
      let a = ap length stream-is in
      let b = length-append (lines_for size) tail in
      let c = length-append luma (u ++ (v ++ rest)) in
      let d = length-append u (v ++ rest) in
      let e = length-append v rest in
      (λ i. ltb (length stream) (begin i + 384 * counted i)) ∙ le-ltb (length stream) (length (lines_for size) + 384 * count size) (omega arith)

  -- the planes
  pub luma-is : luma_read (macroblocks stream) stream ≡ luma
  luma-is =
      (λ i. take (256 * counted i) (behind i)) ∙ take_at luma (u ++ (v ++ rest)) (256 * count size) fit.luma-is

  pub u-is : u_read (macroblocks stream) stream ≡ u
  u-is =
      ap (λ (n : ℕ). take (64 * n) (drop (planes_at stream + 256 * n) stream)) counted
      ∙ ap (take (64 * count size)) (there (256 * count size) ∙ drop_at luma (u ++ (v ++ rest)) (256 * count size) fit.luma-is)
      ∙ take_at u (v ++ rest) (64 * count size) fit.u-is

  pub v-is : v_read (macroblocks stream) stream ≡ v
  v-is =
      let l = length-append luma u in
      let a : luma ++ (u ++ (v ++ rest)) ≡ (luma ++ u) ++ (v ++ rest) = sym (append_assoc luma u (v ++ rest)) in
      ap (λ (n : ℕ). take (64 * n) (drop (planes_at stream + 320 * n) stream)) counted
      ∙ ap (take (64 * count size))
      (there (320 * count size) ∙ ap (drop (320 * count size)) a ∙ drop_at (luma ++ u) (v ++ rest) (320 * count size) (omega arith))
      ∙ take_at v rest (64 * count size) fit.v-is

  -- so it is not refused, into planes of its size
  pub not-refused : (luma₀ u₀ v₀ : List ℕ) → length luma₀ ≡ length luma → length u₀ ≡ length u → length v₀ ≡ length v
      → refusal (read_checks stream (length luma₀) (length u₀) (length v₀)) ≡ 0
  not-refused luma₀ u₀ v₀ a b c =
      let three : bad_planes (macroblocks stream) (length luma₀) (length u₀) (length v₀) ≡ false =
      (λ i. bad_planes (counted i) (a i) (b i) (c i)) ∙ fits-planes fit in
      none-applies (read_checks stream (length luma₀) (length u₀) (length v₀)) (no-15, (no-16, (no-17, (no-18, (three, tt)))))

-- ---- the calls, as their contracts tell of them: what one writes the other reads, whatever is put behind it
pub read_back : (size : Size) (luma u v s₀ s₁ rest luma₀ u₀ v₀ luma₁ u₁ v₁ : List ℕ) {r : Found} → WriteOutcome size luma u v s₀ 0 s₁
    → ReadOutcome (s₁ ++ rest) luma₀ u₀ v₀ r luma₁ u₁ v₁
    → length luma₀ ≡ length luma → length u₀ ≡ length u → length v₀ ≡ length v
    → (r ≡ found 0 size) × (luma₁ ≡ luma) × (u₁ ≡ u) × (v₁ ≡ v)
read_back size luma u v s₀ s₁ rest luma₀ u₀ v₀ luma₁ u₁ v₁ {r} w h a b c =
    let cs = write_checks size (length luma) (length u) (length v) (length s₀) in
    let one : bad_size size ≡ false = passes 1 cs tt (sym w.answer) in
    let fit = planes-fit (count size) (length luma) (length u) (length v) (passes 3 cs tt (sym w.answer)) in
    let s : List ℕ = stream_of size luma u v ++ rest in
    let o : ReadOutcome s luma₀ u₀ v₀ r luma₁ u₁ v₁ = subst (λ (t : List ℕ). ReadOutcome (t ++ rest) luma₀ u₀ v₀ r luma₁ u₁ v₁) w.stream h in
    let z = not-refused size luma u v rest one fit luma₀ u₀ v₀ a b c in (
      o.answer ∙ (λ i. found (z i) (size_is size luma u v rest one fit i)),
      o.luma ∙ ap (λ (n : ℕ). if_done n (luma_read (macroblocks s) s) luma₀) z ∙ luma-is size luma u v rest one fit,
      o.u ∙ ap (λ (n : ℕ). if_done n (u_read (macroblocks s) s) u₀) z ∙ u-is size luma u v rest one fit,
      o.v ∙ ap (λ (n : ℕ). if_done n (v_read (macroblocks s) s) v₀) z ∙ v-is size luma u v rest one fit,
    )

-- the length of what is written: 30 bytes, the digits of the sides, and the planes
pub written-long : (size : Size) (luma u v : List ℕ) → bad_size size ≡ false → PlanesFit (count size) (length luma) (length u) (length v)
    → (length (stream_of size luma u v) ≡ length_for size)
    × (length_for size ≡ 30 + length (decimal (16 * size.w)) + length (decimal (16 * size.h)) + 384 * count size)
written-long size luma u v one fit =
    let a = length-append (lines_for size ++ luma ++ u) v in
    let b = length-append (lines_for size ++ luma) u in
    let c = length-append (lines_for size) luma in
    let l = pieces-length (16 * size.w) (16 * size.h) in
    (omega arith, omega arith)
