-- The lines of a stream, how long they are, and how it is put together. Assumes nothing.
use Prim.Native.Nat.{ℕ, ◌+◌, ◌*◌, ◌≤◌}
use mathlib.Core.Path.{◌≡◌}
use mathlib.Core.Bool.{false}
use mathlib.Core.List.{List, ◌++◌}
use native.Mathlib.Omega.{arith}
use lib.ListN.{length, length-append}
use Rattle.sizes.specs.Sizes.{bad_size}
use Rattle.sizes.specs.declared.Size.{Size}
use Rattle.sizes.proofs.Sized.{sized}
use Rattle.y4m.specs.Text.{ascii, decimal}
use Rattle.y4m.specs.Stream.{lines_with}
use Rattle.y4m.specs.Places.{Put, Pixels, digit_count}
use Rattle.y4m.proofs.Copied.{put-more, put_full}
use Rattle.y4m.proofs.Decimal.{decimal-part}

pub pixels-of : (size : Size) → bad_size size ≡ false → Pixels (16 * size.w) × Pixels (16 * size.h)
pixels-of size e =
    let s = sized size e in
    (record { least = omega arith; most = omega arith }, record { least = omega arith; most = omega arith })

-- the five pieces of the two lines
pub pieces-length : (w h : ℕ) → length (lines_with w h) ≡ 30 + length (decimal w) + length (decimal h)
unfolding lines_with
pieces-length w h = simp length-append (omega arith)

pub two-lines-length : (w h : ℕ) → Pixels w → Pixels h → length (lines_with w h) ≡ 30 + digit_count w + digit_count h
two-lines-length w h p q =
    let e = (decimal-part w p.least p.most).1 in
    let f = (decimal-part h q.least q.most).1 in
    let l = pieces-length w h in
    omega arith

-- put one behind the other they are the lines
pub lines-put : (s : List ℕ) (w h : ℕ) {a b c d e : ℕ} {s₁ s₂ s₃ s₄ s₅ : List ℕ} → Pixels w → Pixels h → 30 + digit_count w + digit_count h ≤ length s
    → Put s 0 (ascii "YUV4MPEG2 W") a s₁ → Put s₁ a (decimal w) b s₂ → Put s₂ b (ascii " H") c s₃ → Put s₃ c (decimal h) d s₄
    → Put s₄ d (ascii " C420mpeg2\nFRAME\n") e s₅ → Put s 0 (lines_with w h) e s₅
unfolding lines_with
lines-put s w h p q l p₁ p₂ p₃ p₄ p₅ =
    let x = (decimal-part w p.least p.most).1 in
    let y = (decimal-part h q.least q.most).1 in
    let m₁ = length-append (ascii "YUV4MPEG2 W") (decimal w) in
    let m₂ = length-append (ascii "YUV4MPEG2 W" ++ decimal w) (ascii " H") in
    let m₃ = length-append (ascii "YUV4MPEG2 W" ++ decimal w ++ ascii " H") (decimal h) in
    let t₁ = put-more s (ascii "YUV4MPEG2 W") (decimal w) 0 (omega arith) p₁ p₂ in
    let t₂ = put-more s (ascii "YUV4MPEG2 W" ++ decimal w) (ascii " H") 0 (omega arith) t₁ p₃ in
    let t₃ = put-more s (ascii "YUV4MPEG2 W" ++ decimal w ++ ascii " H") (decimal h) 0 (omega arith) t₂ p₄ in
    put-more s (ascii "YUV4MPEG2 W" ++ decimal w ++ ascii " H" ++ decimal h) (ascii " C420mpeg2\nFRAME\n") 0 (omega arith) t₃ p₅

-- .. and with the planes behind them all of the stream
pub planes-put : (s lines luma u v : List ℕ) {a b c d : ℕ} {s₁ s₂ s₃ s₄ : List ℕ} → length s ≡ length lines + length luma + length u + length v
    → Put s 0 lines a s₁ → Put s₁ a luma b s₂ → Put s₂ b u c s₃ → Put s₃ c v d s₄ → s₄ ≡ lines ++ luma ++ u ++ v
planes-put s lines luma u v l p₁ p₂ p₃ p₄ =
    let m₁ = length-append lines luma in
    let m₂ = length-append (lines ++ luma) u in
    let m₃ = length-append (lines ++ luma ++ u) v in
    let t₁ = put-more s lines luma 0 (omega arith) p₁ p₂ in
    let t₂ = put-more s (lines ++ luma) u 0 (omega arith) t₁ p₃ in
    let t₃ = put-more s (lines ++ luma ++ u) v 0 (omega arith) t₂ p₄ in
    put_full s (lines ++ luma ++ u ++ v) (omega arith) t₃
