-- Wrong readers and writers, each shown to break the promise on a small stream; and that a refusal changes
-- nothing. Assumes nothing.
use Prim.Native.Nat.{ℕ, ◌+◌, ◌*◌}
use mathlib.Core.Path.{◌≡◌, sym, ap, ◌∙◌}
use mathlib.Core.Bool.{Bool, false, cond}
use mathlib.Core.List.{List, [], ◌++◌, replicate}
use borrow.Author.Tests.{ne_eqb}
use native.Mathlib.Omega.{arith}
use lib.Dec.{eqb}
use lib.ListN.{length, get_or}
use Rattle.laws.specs.Refusal.{refusal}
use Rattle.sizes.specs.declared.Size.{Size}
use Rattle.y4m.specs.Text.{ascii, digits_in}
use Rattle.y4m.specs.Stream.{malformed, other_planes, bad_sides, size_in, planes_at, lines_with, luma_read, u_read, v_read}
use Rattle.y4m.specs.Calls.{read_checks, macroblocks, LookOutcome, ReadOutcome, LengthOutcome, WriteOutcome}
use Rattle.y4m.specs.declared.Found.{Found}
use Rattle.y4m.proofs.Examples.{grey_bytes, number_for, no_lines, no-picture, first-of-two}

-- ---- a refusal leaves what was lent as it was
module _ (s luma u v luma₁ u₁ v₁ : List ℕ) (r : Found) (h : ReadOutcome s luma u v r luma₁ u₁ v₁) (z : r.number ≡ 0 → ⊥) where
  pub read_keeps : (luma₁ ≡ luma) × (u₁ ≡ u) × (v₁ ≡ v)
  read_keeps =
      let n = refusal (read_checks s (length luma) (length u) (length v)) in
      let e : eqb n 0 ≡ false = ne_eqb n 0 (λ k. z (ap (λ (f : Found). f.number) h.answer ∙ k)) in (
        h.luma ∙ ap (λ (b : Bool). cond b (luma_read (macroblocks s) s) luma) e,
        h.u ∙ ap (λ (b : Bool). cond b (u_read (macroblocks s) s) u) e,
        h.v ∙ ap (λ (b : Bool). cond b (v_read (macroblocks s) s) v) e,
      )

pub write_keeps : (size : Size) (luma u v s s₁ : List ℕ) (n : ℕ) → WriteOutcome size luma u v s n s₁ → (n ≡ 0 → ⊥) → s₁ ≡ s
write_keeps size luma u v s s₁ n h z = h.stream ∙ rw (ne_eqb n 0 z)

-- ---- readers, with planes for one macroblock
abbrev Reads : List ℕ → ℕ → List ℕ → List ℕ → List ℕ → Type 0
Reads s n luma u v = (r : Found) × (r.number ≡ n) × ReadOutcome s (replicate 256 0) (replicate 64 0) (replicate 64 0) r luma u v

says : (s : List ℕ) (n : ℕ) {m : ℕ} {luma u v : List ℕ} → number_for s ≡ m → Reads s n luma u v → n ≡ m
says s n e (r, k, h) = sym k ∙ ap (λ (f : Found). f.number) h.answer ∙ e

module _ (luma u v : List ℕ) where
  -- 16 asked before 15: of the FRAME line too
  pub sixteen-first : Reads (ascii "YUV4MPEG2 W16 H16 C444\nFRAM\n") 16 luma u v → ⊥
  sixteen-first h = let k = says _ 16 first-of-two.0 h in omega arith

  -- a width that is given twice taken; here both are the same
  pub width-twice : Reads (ascii "YUV4MPEG2 W16 H16 W16\nFRAME\n") 18 luma u v → ⊥
  width-twice h = let k = says _ 18 no_lines.3 h in omega arith

  -- a number that wraps: 2 to the 64th and 16 taken for 16
  pub width-wraps : Reads (ascii "YUV4MPEG2 W18446744073709551632 H16\nFRAME\n" ++ grey_bytes) 0 luma u v → ⊥
  width-wraps h = let k = says _ 0 no-picture.5 h in omega arith

  -- FRAME taken without its newline
  pub frame-unended : Reads (ascii "YUV4MPEG2 W16 H16\nFRAME") 18 luma u v → ⊥
  frame-unended h = let k = says _ 18 no_lines.9 h in omega arith

  -- planes written, and 18 answered then
  pub luma-first : Reads (ascii "YUV4MPEG2 W16 H16\nFRAME\n" ++ replicate 383 128) 18 (replicate 256 128) u v → ⊥
  luma-first (r, k, h) =
      let z = (read_keeps _ _ _ _ _ _ _ r h (λ e. omega arith)).0 in
      let o : ◌≡◌ {A = ℕ} 128 0 = ap (λ (l : List ℕ). get_or l 0 0) z in
      omega arith

-- U and V exchanged
pub u-for-v : (luma : List ℕ) → Reads (ascii "YUV4MPEG2 W16 H16\nFRAME\n" ++ replicate 320 128 ++ replicate 64 129) 0 luma (replicate 64 129) (replicate 64 128) → ⊥
unfolding malformed other_planes bad_sides size_in planes_at
u-for-v luma (r, k, h) = let o : ◌≡◌ {A = ℕ} 129 128 = ap (λ (l : List ℕ). get_or l 0 0) h.u in omega arith

-- ---- writers: a stream that is one byte longer taken; 18 asked before 3
abbrev Writes : List ℕ → List ℕ → ℕ → List ℕ → Type 0
Writes luma s n s₁ = WriteOutcome (record { w = 1; h = 1 }) luma (replicate 64 128) (replicate 64 128) s n s₁

pub longer-taken : (s₁ : List ℕ) → Writes (replicate 256 128) (replicate 419 0) 0 s₁ → ⊥
unfolding lines_with digits_in
longer-taken s₁ h = let k : ◌≡◌ {A = ℕ} 0 18 = h.answer in omega arith

pub length-first : (s₁ : List ℕ) → Writes [] [] 18 s₁ → ⊥
unfolding lines_with digits_in
length-first s₁ h = let k : ◌≡◌ {A = ℕ} 18 3 = h.answer in omega arith

-- ---- the size alone: told of a stream that is cut short, or beside the refusal
pub cut-looked : LookOutcome (ascii "YUV4MPEG2 W16 H16\nFRAME\n") (record { number = 0; w = 1; h = 1 }) → ⊥
unfolding malformed other_planes bad_sides size_in planes_at
cut-looked h = let k : ◌≡◌ {A = ℕ} 0 18 = ap (λ (f : Found). f.number) h in omega arith

pub size-with-18 : LookOutcome (ascii "YUV4MPEG2 W16 H16\nFRAME\n") (record { number = 18; w = 1; h = 1 }) → ⊥
unfolding malformed other_planes bad_sides size_in planes_at
size-with-18 h = let k : ◌≡◌ {A = ℕ} 1 0 = ap (λ (f : Found). f.w) h in omega arith

-- ---- the length: of a size that is refused, and with two digits for 720 pixels
pub length-of-none : LengthOutcome (record { w = 0; h = 1 }) 33 → ⊥
length-of-none h = let k : ◌≡◌ {A = ℕ} 33 0 = h in omega arith

pub two_digits : LengthOutcome (record { w = 45; h = 1 }) (34 + 384 * 45) → ⊥
unfolding lines_with digits_in
two_digits h = let k : ◌≡◌ {A = ℕ} 17314 17315 = h in omega arith
