-- What a reader leaves, by its answer. Assumes nothing.
use Prim.Native.Nat.{ℕ, ◌*◌}
use mathlib.Core.Path.{◌≡◌, refl, sym, ap, ◌∙◌}
use mathlib.Core.Bool.{Bool, false, cond}
use mathlib.Core.List.{List, [], ◌∷◌}
use borrow.Author.Tests.{ne_eqb}
use lib.Dec.{eqb}
use lib.ListN.{length}
use Rattle.laws.specs.Refusal.{refusal}
use Rattle.laws.proofs.Refusal.{first-applies, first-passed, skip}
use Rattle.sizes.specs.Sizes.{bad_planes}
use Rattle.sizes.specs.declared.Size.{Size}
use Rattle.sizes.proofs.Sized.{PlanesFit, fits-planes}
use Rattle.y4m.specs.Calls.{LookOutcome, ReadOutcome, WriteOutcome, if_done, found, found_of, size_said, macroblocks, stream_checks, read_checks}
use Rattle.y4m.specs.Stream.{luma_read, u_read, v_read, stream_of}
use Rattle.refusals.specs.Refusals.{code_of}
use Rattle.refusals.specs.declared.Refusal.{Refusal}
use Rattle.refusals.proofs.Codes.{code-positive}
use Rattle.std.specs.Prelude.{Result, Err}
use Rattle.y4m.specs.declared.Found.{Found}

refused-is : (e : Refusal) (size : Size) → found_of (Err e) ≡ found (code_of e) size
refused-is e size = let z = ne_eqb (code_of e) 0 (code-positive e) in rw z

-- ---- a refusal leaves everything as it was
kept : (s luma u v : List ℕ) {r : Result Size Refusal} (e : Refusal) → r ≡ Err e → code_of e ≡ refusal (read_checks s (length luma) (length u) (length v))
    → ReadOutcome s luma u v (found_of r) luma u v
kept s luma u v {r} e f k =
    let z : eqb (refusal (read_checks s (length luma) (length u) (length v))) 0 ≡ false = ap (λ (m : ℕ). eqb m 0) (sym k) ∙ ne_eqb (code_of e) 0 (code-positive e) in
    record {
      answer = ap found_of f ∙ refused-is e (size_said s) ∙ ap (λ (m : ℕ). found m (size_said s)) k;
      luma = sym (ap (λ b. cond b (luma_read (macroblocks s) s) luma) z);
      u = sym (ap (λ b. cond b (u_read (macroblocks s) s) u) z);
      v = sym (ap (λ b. cond b (v_read (macroblocks s) s) v) z);
    }

-- ---- the checks of a stream, then 3
abbrev three : List ℕ → ℕ → ℕ → ℕ → List (ℕ × Bool)
three s luma u v = (3, bad_planes (macroblocks s) luma u v) ∷ []

module _ (s luma u v : List ℕ) where
  pub turned-away : {r : Result Size Refusal} (e : Refusal) → r ≡ Err e → code_of e ≡ refusal (stream_checks s) → ReadOutcome s luma u v (found_of r) luma u v
  turned-away e f k = kept s luma u v e f (first-applies (stream_checks s) (three s (length luma) (length u) (length v)) tt k (code-positive e))

-- ---- one outcome only
pub one-read : {s luma u v luma₁ u₁ v₁ luma₂ u₂ v₂ : List ℕ} {r q : Found} → ReadOutcome s luma u v r luma₁ u₁ v₁ → ReadOutcome s luma u v q luma₂ u₂ v₂
    → (r ≡ q) × (luma₁ ≡ luma₂) × (u₁ ≡ u₂) × (v₁ ≡ v₂)
one-read a b = (a.answer ∙ sym b.answer, a.luma ∙ sym b.luma, a.u ∙ sym b.u, a.v ∙ sym b.v)

pub one-write : {size : Size} {luma u v s s₁ s₂ : List ℕ} {n m : ℕ} → WriteOutcome size luma u v s n s₁ → WriteOutcome size luma u v s m s₂
    → (n ≡ m) × (s₁ ≡ s₂)
one-write {size} {luma} {u} {v} {s} a b =
    let e = a.answer ∙ sym b.answer in
    (e, a.stream ∙ ap (λ (k : ℕ). if_done k (stream_of size luma u v) s) e ∙ sym b.stream)

-- ---- what was looked at can be read: into planes of the size that was told the reader answers the same
pub look-then-read : (s luma u v : List ℕ) {luma₁ u₁ v₁ : List ℕ} {l r : Found} → LookOutcome s l → l.number ≡ 0
    → PlanesFit (l.w * l.h) (length luma) (length u) (length v)
    → ReadOutcome s luma u v r luma₁ u₁ v₁ → r ≡ l
look-then-read s luma u v {l} {r} h z fit o =
    let n : refusal (stream_checks s) ≡ 0 = sym (ap (λ (f : Found). f.number) h) ∙ z in
    let e : l ≡ found 0 (size_said s) = h ∙ ap (λ (k : ℕ). found k (size_said s)) n in
    let c : l.w * l.h ≡ macroblocks s = ap (λ (f : Found). f.w * f.h) e in
    let three : bad_planes (macroblocks s) (length luma) (length u) (length v) ≡ false =
    ap (λ (k : ℕ). bad_planes k (length luma) (length u) (length v)) (sym c) ∙ fits-planes fit in
    let q = first-passed (stream_checks s) ((3, bad_planes (macroblocks s) (length luma) (length u) (length v)) ∷ []) tt n (skip 3 three refl) in
    o.answer ∙ ap (λ (k : ℕ). found k (size_said s)) (sym q) ∙ sym e
