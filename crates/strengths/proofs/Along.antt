-- Stretches of a row: the first refusal, and that a macroblock by itself is one. Assumes nothing.
use mathlib.Core.Path.{◌≡◌, refl, sym, ap, ◌∙◌}
use mathlib.Core.Bool.{Bool, false, cond}
use mathlib.Core.List.{List, []}
use mathlib.Core.Logic.{⊎_elim}
use Prim.Native.Nat.{ℕ, zero, suc, ◌+◌, ◌-◌, ◌*◌, ◌<◌, ◌≤◌}
use native.Mathlib.Nat.{not-suc-le-zero, eq-or-lt_of_le, le_of_suc-le-suc, le_refl}
use native.Mathlib.Omega.{arith}
use borrow.Author.Tests.{ne_eqb, lt-leb}
use lib.Dec.{eqb, leb}
use lib.ListN.{length}
use Rattle.laws.specs.Loop.{up_to, span}
use Rattle.laws.specs.Refusal.{refusal, or_else}
use Rattle.laws.proofs.Bools.{or-false, full}
use Rattle.laws.proofs.Grid.{index-lt}
use Rattle.laws.proofs.Loop.{up_to-keeps, up_to-add, span_none, span_more, span-join}
use Rattle.laws.proofs.Refusal.{passes, none-applies, refusal-left, or-else-kept, or-else-0}
use Rattle.motion.specs.Grids.{Grids}
use Rattle.sizes.specs.Entries.{bad_flag_count}
use Rattle.sizes.specs.Sizes.{outside_of}
use Rattle.sizes.specs.declared.Size.{Size}
use Rattle.strengths.specs.Calls.{length_checks, value_checks, answer_of, untrue_known, answer_at, DeriveOutcome}
use Rattle.strengths.specs.Inner.{stretch_answer, stretch_written, StretchOutcome}
use Rattle.strengths.specs.Kinds.{known_at}
use Rattle.strengths.specs.declared.kinds.Known.{Known}
use Rattle.strengths.proofs.DeriveOutcomes.{passed-all, lengths-refuse}
use Rattle.strengths.proofs.GridsFit.{GridsFit, grids-fit}

-- ---- of answers f 0, f 1, ..: a refusal stays, and 0 tells that there is none
abbrev pub first_of : ℕ → (ℕ → ℕ) → ℕ → ℕ
first_of n f a = up_to n (λ x r. or_else r (f x)) a

pub first-kept : (n : ℕ) (f : ℕ → ℕ) (a : ℕ) → (a ≡ 0 → ⊥) → first_of n f a ≡ a
first-kept n f a h = up_to-keeps (λ (r : ℕ). r ≡ a) n _ a (λ k t l e. ap (λ (r : ℕ). or_else r (f k)) e ∙ or-else-kept a (f k) h) refl

pub first-zero : (n : ℕ) (f : ℕ → ℕ) → first_of n f 0 ≡ 0 → (k : ℕ) → k < n → f k ≡ 0
unfolding up_to
first-zero zero f e k l = absurd (not-suc-le-zero l)
first-zero (suc n) f e k l =
    let p = or-else-0 (first_of n f 0) (f n) e in
    ⊎_elim (λ q. ap f q ∙ p.1) (λ b. first-zero n f p.0 k b) (eq-or-lt_of_le (le_of_suc-le-suc l))

-- ---- the same from a up to b
module _ (a b : ℕ) (f : ℕ → ℕ) where
  pub stretch-zero : span a b (λ x r. or_else r (f x)) 0 ≡ 0 → (x : ℕ) → a ≤ x → x < b → f x ≡ 0
  unfolding span
  stretch-zero e x h k =
      let i : a + (x - a) ≡ x = omega arith in
      sym (ap f i) ∙ first-zero (b - a) (λ i. f (a + i)) e (x - a) (omega arith)

  pub stretch-first : a < b → (f a ≡ 0 → ⊥) → f a ≡ span a b (λ x r. or_else r (f x)) 0
  unfolding span up_to
  stretch-first h k =
      let i : b - a ≡ 1 + (b - a - 1) = omega arith in
      let z : a + 0 ≡ a = omega arith in
      let g : ℕ → ℕ = λ j. f (a + j) in
      sym (ap (λ (m : ℕ). first_of m g 0) i
      ∙ up_to-add 1 (b - a - 1) _ 0
      ∙ first-kept (b - a - 1) (λ j. g (1 + j)) (g 0) (λ e. k (sym (ap f z) ∙ e))
      ∙ ap f z)

-- .. from a up to b, where none is before x
pub stretch-stop : (a b : ℕ) (f : ℕ → ℕ) (x : ℕ) → a ≤ x → x < b → 0 ≡ span a x (λ x r. or_else r (f x)) 0 → (f x ≡ 0 → ⊥) → f x ≡ span a b (λ x r. or_else r (f x)) 0
stretch-stop a b f x h k e n =
    stretch-first x b f k n ∙ ap (span x b (λ x r. or_else r (f x))) e ∙ span-join a x b (λ x r. or_else r (f x)) 0 h (omega arith)

-- ---- one turn
pub span-one : {S : Type 0} (a : ℕ) (f : ℕ → S → S) (s : S) → f a s ≡ span a (a + 1) f s
span-one a f s = span_more a a f s (le_refl a) (span_none a f s) refl

-- ---- lengths that pass for one macroblock of a row pass for all
pub lengths-along : (size : Size) (a x y : ℕ) (t8s : List ℕ) (g : Grids) (n : ℕ) → refusal (length_checks size a y t8s g n) ≡ 0 → x < size.w → refusal (length_checks size x y t8s g n) ≡ 0
lengths-along size a x y t8s g n e h =
    none-applies (length_checks size x y t8s g n) (passes 1 cs tt e, (place, (passes 4 cs tt e, (passes 5 cs tt e, tt))))
  where
    cs : List (ℕ × Bool)
    cs = length_checks size a y t8s g n

    place : outside_of size x y ≡ false
    place = rw (lt-leb size.w x h) (or-false (leb size.w a) (leb size.h y) (passes 2 (length_checks size a y t8s g n) tt e)).1

-- where a macroblock answers 0, or its lengths pass, it has a number of all that are lent
pub answer-fits : (size : Size) (x y : ℕ) (t8s : List ℕ) (g : Grids) (n : ℕ) (untrue : Bool) → answer_of size x y t8s g untrue n ≡ 0 → GridsFit size x y t8s g n
answer-fits size x y t8s g n untrue e =
    grids-fit size x y t8s g n (refusal-left (length_checks size x y t8s g n) (value_checks size x y t8s g) tt (passed-all size x y t8s g n untrue e))

pub number-there : (size : Size) (x y : ℕ) (t8s : List ℕ) (g : Grids) (n k : ℕ) → GridsFit size x y t8s g n → bad_flag_count (size.w * size.h) k ≡ false → eqb k 0 ≡ false → y * size.w + x < k
number-there size x y t8s g n k h e z =
    omega (arith, index-lt size.w size.h x y h.column h.line, full k (size.w * size.h) e z)

-- ---- the outcomes of a stretch
module _ (size : Size) (field : Bool) (y : ℕ) (known : Known) (kinds t8s : List ℕ) (g : Grids) (s : List ℕ) where
  -- refused by lengths, which are its first macroblock's
  pub lengths-first : (a b n : ℕ) → a < b → n ≡ refusal (length_checks size a y t8s g (length s)) → (n ≡ 0 → ⊥) → StretchOutcome size field a b y known kinds t8s g s n s
  unfolding stretch_answer
  lengths-first a b n l e h =
      let k = lengths-refuse size a y t8s g (length s) e h (untrue_known (known_at known kinds (y * size.w + a)) g size.w a y) in
      record { says = k ∙ stretch-first a b (answer_at size y known kinds t8s g (length s)) l (λ z. h (k ∙ z)); leaves = rw (ne_eqb n 0 h) }

-- one macroblock, of which no number is lent
pub one-macroblock : (size : Size) (field : Bool) (x y : ℕ) (known : Known) (t8s : List ℕ) (g : Grids) (s : List ℕ) (n : ℕ) (s' : List ℕ)
    → StretchOutcome size field x (x + 1) y known [] t8s g s n s' → DeriveOutcome size field x y t8s g (untrue_known known g size.w x y) s n s'
unfolding stretch_answer stretch_written
one-macroblock size field x y known t8s g s n s' o =
    record { says = o.says ∙ sym (span-one x _ 0); leaves = o.leaves ∙ ap (λ (t : List ℕ). cond (eqb n 0) t s) (sym (span-one x _ s)) }
