-- The answers of `is_final`, from the three marks that it reads. Assumes nothing.
use mathlib.Core.Path.{◌≡◌, refl, sym, ap, ◌∙◌}
use mathlib.Core.Bool.{Bool, true, false, cond, not, ◌&&◌, ◌||◌}
use Rattle.std.specs.Prelude.{Result, Err}
use mathlib.Core.List.{List}
use Prim.Native.Nat.{ℕ, ◌+◌, ◌*◌, ◌<◌, ◌≤◌}
use native.Mathlib.Omega.{arith}
use borrow.Author.Tests.{ne_eqb, leb-false, lt-ltb, le-ltb}
use lib.Dec.{eqb, ltb, leb}
use lib.ListN.{get_or}
use Rattle.laws.specs.Refusal.{refusal, or_else}
use Rattle.laws.proofs.Bools.{or-false, equal}
use Rattle.laws.proofs.Grid.{index-lt}
use Rattle.laws.proofs.Refusal.{passes, or-else-kept}
use Rattle.sizes.proofs.Sized.{Sized, sized}
use Rattle.sizes.specs.declared.Size.{Size}
use Rattle.finality.specs.Final.{has_right, has_lower, is_final, bad_asked, place_checks, finality, finality_answered, if_there, joined, finals, all_answered}
use Rattle.finality.specs.declared.Finality.{Finality}
use Rattle.finality.specs.declared.Finals.{Finals}
use Rattle.finality.specs.declared.MadeFinal.{MadeFinal}
use Rattle.refusals.specs.Refusals.{code_of}
use Rattle.refusals.specs.declared.Refusal.{Refusal}
use Rattle.refusals.proofs.Codes.{code-positive}

-- a refusal, and an answer
pub answer-refused : {m : ℕ} {r : Result Bool Refusal} {e : Refusal} (b : Bool) → r ≡ Err e → code_of e ≡ m → finality_answered r ≡ finality m b
answer-refused {m} {r} {e} b f k = ap finality_answered f ∙ (λ i. record { number = k i; yes = (false-is ∙ ap (λ (n : ℕ). eqb n 0 && b) k) i })
  where
    false-is : false ≡ (eqb (code_of e) 0 && b)
    false-is = rw (ne_eqb (code_of e) 0 (code-positive e))

pub answer-told : {m : ℕ} {a b : Bool} → 0 ≡ m → a ≡ b → finality 0 a ≡ finality m b
answer-told e f = λ i. finality (e i) (f i)

-- ---- three answers as one: the first that refuses, or what all say
abbrev refused : Refusal → Finality
refused e = record { number = code_of e; yes = false }

abbrev all_refused : Refusal → Finals
all_refused e = record { number = code_of e; own = false; left = false; upper = false }

none-told : (e : Refusal) (a b c : Bool) → all_refused e ≡ finals (code_of e) a b c
none-told e a b c = let z = ne_eqb (code_of e) 0 (code-positive e) in rw z

module _ {r : Result MadeFinal Refusal} (e : Refusal) (k : r ≡ Err e) (f l u : Finality) where
  pub own-refuses : refused e ≡ f → all_answered r ≡ joined f l u
  own-refuses h =
      ap all_answered k
      ∙ none-told e false l.yes u.yes
      ∙ ap (λ (n : ℕ). finals n false l.yes u.yes) (sym (or-else-kept (code_of e) (or_else l.number u.number) (code-positive e)))
      ∙ ap (λ (g : Finality). joined g l u) h

  pub left-refuses : (a : Bool) → finality 0 a ≡ f → refused e ≡ l → all_answered r ≡ joined f l u
  left-refuses a g h =
      ap all_answered k
      ∙ none-told e a false u.yes
      ∙ ap (λ (n : ℕ). finals n a false u.yes) (sym (or-else-kept (code_of e) u.number (code-positive e)))
      ∙ (λ i. joined (g i) (h i) u)

  pub upper-refuses : (a b : Bool) → finality 0 a ≡ f → finality 0 b ≡ l → refused e ≡ u → all_answered r ≡ joined f l u
  upper-refuses a b g h q = ap all_answered k ∙ none-told e a b false ∙ (λ i. joined (g i) (h i) (q i))

pub all-told : {a b c : Bool} {f l u : Finality} → finality 0 a ≡ f → finality 0 b ≡ l → finality 0 c ≡ u → finals 0 a b c ≡ joined f l u
all-told g h k = λ i. joined (g i) (h i) (k i)

-- .. of a neighbour that is there, or is not
pub there-told : (n : ℕ) {f g : Finality} → 0 < n → g ≡ f → g ≡ if_there (ltb 0 n) f
there-told n h e = rw (lt-ltb 0 n h) e

pub none-there : (n : ℕ) {b : Bool} (f : Finality) → n ≤ 0 → b ≡ ltb 0 n → finality 0 b ≡ if_there (ltb 0 n) f
none-there n f h e = let z = le-ltb 0 n h in rw (e, z)

-- ---- what checks 1, 2 and 4 tell where they pass; `marks` is the number of marks
pub record Placed (size : Size) (marks x y : ℕ) : Type 0 where
  pub sides : Sized size
  pub column : x < size.w
  pub row : y < size.h
  pub full : marks ≡ size.w * size.h

module _ (size : Size) (marks x y : ℕ) where
  pub placed : refusal (place_checks size marks x y) ≡ 0 → Placed size marks x y
  placed e =
      let cs = place_checks size marks x y in
      let two = or-false (leb size.w x) (leb size.h y) (passes 2 cs tt e) in
      record { sides = sized size (passes 1 cs tt e); column = leb-false size.w x two.0; row = leb-false size.h y two.1; full = equal _ _ (passes 4 cs tt e) }

  -- where the macroblock and its right and lower neighbours stand among the marks
  module _ (p : Placed size marks x y) where
    pub own_in : y * size.w + x < marks
    own_in = omega (arith, p.full, index-lt size.w size.h x y p.column p.row)

    pub right-in : x + 1 < size.w → y * size.w + x + 1 < marks
    right-in h = let k = index-lt size.w size.h (x + 1) y h p.row in omega (arith, p.full)

    pub lower_in : y + 1 < size.h → y * size.w + x + size.w < marks
    lower_in h = let k = index-lt size.w size.h x (y + 1) p.column h in omega (arith, p.full)

-- ---- the three marks by index; one counts as 1 where there is no neighbour
if-marked : (t : Bool) (m : ℕ) → eqb (cond t m 1) 1 ≡ (not t || eqb m 1)
if-marked true m = refl
if-marked false m = refl

if-bad : (t : Bool) (m : ℕ) → ltb 1 (cond t m 1) ≡ (t && ltb 1 m)
if-bad true m = refl
if-bad false m = refl

module _ (size : Size) (ms : List ℕ) (x y : ℕ) where
  abbrev i : ℕ
  i = y * size.w + x

  abbrev at_right : ℕ
  at_right = y * size.w + (x + 1)

  abbrev at_lower : ℕ
  at_lower = (y + 1) * size.w + x

  abbrev pub own_mark : ℕ
  own_mark = get_or ms i 0

  abbrev pub right_mark : ℕ
  right_mark = cond (has_right size x) (get_or ms (i + 1) 0) 1

  abbrev pub lower_mark : ℕ
  lower_mark = cond (has_lower size y) (get_or ms (i + size.w) 0) 1

  right_is : right_mark ≡ cond (has_right size x) (get_or ms at_right 0) 1
  right_is = let e : i + 1 ≡ at_right = omega arith in ap (λ (k : ℕ). cond (has_right size x) (get_or ms k 0) 1) e

  lower-is : lower_mark ≡ cond (has_lower size y) (get_or ms at_lower 0) 1
  lower-is = let e : i + size.w ≡ at_lower = omega arith in ap (λ (k : ℕ). cond (has_lower size y) (get_or ms k 0) 1) e

  pub final-by-index : (eqb own_mark 1 && eqb right_mark 1 && eqb lower_mark 1) ≡ is_final size ms x y
  unfolding is_final
  final-by-index =
      (λ j. eqb own_mark 1 && eqb (right_is j) 1 && eqb (lower-is j) 1)
      ∙ (λ j. eqb own_mark 1 && if-marked (has_right size x) (get_or ms at_right 0) j && if-marked (has_lower size y) (get_or ms at_lower 0) j)

  pub bad-by-index : (ltb 1 own_mark || ltb 1 right_mark || ltb 1 lower_mark) ≡ bad_asked size ms x y
  unfolding bad_asked
  bad-by-index =
      (λ j. ltb 1 own_mark || ltb 1 (right_is j) || ltb 1 (lower-is j))
      ∙ (λ j. ltb 1 own_mark || if-bad (has_right size x) (get_or ms at_right 0) j || if-bad (has_lower size y) (get_or ms at_lower 0) j)
