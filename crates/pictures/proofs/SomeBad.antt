-- Laws of `some_bad`, the first of which joins it to a test of the entries from a to b. Assumes nothing.
use Rattle.std.proofs.Common.{◌≡◌, ℕ, ◌+◌, ◌-◌, ◌≤◌, ◌<◌, Bool, false, not, List, length, drop, get_or, sym, ap, ◌∙◌, arith}
use Rattle.std.specs.List.{list_any, slice_range}
use Rattle.std.proofs.lemmas.List.{length-drop, get_or-drop}
use native.Mathlib.Decide.{dec_lt}
use borrow.Author.Tests.{not-true}
use Rattle.laws.proofs.Some.{some-none, some-not, some_same, some-of, every-is, every-not}
use Rattle.pictures.specs.Checks.{some_bad}

pub any-some-bad : (bad : ℕ → Bool) (a b : ℕ) (xs : List ℕ) → a ≤ b → b ≤ length xs → list_any bad (slice_range xs a b) ≡ some_bad bad a b xs
unfolding some_bad
any-some-bad bad a b xs h k =
    sym (some-of bad 0 (drop a xs) (b - a) (omega (arith, h, k, length-drop a xs)))
    ∙ some_same (b - a) _ _ (λ i l. ap bad (get_or-drop a xs i 0))

-- of no entry
pub some-bad-none : (bad : ℕ → Bool) (a : ℕ) (xs : List ℕ) → false ≡ some_bad bad a a xs
unfolding some_bad
some-bad-none bad a xs = let e : a - a ≡ 0 = omega arith in rw e (some-none _)

-- not found: none is
pub some-bad-at : (bad : ℕ → Bool) (a b : ℕ) (xs : List ℕ) → some_bad bad a b xs ≡ false → (i : ℕ) → a ≤ i → i < b → bad (get_or xs i 0) ≡ false
unfolding some_bad
some-bad-at bad a b xs e i h k =
    let j : i ≡ a + (i - a) = omega arith in
    ap (λ (n : ℕ). bad (get_or xs n 0)) j ∙ some-not (b - a) (i - a) (λ (m : ℕ). bad (get_or xs (a + m) 0)) e (omega arith)

pub some-bad-is : (bad : ℕ → Bool) (a b : ℕ) (xs : List ℕ) → ((i : ℕ) → a ≤ i → i < b → bad (get_or xs i 0) ≡ false) → some_bad bad a b xs ≡ false
unfolding some_bad
some-bad-is bad a b xs h =
    not-true _
    (sym (every-not (b - a) (λ (m : ℕ). bad (get_or xs (a + m) 0)))
    ∙ every-is (b - a) _ (λ m k. ap not (h (a + m) (omega arith) (omega arith))))

-- none from a to b, nor from m up to c, where m is not past b
pub some-bad-join : (bad : ℕ → Bool) (a b m c : ℕ) (xs : List ℕ) → m ≤ b → some_bad bad a b xs ≡ false → some_bad bad m c xs ≡ false → some_bad bad a c xs ≡ false
some-bad-join bad a b m c xs h p q = some-bad-is bad a c xs (λ i k l. go i k l (dec_lt i b))
  where
    go : (i : ℕ) → a ≤ i → i < c → Dec (i < b) → bad (get_or xs i 0) ≡ false
    go i k l (yes d) = some-bad-at bad a b xs p i k d
    go i k l (no d) = some-bad-at bad m c xs q i (omega arith) l
