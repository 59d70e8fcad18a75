-- Laws of the parts of a text: the first one, and the others behind it. Assumes nothing.
use Prim.Native.Nat.{ℕ, suc, ◌+◌, ◌<◌, ◌≤◌}
use mathlib.Core.Path.{◌≡◌, refl, ap, ◌∙◌}
use mathlib.Core.Bool.{Bool, true, false, cond, not}
use mathlib.Core.List.{List, [], ◌∷◌}
use native.Mathlib.Nat.{le_of_suc-le-suc, not-suc-le-zero}
use native.Mathlib.Omega.{arith}
use lib.Dec.{eqb, ltb}
use lib.ListN.{length, take, drop}
use Rattle.std.specs.Prelude.{Some, None}
use Rattle.std.specs.List.{position_or_len, position}
use Rattle.std.proofs.lemmas.List.Sums.{prefix_len-le-length}
use borrow.Author.Tests.{ltb-false}
use Rattle.std.proofs.lemmas.List.Recursion.{is_position_or_len}
use Rattle.y4m.specs.Text.{parts, part, on_first}

-- there is always a first part
pub first_rest : (b : ℕ) (l : List ℕ) → parts b l ≡ part 0 (parts b l) ∷ drop 1 (parts b l)
first_rest b [] = refl
first_rest b (x ∷ xs) = go (eqb x b) (parts b xs) (first_rest b xs)
  where
    go : (e : Bool) (ps : List (List ℕ)) → ps ≡ part 0 ps ∷ drop 1 ps
        → cond e ([] ∷ ps) (on_first x ps) ≡ part 0 (cond e ([] ∷ ps) (on_first x ps)) ∷ drop 1 (cond e ([] ∷ ps) (on_first x ps))
    go true ps h = refl
    go false [] h = absurd (let z = ap length h in omega arith)
    go false (p ∷ ps) h = refl

pub some-part : (b : ℕ) (l : List ℕ) → 1 ≤ length (parts b l)
some-part b l = let z = ap length (first_rest b l) in omega arith

-- a byte before the first part
pub first-grows : (x : ℕ) (ps : List (List ℕ)) → ps ≡ part 0 ps ∷ drop 1 ps → on_first x ps ≡ (x ∷ part 0 ps) ∷ drop 1 ps
first-grows x [] h = absurd (let z = ap length h in omega arith)
first-grows x (p ∷ ps) h = refl

-- its length is the place of the first byte b, as std's search has it
pub first-index : (b : ℕ) (l : List ℕ) → length (part 0 (parts b l)) ≡ position_or_len (λ x. eqb x b) l
first-index b l = is_position_or_len (λ s. length (part 0 (parts b s))) (λ x. eqb x b) refl turn l
  where
    turn : (x : ℕ) (xs : List ℕ) → length (part 0 (parts b (x ∷ xs))) ≡ cond (eqb x b) 0 (1 + length (part 0 (parts b xs)))
    turn x xs = go (eqb x b) (parts b xs) (first_rest b xs)
      where
        go : (e : Bool) (ps : List (List ℕ)) → ps ≡ part 0 ps ∷ drop 1 ps
            → length (part 0 (cond e ([] ∷ ps) (on_first x ps))) ≡ cond e 0 (1 + length (part 0 ps))
        go true ps h = refl
        go false ps h = ap (λ (qs : List (List ℕ)). length (part 0 qs)) (first-grows x ps h) ∙ omega arith

-- .. where it finds one; else the text is the first part
pub first-found : (b : ℕ) (l : List ℕ) {i : ℕ} → Some i ≡ position (λ x. eqb x b) l → i ≡ length (part 0 (parts b l))
first-found b l {i} e = go (position_or_len (λ x. eqb x b) l) (ltb (position_or_len (λ x. eqb x b) l) (length l)) (first-index b l) e
  where
    go : (n : ℕ) (t : Bool) → length (part 0 (parts b l)) ≡ n → Some i ≡ cond t (Some n) None → i ≡ length (part 0 (parts b l))
    go n true h f = cc
    go n false h f = cc

pub none-found : (b : ℕ) (l : List ℕ) → None ≡ position (λ x. eqb x b) l → length l ≡ length (part 0 (parts b l))
none-found b l e = go (ltb (position_or_len (λ x. eqb x b) l) (length l)) refl e
  where
    go : (t : Bool) → ltb (position_or_len (λ x. eqb x b) l) (length l) ≡ t → None ≡ cond t (Some (position_or_len (λ x. eqb x b) l)) None
        → length l ≡ length (part 0 (parts b l))
    go true h f = cc
    go false h f =
        let n = first-index b l in
        let m : position_or_len (λ x. eqb x b) l ≤ length l = prefix_len-le-length (λ x. not (eqb x b)) l in
        let k = ltb-false (position_or_len (λ x. eqb x b) l) (length l) h in
        omega arith

-- it is the beginning of the text
pub first_taken : (b : ℕ) (l : List ℕ) → take (length (part 0 (parts b l))) l ≡ part 0 (parts b l)
first_taken b [] = refl
first_taken b (x ∷ xs) = go (eqb x b) (parts b xs) (first_rest b xs) (first_taken b xs)
  where
    go : (e : Bool) (ps : List (List ℕ)) → ps ≡ part 0 ps ∷ drop 1 ps → take (length (part 0 ps)) xs ≡ part 0 ps
        → take (length (part 0 (cond e ([] ∷ ps) (on_first x ps)))) (x ∷ xs) ≡ part 0 (cond e ([] ∷ ps) (on_first x ps))
    go true ps h k = refl
    go false ps h k = rw (first-grows x ps h) (ap (λ (l : List ℕ). x ∷ l) k)

-- a text that holds the byte b has parts behind it
pub parts-found : (b : ℕ) (l : List ℕ) → length (part 0 (parts b l)) < length l
    → parts b l ≡ part 0 (parts b l) ∷ parts b (drop (suc (length (part 0 (parts b l)))) l)
parts-found b [] h = absurd (not-suc-le-zero h)
parts-found b (x ∷ xs) h = go (eqb x b) (parts b xs) (first_rest b xs) refl (parts-found b xs) h
  where
    go : (e : Bool) (ps : List (List ℕ)) → ps ≡ part 0 ps ∷ drop 1 ps → ps ≡ parts b xs
        → (length (part 0 ps) < length xs → ps ≡ part 0 ps ∷ parts b (drop (suc (length (part 0 ps))) xs))
        → length (part 0 (cond e ([] ∷ ps) (on_first x ps))) < suc (length xs)
        → cond e ([] ∷ ps) (on_first x ps)
        ≡ part 0 (cond e ([] ∷ ps) (on_first x ps)) ∷ parts b (drop (length (part 0 (cond e ([] ∷ ps) (on_first x ps)))) xs)
    go true ps h e f k = ap (λ (qs : List (List ℕ)). [] ∷ qs) e
    go false ps h e f k =
        let g = first-grows x ps h in
        let l : length (part 0 ps) < length xs = le_of_suc-le-suc (rw g at k) in
        rw g (ap (λ (qs : List (List ℕ)). (x ∷ part 0 ps) ∷ qs) (ap (drop 1) (f l)))

-- one that does not is its only part
pub parts_none : (b : ℕ) (l : List ℕ) → length l ≤ length (part 0 (parts b l)) → parts b l ≡ l ∷ []
parts_none b [] h = refl
parts_none b (x ∷ xs) h = go (eqb x b) (parts b xs) (first_rest b xs) h (parts_none b xs)
  where
    go : (e : Bool) (ps : List (List ℕ)) → ps ≡ part 0 ps ∷ drop 1 ps
        → suc (length xs) ≤ length (part 0 (cond e ([] ∷ ps) (on_first x ps)))
        → (length xs ≤ length (part 0 ps) → ps ≡ xs ∷ []) → cond e ([] ∷ ps) (on_first x ps) ≡ (x ∷ xs) ∷ []
    go true ps h k f = absurd (not-suc-le-zero k)
    go false ps h k f =
        let g = first-grows x ps h in
        ap (on_first x) (f (le_of_suc-le-suc (rw g at k)))
