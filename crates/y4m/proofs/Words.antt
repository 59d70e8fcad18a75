-- Words and tags of a line, as std's `split` has them. Assumes nothing.
use Prim.Native.Nat.{ℕ, suc, ◌+◌, ◌<◌, ◌≤◌}
use mathlib.Core.Path.{◌≡◌, refl, sym, ap, subst, ◌∙◌}
use mathlib.Core.Bool.{Bool, true, false, cond, not}
use mathlib.Core.List.{List, [], ◌∷◌, ◌++◌, map}
use mathlib.Core.Logic.{inl, inr}
use native.Mathlib.Omega.{arith}
use borrow.Author.Tests.{ltb-true, eqb-true, ne_eqb}
use lib.Dec.{eqb, ltb}
use lib.ListN.{length, get_or, take, drop}
use denote.Ref.{Bor}
use Rattle.std.specs.Prelude.{Option, Some, None, option_map, is_some}
use Rattle.std.specs.Slice.{IsGetRangeResult}
use Rattle.std.specs.Iterator.{AlwaysYields}
use Rattle.std.proofs.lemmas.Iterator.{YieldsList}
use Rattle.std.specs.List.{slice_get, slice_split, onto_first, filter, list_all, position, position_or_len}
use Rattle.std.proofs.lemmas.List.{take_rest}
use Rattle.std.proofs.lemmas.List.Sums.{split_at_first, passes_at_first}
use Rattle.std.proofs.lemmas.List.Splits.{slice_split_first}
use Rattle.y4m.specs.Text.{part, parts, on_first, words_of, tags_of, is_full, all, values_of}
use Rattle.y4m.specs.Places.{is_tag}
use Rattle.y4m.proofs.Parts.{first_rest, parts_none, none-found}

pub parts-split : (b : ℕ) (l : List ℕ) → parts b l ≡ slice_split (λ x. eqb x b) l
parts-split b [] = refl
parts-split b (x ∷ xs) = go (eqb x b) (parts b xs) (first_rest b xs) (parts-split b xs)
  where
    go : (e : Bool) (ps : List (List ℕ)) → ps ≡ part 0 ps ∷ drop 1 ps → {qs : List (List ℕ)} → ps ≡ qs → cond e ([] ∷ ps) (on_first x ps) ≡ cond e ([] ∷ qs) (onto_first x qs)
    go true ps h k = rw k
    go false [] h k = cc
    go false (p ∷ ps) h k = ap (onto_first x) k

-- cut at the first byte b
pub split-found : (b : ℕ) (s : List ℕ) (i : ℕ) → Some i ≡ position (λ x. eqb x b) s
    → (parts b s ≡ take i s ∷ parts b (drop (i + 1) s)) × (s ≡ take i s ++ b ∷ drop (i + 1) s)
split-found b s i e = go (ltb n (length s)) refl e
  where
    p : ℕ → Bool
    p x = eqb x b

    n : ℕ
    n = position_or_len (λ x. eqb x b) s

    go : (t : Bool) → ltb n (length s) ≡ t → Some i ≡ cond t (Some n) None → (parts b s ≡ take i s ∷ parts b (drop (i + 1) s)) × (s ≡ take i s ++ b ∷ drop (i + 1) s)
    go false h f = cc
    go true h f =
        let k : i ≡ n = cc in
        let l : n < length s = ltb-true n (length s) h in
        let d : get_or s n 0 ≡ b = eqb-true (get_or s n 0) b (passes_at_first (λ x. eqb x b) s 0 l) in
        let cut : parts b s ≡ take n s ∷ parts b (drop (n + 1) s) =
        parts-split b s ∙ slice_split_first (λ x. eqb x b) s 0 l ∙ ap (λ (ps : List (List ℕ)). take n s ∷ ps) (sym (parts-split b (drop (n + 1) s))) in
        let whole : s ≡ take n s ++ b ∷ drop (n + 1) s =
        split_at_first (λ x. eqb x b) s 0 l ∙ ap (λ (x : ℕ). take n s ++ x ∷ drop (n + 1) s) d in
        rw k (cut, whole)

pub split_none : (b : ℕ) (s : List ℕ) → None ≡ position (λ x. eqb x b) s → parts b s ≡ s ∷ []
split_none b s e = parts_none b s (let k = none-found b s e in omega arith)

-- ---- empty words
full-is : (w : List ℕ) → not (eqb (length w) 0) ≡ is_full w
full-is [] = refl
full-is (x ∷ xs) = let z = ne_eqb (suc (length xs)) 0 (λ h. omega arith) in rw z

pub all-full : (l : List ℕ) → list_all (λ w. not (eqb (length w) 0)) (slice_split (λ x. eqb x 32) l) ≡ all is_full (words_of l)
all-full l = (λ i. list_all (λ w. full-is w i) (sym (parts-split 32 l) i))

-- ---- tags
pub tags-are : (t : ℕ) (ws : List (List ℕ)) → values_of t ws ≡ map (drop 1) (filter (is_tag t) ws)
tags-are t [] = refl
tags-are t ([] ∷ ws) = tags-are t ws
tags-are t ((x ∷ w) ∷ ws) = go (eqb x t) (tags-are t ws)
  where
    go : (e : Bool) {vs : List (List ℕ)} → vs ≡ map (drop 1) (filter (is_tag t) ws) → cond e (w ∷ vs) vs ≡ map (drop 1) (cond e ((x ∷ w) ∷ filter (is_tag t) ws) (filter (is_tag t) ws))
    go true h = rw h
    go false h = h

-- the first of a line's tags t
pub tag-is : (t : ℕ) (w : List ℕ) (ws ys : List (List ℕ)) → filter (is_tag t) ws ≡ w ∷ ys → is_tag t w ≡ true
tag-is t w [] ys e = cc
tag-is t w (u ∷ ws) ys e = go (is_tag t u) refl (tag-is t w ws ys) e
  where
    go : (b : Bool) → is_tag t u ≡ b → (filter (is_tag t) ws ≡ w ∷ ys → is_tag t w ≡ true) → cond b (u ∷ filter (is_tag t) ws) (filter (is_tag t) ws) ≡ w ∷ ys → is_tag t w ≡ true
    go true k f h = let same : u ≡ w = cc in rw (← same) k
    go false k f h = f h

pub tag-long : (t : ℕ) (w : List ℕ) → is_tag t w ≡ true → 1 ≤ length w
tag-long t [] e = cc
tag-long t (x ∷ w) e = omega arith

-- ---- what `next` tells of an iterator whose list is known
module _ {S A B : Type 0} (steps : S → Option A → S → Type 0) (v : A → B) {s : S} (zs : List B) (road : YieldsList steps v s zs) {j : S} {r : Option A} where
  pub no-more : r ≡ None → steps s r j → zs ≡ []
  no-more e k = go zs road.runs (subst (λ (o : Option A). steps s o j) e k)
    where
      go : (ys : List B) → AlwaysYields steps v s ys → steps s None j → ys ≡ []
      go [] a h = refl
      go (y ∷ ys) a h = absurd (a.0 j h)

  pub one-more : (x : A) → r ≡ Some x → steps s r j → (ys : List B) × (zs ≡ v x ∷ ys) × YieldsList steps v j ys
  one-more x e k = go zs road.runs (subst (λ (o : Option A). steps s o j) e k)
    where
      go : (us : List B) → AlwaysYields steps v s us → steps s (Some x) j → (ys : List B) × (us ≡ v x ∷ ys) × YieldsList steps v j ys
      go [] a h = absurd (a x j h)
      go (y ∷ ys) a h = let q = a.1 x j h in (ys, ap (λ (z : B). z ∷ ys) (sym q.0), record { runs = q.1 })

-- .. by two calls: nothing, one item alone, or one and another
module _ {S A B : Type 0} (steps : S → Option A → S → Type 0) (v : A → B) {s : S} (zs : List B) (road : YieldsList steps v s zs) {j k : S} {r q : Option A} (x : A) (is : r ≡ Some x) (step : steps s r j) (next : steps j q k) where
  pub one-only : is_some q ≡ false → zs ≡ v x ∷ []
  one-only e = let o = one-more steps v zs road x is step in o.1 ∙ ap (λ (ys : List B). v x ∷ ys) (no-more steps v o.0 o.2 (none q e) next)
    where
      none : (p : Option A) → is_some p ≡ false → p ≡ None
      none None h = refl
      none (Some y) h = cc

  pub two-more : is_some q ≡ true → (y : B) × (ys : List B) × (zs ≡ v x ∷ y ∷ ys)
  two-more e = go q refl e
    where
      go : (p : Option A) → q ≡ p → is_some p ≡ true → (y : B) × (ys : List B) × (zs ≡ v x ∷ y ∷ ys)
      go None f h = cc
      go (Some y) f h =
          let o = one-more steps v zs road x is step in
          let t = one-more steps v o.0 o.2 y f next in
          (v y, t.0, o.1 ∙ ap (λ (ys : List B). v x ∷ ys) t.1)

-- what is behind a word's first letter
pub rest_got : (w : List ℕ) (r : Option (Bor (List ℕ))) → 1 ≤ length w → IsGetRangeResult w 1 (length w) r → option_map (λ v. v.now) r ≡ Some (drop 1 w)
rest_got w None h g = absurd (elim g.0 [ inl k ↦ omega arith | inr k ↦ omega arith ])
rest_got w (Some v) h g = ap Some (g.0.2 ∙ take_rest w 1)

-- ---- how often a line has the tag t
module _ (t : ℕ) (l : List ℕ) where
  abbrev tags : List (List ℕ)
  tags = filter (is_tag t) (drop 1 (slice_split (λ x. eqb x 32) l))

  abbrev values : List (List ℕ)
  values = values_of t (tags_of l)

  values-are : values ≡ map (drop 1) tags
  values-are = tags-are t (tags_of l) ∙ ap (λ (ps : List (List ℕ)). map (drop 1) (filter (is_tag t) (drop 1 ps))) (parts-split 32 l)

  pub untagged : tags ≡ [] → (length values ≤ 1) × (None ≡ slice_get values 0)
  untagged e = rw (values-are, e) (omega arith, refl)

  pub tagged-twice : {a b : List ℕ} {ys : List (List ℕ)} → tags ≡ a ∷ b ∷ ys → 1 < length values
  tagged-twice e = rw (values-are, e) (omega arith)

  pub tagged-once : {a : List ℕ} → tags ≡ a ∷ [] → (r : Option (Bor (List ℕ))) → IsGetRangeResult a 1 (length a) r
      → (length values ≤ 1) × (option_map (λ v. v.now) r ≡ slice_get values 0)
  tagged-once {a} e r g =
      let long = tag-long t a (tag-is t a (drop 1 (slice_split (λ x. eqb x 32) l)) [] e) in
      let value = rest_got a r long g in
      rw (values-are, e) (omega arith, value)
