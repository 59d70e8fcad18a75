-- The edges of a direction one by one, and the two directions one after the other, as code that calls makes
-- them: the strengths of a macroblock are the list xs, and `at` is the place of an edge's first line. Assumes
-- nothing.
use mathlib.Core.Path.{◌≡◌, refl, sym, ap, ◌∙◌}
use mathlib.Core.Bool.{Bool, true, cond, not, ◌&&◌}
use mathlib.Core.List.{List}
use Prim.Native.Nat.{ℕ, ◌+◌, ◌-◌, ◌*◌, ◌≤◌}
use native.Mathlib.Nat.{zero-add}
use native.Mathlib.Omega.{arith}
use lib.ListN.{length, take, drop}
use Rattle.std.proofs.lemmas.List.{get_or-drop, length-drop}
use Rattle.std.proofs.Math.Seq.{take-length}
use Rattle.laws.specs.Places.{Plane}
use Rattle.laws.proofs.Bools.{and-true}
use Rattle.laws.proofs.Loop.{up_to-none, up_to-more}
use Rattle.edges.specs.Edge.{LumaRule, ChromaRule, luma_edge, chroma_edge}
use Rattle.edges.specs.Macroblock.{after, luma_on, outer_or, luma_way, chroma_way, luma_both, chroma_both}
use Rattle.edges.specs.Picture.{entries}

-- the strengths that are left, as code lends a slice from n on
abbrev pub rest : ℕ → List ℕ → List ℕ
rest n xs = take (length xs - n) (drop n xs)

pub after-rest : (xs : List ℕ) (n : ℕ) → entries (rest n xs) ≡ after n (entries xs)
after-rest xs n =
    (λ i. entries (take (sym (length-drop n xs) i) (drop n xs)))
    ∙ ap entries (take-length (drop n xs))
    ∙ (λ i k. get_or-drop n xs k 0 i)

after_none : (f : ℕ → ℕ) → f ≡ after 0 f
after_none f = λ i k. f (sym (zero-add k) i)

module _ (xs : List ℕ) (origin along step : ℕ) where
  -- one edge: its strengths are those from a on, and its lines at `at` are those of edge e
  turn : (half : ℕ) (on : Bool) (edge : (ℕ → ℕ) → ℕ → Plane → Plane) (e a at : ℕ) (s : Plane) {f : ℕ → ℕ} → f ≡ after a (entries xs) → at ≡ origin + e * (4 * step) - half * step
      → cond on (edge f at s) s ≡ cond on (edge (after a (entries xs)) (origin + e * (4 * step) - half * step) s) s
  turn half on edge e a at s j k = λ i. cond on (edge (j i) (k i) s) s

  abbrev pub luma_if : Bool → LumaRule → List ℕ → ℕ → Plane → Plane
  luma_if on rule ys at s = cond on (luma_edge rule (entries ys) at along step s) s

  pub luma-four : (border inside : LumaRule) (on inner t8 : Bool) (s : Plane) {s1 s2 s3 s4 : Plane} → s1 ≡ luma_if on border xs (origin - 4 * step) s
      → s2 ≡ luma_if (inner && not t8) inside (rest 4 xs) origin s1 → s3 ≡ luma_if inner inside (rest 8 xs) (origin + 4 * step) s2
      → s4 ≡ luma_if (inner && not t8) inside (rest 12 xs) (origin + 8 * step) s3 → s4 ≡ luma_way border inside (luma_on on inner t8) (entries xs) origin along step s
  unfolding luma_way
  luma-four border inside on inner t8 s {s1} {s2} {s3} e0 e1 e2 e3 =
      up_to-more 3 _ s
      (up_to-more 2 _ s
      (up_to-more 1 _ s
      (up_to-more 0 _ s (up_to-none _ s) (e0 ∙ turn 4 on (edge border) 0 0 (origin - 4 * step) s (after_none (entries xs)) (omega arith)))
      (e1 ∙ turn 4 (inner && not t8) (edge inside) 1 4 origin s1 (after-rest xs 4) (omega arith)))
      (e2 ∙ turn 4 inner (edge inside) 2 8 (origin + 4 * step) s2 (after-rest xs 8) (omega arith)))
      (e3 ∙ turn 4 (inner && not t8) (edge inside) 3 12 (origin + 8 * step) s3 (after-rest xs 12) (omega arith))
    where
      edge : LumaRule → (ℕ → ℕ) → ℕ → Plane → Plane
      edge rule strengths at = luma_edge rule strengths at along step

  abbrev pub chroma_if : Bool → ChromaRule → List ℕ → ℕ → Plane → Plane
  chroma_if on rule ys at s = cond on (chroma_edge rule (entries ys) at along step s) s

  pub chroma-two : (border inside : ChromaRule) (on inner : Bool) (s : Plane) {s1 s2 : Plane} → s1 ≡ chroma_if on border xs (origin - 2 * step) s
      → s2 ≡ chroma_if inner inside (rest 8 xs) (origin + 2 * step) s1 → s2 ≡ chroma_way border inside (outer_or on inner) (entries xs) origin along step s
  unfolding chroma_way
  chroma-two border inside on inner s {s1} e0 e1 =
      up_to-more 1 _ s
      (up_to-more 0 _ s (up_to-none _ s) (e0 ∙ turn 2 on (edge border) 0 0 (origin - 2 * step) s (after_none (entries xs)) (omega arith)))
      (e1 ∙ turn 2 inner (edge inside) 1 8 (origin + 2 * step) s1 (after-rest xs 8) (omega arith))
    where
      edge : ChromaRule → (ℕ → ℕ) → ℕ → Plane → Plane
      edge rule strengths at = chroma_edge rule strengths at along step

  -- .. written out, as code that asks of each edge whether it is on
  pub luma-written : (border inside : LumaRule) (on inner t8 : Bool) (s : Plane)
      → luma_way border inside (luma_on on inner t8) (entries xs) origin along step s
      ≡ luma_if (inner && not t8) inside (rest 12 xs) (origin + 8 * step)
      (luma_if inner inside (rest 8 xs) (origin + 4 * step) (luma_if (inner && not t8) inside (rest 4 xs) origin (luma_if on border xs (origin - 4 * step) s)))
  luma-written border inside on inner t8 s = sym (luma-four border inside on inner t8 s refl refl refl refl)

  pub chroma-written : (border inside : ChromaRule) (on inner : Bool) (s : Plane)
      → chroma_way border inside (outer_or on inner) (entries xs) origin along step s
      ≡ chroma_if inner inside (rest 8 xs) (origin + 2 * step) (chroma_if on border xs (origin - 2 * step) s)
  chroma-written border inside on inner s = sym (chroma-two border inside on inner s refl refl)

  -- both chroma edges at once, where both are on
  pub chroma-pair-on : (border inside : ChromaRule) (on inner : Bool) (s : Plane) {s2 : Plane} → (on && inner) ≡ true → 2 * step ≤ origin
      → s2 ≡ chroma_edge inside (after 8 (entries xs)) (origin - 2 * step + 4 * step) along step (chroma_edge border (entries xs) (origin - 2 * step) along step s)
      → s2 ≡ chroma_way border inside (outer_or on inner) (entries xs) origin along step s
  chroma-pair-on border inside on inner s b h e =
      let q : origin - 2 * step + 4 * step ≡ origin + 2 * step = omega arith in
      let both = and-true on inner b in
      rw (both.0, both.1)
      (chroma-two border inside true true s refl
      (e ∙ (λ i. chroma_edge inside (sym (after-rest xs 8) i) (q i) along step (chroma_edge border (entries xs) (origin - 2 * step) along step s))))

-- ---- both directions
module _ (xs : List ℕ) (origin stride : ℕ) where
  pub luma-both : (l t i : LumaRule) (across down : ℕ → Bool) (s : Plane) {s1 s2 : Plane} → s1 ≡ luma_way l i across (entries xs) origin stride 1 s
      → s2 ≡ luma_way t i down (entries (rest 16 xs)) origin 1 stride s1 → s2 ≡ luma_both l t i across down (entries xs) origin stride s
  unfolding luma_both
  luma-both l t i across down s e0 e1 = e1 ∙ (λ j. luma_way t i down (after-rest xs 16 j) origin 1 stride (e0 j))

  pub chroma-both : (l t i : ChromaRule) (across down : ℕ → Bool) (s : Plane) {s1 s2 : Plane} → s1 ≡ chroma_way l i across (entries xs) origin stride 1 s
      → s2 ≡ chroma_way t i down (entries (rest 16 xs)) origin 1 stride s1 → s2 ≡ chroma_both l t i across down (entries xs) origin stride s
  unfolding chroma_both
  chroma-both l t i across down s e0 e1 = e1 ∙ (λ j. chroma_way t i down (after-rest xs 16 j) origin 1 stride (e0 j))
