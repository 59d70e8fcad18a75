-- The two shapes of a line, luma's and chroma's, by what the passes need of them; and what a lane makes of a
-- line, by its strength. Assumes nothing.
use mathlib.Core.Path.{◌≡◌, refl, sym, ap, ◌∙◌}
use mathlib.Core.Bool.{Bool, true, false, cond}
use mathlib.Core.Logic.{◌⊎◌, inl, inr}
use mathlib.Core.List.{List}
use Prim.Native.Nat.{ℕ, zero, suc, ◌-◌, ◌*◌, ◌≤◌, ◌<◌}
use native.Mathlib.Omega.{arith}
use borrow.Author.Tests.{ne_eqb, lt-ltb, le-ltb}
use lib.Dec.{ltb, eqb}
use lib.ListN.{get_or}
use Rattle.laws.specs.Places.{Plane, line_at}
use Rattle.laws.proofs.Bools.{and-false}
use Rattle.lines.specs.Depth.{Depth}
use Rattle.lines.specs.Luma.{kept, normal_line, strong_line, luma_line}
use Rattle.lines.specs.declared.luma.Line.{Line}
use Rattle.lines.specs.Chroma.{same, normal_short, strong_short, chroma_line}
use Rattle.lines.specs.declared.chroma.Short.{Short}
use Rattle.lines.specs.Planes.{to_line, from_six, on_line, to_short, from_two, on_short, luma_at, chroma_at}
use Rattle.lines.specs.Inner.{cap_row}
use Rattle.lines.specs.Tables.{tc0_at}
use Rattle.lines.proofs.AnyLine.{luma_at-kept, chroma_at-kept}
use Rattle.lines.proofs.Strengths.{luma-none, luma-normal, luma-strong, luma-shut, chroma-none, chroma-normal, chroma-strong, chroma-shut}
use Rattle.narrow.specs.Capped.{capped_line, capped_short}
use Rattle.batches.specs.Lanes.{slot_of, at_slot, strong_row, is_weak, is_strong}
use Rattle.batches.specs.declared.lanes.Thresholds.{Thresholds}

-- a line of n + 2 samples: kept, filtered at strengths 1 to 3 by alpha, beta and a cap, at strength 4 by
-- alpha and beta, and at any strength by alpha, beta and tC0
pub record Shape : Type 0 where
  pub depth : Depth
  pub n : ℕ
  pub keep : List ℕ → List ℕ
  pub capped : ℕ → ℕ → ℕ → List ℕ → List ℕ
  pub strong : ℕ → ℕ → List ℕ → List ℕ
  pub line : ℕ → ℕ → ℕ → ℕ → List ℕ → List ℕ
  pub keeps : (at step : ℕ) (xs : Plane) → line_at n keep at step xs ≡ xs
  pub at_none : (bs alpha beta tc : ℕ) → bs ≡ 0 → (vs : List ℕ) → line bs alpha beta tc vs ≡ keep vs
  pub at-normal : (bs alpha beta tc : ℕ) → (bs ≡ 0 → ⊥) → bs < 4 → (vs : List ℕ) → line bs alpha beta tc vs ≡ capped alpha beta (suc tc) vs
  pub at-strong : (bs alpha beta tc : ℕ) → 4 ≤ bs → (vs : List ℕ) → line bs alpha beta tc vs ≡ strong alpha beta vs
  pub capped-off : (alpha beta : ℕ) (vs : List ℕ) → capped alpha beta 0 vs ≡ keep vs
  pub line-off : (bs alpha beta tc : ℕ) → alpha ≡ 0 → (vs : List ℕ) → line bs alpha beta tc vs ≡ keep vs

-- a cap that is not 0 is tC0 + 1
on : {A : Type 0} (tc : ℕ) (left : A) (f : ℕ → A) → f tc ≡ cond (eqb (suc tc) 0) left (f (suc tc - 1))
on tc left f = sym (simp (ne_eqb (suc tc) 0 (λ e. omega arith)) (ap f (omega arith)))

pub long-on : (d : Depth) (alpha beta tc : ℕ) (l : Line) → normal_line d alpha beta tc l ≡ capped_line d alpha beta (suc tc) l
unfolding capped_line
long-on d alpha beta tc l = on tc (kept l) (λ t. normal_line d alpha beta t l)

pub short_on : (d : Depth) (alpha beta tc : ℕ) (l : Short) → normal_short d alpha beta tc l ≡ capped_short d alpha beta (suc tc) l
unfolding capped_short
short_on d alpha beta tc l = on tc (same l) (λ t. normal_short d alpha beta t l)

unfoldable pub luma_shape : Depth → Shape
unfolding luma_at capped_line
luma_shape d = record {
  depth = d;
  n = 6;
  keep = on_line kept;
  capped = λ alpha beta cap. on_line (capped_line d alpha beta cap);
  strong = λ alpha beta. on_line (strong_line alpha beta);
  line = λ bs alpha beta tc. on_line (luma_line d bs alpha beta tc);
  keeps = λ at step xs. luma_at-kept at step xs kept (λ l. refl);
  at_none = λ bs alpha beta tc h vs. ap from_six (luma-none d bs alpha beta tc h (to_line vs));
  at-normal = λ bs alpha beta tc h k vs. ap from_six (luma-normal d bs alpha beta tc h k (to_line vs) ∙ long-on d alpha beta tc (to_line vs));
  at-strong = λ bs alpha beta tc h vs. ap from_six (luma-strong d bs alpha beta tc h (to_line vs));
  capped-off = λ alpha beta vs. refl;
  line-off = λ bs alpha beta tc h vs. ap from_six (luma-shut d bs alpha beta tc (inl h) (to_line vs));
}

unfoldable pub chroma_shape : Depth → Shape
unfolding chroma_at capped_short
chroma_shape d = record {
  depth = d;
  n = 2;
  keep = on_short same;
  capped = λ alpha beta cap. on_short (capped_short d alpha beta cap);
  strong = λ alpha beta. on_short (strong_short alpha beta);
  line = λ bs alpha beta tc. on_short (chroma_line d bs alpha beta tc);
  keeps = λ at step xs. chroma_at-kept at step xs same (λ l. refl);
  at_none = λ bs alpha beta tc h vs. ap from_two (chroma-none d bs alpha beta tc h (to_short vs));
  at-normal = λ bs alpha beta tc h k vs. ap from_two (chroma-normal d bs alpha beta tc h k (to_short vs) ∙ short_on d alpha beta tc (to_short vs));
  at-strong = λ bs alpha beta tc h vs. ap from_two (chroma-strong d bs alpha beta tc h (to_short vs));
  capped-off = λ alpha beta vs. refl;
  line-off = λ bs alpha beta tc h vs. ap from_two (chroma-shut d bs alpha beta tc (inl h) (to_short vs));
}

-- ---- strengths of 4 and above are one kind
slot-four : (s : ℕ) → 4 ≤ s → slot_of s ≡ 4
slot-four s b = simp (le-ltb s 4 b)

pub not-weak : (s : ℕ) → 4 ≤ s → is_weak s ≡ false
not-weak s b = and-false (ltb 0 s) (le-ltb s 4 b)

-- ---- tC0 matters at strengths 1 to 3 alone
tc-unused : (h : Shape) (bs alpha beta t u : ℕ) → (is_weak bs ≡ true → t ≡ u) → (vs : List ℕ) → h.line bs alpha beta t vs ≡ h.line bs alpha beta u vs
tc-unused h zero alpha beta t u e vs = h.at_none 0 alpha beta t refl vs ∙ sym (h.at_none 0 alpha beta u refl vs)
tc-unused h (suc zero) alpha beta t u e vs = ap (λ (x : ℕ). h.line 1 alpha beta x vs) (e refl)
tc-unused h (suc (suc zero)) alpha beta t u e vs = ap (λ (x : ℕ). h.line 2 alpha beta x vs) (e refl)
tc-unused h (suc (suc (suc zero))) alpha beta t u e vs = ap (λ (x : ℕ). h.line 3 alpha beta x vs) (e refl)
tc-unused h (suc (suc (suc (suc s)))) alpha beta t u e vs =
    let four : 4 ≤ suc (suc (suc (suc s))) = omega arith in
    h.at-strong (suc (suc (suc (suc s)))) alpha beta t four vs ∙ sym (h.at-strong (suc (suc (suc (suc s)))) alpha beta u four vs)

pub short-tc : (d : Depth) (bs alpha beta t u : ℕ) → (is_weak bs ≡ true → t ≡ u) → (at step : ℕ) (xs : Plane) → chroma_at (chroma_line d bs alpha beta t) at step xs ≡ chroma_at (chroma_line d bs alpha beta u) at step xs
unfolding chroma_at chroma_shape
short-tc d bs alpha beta t u e at step xs = λ i. line_at 2 (λ vs. tc-unused (chroma_shape d) bs alpha beta t u e vs i) at step xs

-- ---- a line by the thresholds of its edge
module _ (h : Shape) (l : Thresholds) where
  abbrev pub with_of : ℕ → List ℕ → List ℕ
  with_of bs = h.line bs l.alpha l.beta (tc0_at l.index (bs - 1) * h.depth.scale)

  module _ (at step : ℕ) (xs : Plane) where
    lines_same : (f g : List ℕ → List ℕ) → ((vs : List ℕ) → f vs ≡ g vs) → line_at h.n f at step xs ≡ line_at h.n g at step xs
    lines_same f g e = λ i. line_at h.n (λ vs. e vs i) at step xs

    left : (f : List ℕ → List ℕ) → ((vs : List ℕ) → f vs ≡ h.keep vs) → line_at h.n f at step xs ≡ xs
    left f e = lines_same f h.keep e ∙ h.keeps at step xs

    -- it stays at strength 0, or at an alpha of 0
    pub stays : (bs : ℕ) → (bs ≡ 0) ⊎ (l.alpha ≡ 0) → line_at h.n (with_of bs) at step xs ≡ xs
    stays bs (inl e) = left (with_of bs) (h.at_none bs _ _ _ e)
    stays bs (inr e) = left (with_of bs) (h.line-off bs _ _ _ e)

    -- a cap of 0 leaves it in the one pass, an alpha of 0 in the other
    cap-off : line_at h.n (h.capped l.alpha l.beta 0) at step xs ≡ xs
    cap-off = left (h.capped l.alpha l.beta 0) (h.capped-off l.alpha l.beta)

    strong-off : (beta : ℕ) → line_at h.n (h.strong 0 beta) at step xs ≡ xs
    strong-off beta = left (h.strong 0 beta) (λ vs. sym (h.at-strong 4 0 beta 0 (omega arith) vs) ∙ h.line-off 4 0 beta 0 refl vs)

    -- what the lanes of a pass make of it, by its strength
    pub weak-lane : (bs : ℕ) → line_at h.n (h.capped l.alpha l.beta (at_slot (cap_row h.depth l.index) bs)) at step xs
        ≡ cond (is_weak bs) (line_at h.n (with_of bs) at step xs) xs
    weak-lane zero = cap-off
    weak-lane (suc zero) = sym (lines_same _ _ (h.at-normal 1 _ _ _ (λ e. omega arith) (omega arith)))
    weak-lane (suc (suc zero)) = sym (lines_same _ _ (h.at-normal 2 _ _ _ (λ e. omega arith) (omega arith)))
    weak-lane (suc (suc (suc zero))) = sym (lines_same _ _ (h.at-normal 3 _ _ _ (λ e. omega arith) (omega arith)))
    weak-lane (suc (suc (suc (suc s)))) =
        let four : 4 ≤ suc (suc (suc (suc s))) = omega arith in
        ap (λ (k : ℕ). line_at h.n (h.capped l.alpha l.beta (get_or (cap_row h.depth l.index) k 0)) at step xs) (slot-four _ four)
        ∙ cap-off
        ∙ sym (ap (λ (b : Bool). cond b (line_at h.n (with_of (suc (suc (suc (suc s))))) at step xs) xs) (not-weak _ four))

    pub strong-lane : (bs : ℕ) → line_at h.n (h.strong (at_slot (strong_row l) bs) l.beta) at step xs ≡ cond (is_strong bs) (line_at h.n (with_of bs) at step xs) xs
    strong-lane zero = strong-off l.beta
    strong-lane (suc zero) = strong-off l.beta
    strong-lane (suc (suc zero)) = strong-off l.beta
    strong-lane (suc (suc (suc zero))) = strong-off l.beta
    strong-lane (suc (suc (suc (suc s)))) =
        let four : 4 ≤ suc (suc (suc (suc s))) = omega arith in
        ap (λ (k : ℕ). line_at h.n (h.strong (get_or (strong_row l) k 0) l.beta) at step xs) (slot-four _ four)
        ∙ sym (lines_same _ _ (h.at-strong (suc (suc (suc (suc s)))) _ _ _ four))
        ∙ sym (ap (λ (b : Bool). cond b (line_at h.n (with_of (suc (suc (suc (suc s))))) at step xs) xs) (lt-ltb 3 _ four))
