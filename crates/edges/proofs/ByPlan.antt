-- A macroblock's three planes filtered by its plan are the definition's, for whatever is held and wherever
-- the picture lies. Assumes nothing.
use mathlib.Core.Path.{◌≡◌, refl, sym, subst, ◌∙◌}
use mathlib.Core.Bool.{true, ◌&&◌}
use Prim.Native.Nat.{ℕ, ◌+◌, ◌*◌, ◌<◌, ◌≤◌}
use native.Mathlib.Nat.{mul-le-mul_left, mul-le-mul_right}
use native.Mathlib.Omega.{arith}
use borrow.Author.Tests.{ltb-true}
use lib.Dec.{ltb}
use lib.IntN.{ℤ}
use Rattle.laws.specs.Places.{Plane}
use Rattle.laws.proofs.Bools.{and-true}
use Rattle.edges.specs.Inner.{InPlane}
use Rattle.edges.specs.Laid.{base_of, far_of, origin_in, luma_in, chroma_in, laid_mb}
use Rattle.edges.specs.Levels.{chroma_levels, plan_of, luma_by, chroma_by}
use Rattle.edges.specs.Macroblock.{Settings}
use Rattle.edges.specs.Picture.{planes, Held, settings_at}
use Rattle.edges.specs.declared.plan.Layout.{Layout}
use Rattle.edges.specs.declared.plan.Plan.{Plan}

module _ (g : Held) (l : Layout) (x y : ℕ) where
  abbrev s : Settings
  s = settings_at g x y

  abbrev p : Plan
  p = plan_of g l x y

  luma-planned : (t : Plane) → luma_by g.depth s.strengths p.on p.luma p.levels.luma t ≡ luma_in g (base_of l (16 * g.w)) (far_of l (16 * g.w)) x y t
  unfolding luma_in
  luma-planned t = refl

  chroma-planned : (offset : ℤ) (t : Plane)
      → chroma_by g.depth s.strengths p.on p.chroma (chroma_levels g.depth s.qp s.qp_left s.qp_above s.a s.b offset) t
      ≡ chroma_in g (base_of l (8 * g.w)) (far_of l (8 * g.w)) offset x y t
  unfolding chroma_in
  chroma-planned offset t = refl

  -- the three planes, by a plan that a call gave
  pub planned : (luma u v : Plane) {luma₁ u₁ v₁ : Plane} (q : Plan) → q ≡ plan_of g l x y → luma₁ ≡ luma_by g.depth s.strengths q.on q.luma q.levels.luma luma
      → u₁ ≡ chroma_by g.depth s.strengths q.on q.chroma q.levels.chroma.u u → v₁ ≡ chroma_by g.depth s.strengths q.on q.chroma q.levels.chroma.v v
      → planes luma₁ u₁ v₁ ≡ laid_mb g l x y (planes luma u v)
  unfolding laid_mb
  planned luma u v q e a b c =
      let m = a ∙ (λ i. luma_by g.depth s.strengths (e i).on (e i).luma (e i).levels.luma luma) ∙ luma-planned luma in
      let n = b ∙ (λ i. chroma_by g.depth s.strengths (e i).on (e i).chroma (e i).levels.chroma.u u) ∙ chroma-planned g.u u in
      let o = c ∙ (λ i. chroma_by g.depth s.strengths (e i).on (e i).chroma (e i).levels.chroma.v v) ∙ chroma-planned g.v v in
      λ i. record { luma = m i; u = n i; v = o i }

-- ---- a plan's macroblock lies in planes that have room for its row. N is 16 for luma, 8 for chroma
module _ (times skip N half w x y : ℕ) (fits : half ≤ N) where
  abbrev at : ℕ
  at = origin_in (skip * (N * w)) (times * (N * w)) N x y

  left-fits : 0 < x → half * 1 ≤ at
  left-fits h = let k : 1 ≤ x = h in omega (arith, mul-le-mul_left N k)

  top-fits : 0 < y → half * (times * (N * w)) ≤ at
  top-fits h =
      let k : 1 ≤ y = h in
      let j : half ≤ N * y = omega (arith, mul-le-mul_left N k) in
      omega (arith, mul-le-mul_right (times * (N * w)) j)

module _ (g : Held) (l : Layout) (x y : ℕ) (turn : l.skip < l.times) (h : x < g.w) (len : ℕ) where
  abbrev i : ℕ
  i = y * g.w + x

  beside : (g.left i && ltb 0 x) ≡ true → 0 < x
  beside e = ltb-true 0 x (and-true (g.left i) (ltb 0 x) e).1

  above : (g.top i && ltb 0 y) ≡ true → 0 < y
  above e = ltb-true 0 y (and-true (g.top i) (ltb 0 y) e).1

  pub luma-inside : 256 * (l.times * (y * g.w + g.w)) ≤ len → (q : Plan) → q ≡ plan_of g l x y → InPlane 16 4 q.on q.luma len
  luma-inside r q e = subst (λ (p : Plan). InPlane 16 4 p.on p.luma len) (sym e)
      (record {
        left = λ t. left-fits l.times l.skip 16 4 g.w x y (omega arith) (beside t);
        top = λ t. top-fits l.times l.skip 16 4 g.w x y (omega arith) (above t);
        ends = omega (arith, mul-le-mul_right g.w turn);
        wide = omega (arith, mul-le-mul_right g.w turn);
      })

  pub chroma-inside : 64 * (l.times * (y * g.w + g.w)) ≤ len → (q : Plan) → q ≡ plan_of g l x y → InPlane 8 2 q.on q.chroma len
  chroma-inside r q e = subst (λ (p : Plan). InPlane 8 2 p.on p.chroma len) (sym e)
      (record {
        left = λ t. left-fits l.times l.skip 8 2 g.w x y (omega arith) (beside t);
        top = λ t. top-fits l.times l.skip 8 2 g.w x y (omega arith) (above t);
        ends = omega (arith, mul-le-mul_right g.w turn);
        wide = omega (arith, mul-le-mul_right g.w turn);
      })
