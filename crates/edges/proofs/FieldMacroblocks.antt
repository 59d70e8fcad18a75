-- A macroblock of a picture whose lines stand `far` apart in larger planes, the first at `base`: filtering it
-- there is filtering it in the picture. Assumes nothing.
use mathlib.Core.Path.{◌≡◌, ap, subst}
use mathlib.Core.Bool.{Bool, ◌&&◌}
use mathlib.Core.List.{List}
use Prim.Native.Nat.{ℕ, zero, suc, ◌+◌, ◌-◌, ◌*◌, ◌≤◌, ◌<◌}
use native.Mathlib.Nat.{mul-le-mul_left, mul-le-mul_right}
use native.Mathlib.Omega.{arith}
use lib.Dec.{T, lit≤, ltb, ltb→lt}
use lib.IntN.{ℤ}
use Rattle.laws.specs.Places.{Plane}
use Rattle.laws.proofs.Bools.{and_parts}
use Rattle.fields.specs.Carried.{View, Sits, Carried}
use Rattle.fields.specs.Lines.{lines_at}
use Rattle.fields.proofs.TwoFields.{sits}
use Rattle.edges.specs.Laid.{origin_in, luma_in, chroma_in}
use Rattle.edges.specs.Macroblock.{Settings, outer_or, luma_on, luma_mb, chroma_mb}
use Rattle.edges.specs.Picture.{Held, origin_of, settings_at, luma_of, chroma_of}
use Rattle.edges.proofs.FieldEdges.{WayOn, luma_both-carried, chroma_both-carried}

module _ (base far N half n W H x y : ℕ) (fits : 4 * n ≤ N) (small : half ≤ 4) (column : x < W) (row : y < H) where
  -- an edge that is on begins inside the plane, and its last sample is in the macroblock
  begins : (on : ℕ → Bool) (z e : ℕ) → (T (on 0) → 0 < z) → T (on e) → e < n → half ≤ z * N + 4 * e
  begins on z zero b t l = let h : 1 ≤ z = b t in omega (arith, mul-le-mul_right N h)
  begins on z (suc e) b t l = omega arith

  ends : (z Z e k : ℕ) → z < Z → e < n → k < half + half → half ≤ z * N + 4 * e → z * N + 4 * e - half + k < N * Z
  ends z Z e k a l b h = omega (arith, mul-le-mul_left N a)

  fill : (z Z j : ℕ) → z < Z → j < N → z * N + j < N * Z
  fill z Z j a b = omega (arith, mul-le-mul_left N a)

  wide : 0 < n → 0 < N * W
  wide h = omega (arith, mul-le-mul_left N column)

  v-small : (e j k S : ℕ) → half ≤ x * N + 4 * e
      → (y * N + j) * S + (x * N + 4 * e - half + k) ≡ N * y * S + N * x + e * (4 * 1) - half * 1 + j * S + k * 1
  v-small e j k S h = omega arith

  v-large : (e j k : ℕ) → half ≤ x * N + 4 * e
      → base + (y * N + j) * far + (x * N + 4 * e - half + k) ≡ origin_in base far N x y + e * (4 * 1) - half * 1 + j * far + k * 1
  v-large e j k h = omega arith

  h-small : (e j k S : ℕ) → half ≤ y * N + 4 * e
      → (y * N + 4 * e - half + k) * S + (x * N + j) ≡ N * y * S + N * x + e * (4 * S) - half * S + j * 1 + k * S
  h-small e j k S h =
      let d : y * N + 4 * e ≡ (y * N + 4 * e - half) + half = omega arith in
      omega (arith, ap (λ (z : ℕ). z * S) d)

  h-large : (e j k : ℕ) → half ≤ y * N + 4 * e
      → base + (y * N + 4 * e - half + k) * far + (x * N + j) ≡ origin_in base far N x y + e * (4 * far) - half * far + j * 1 + k * far
  h-large e j k h =
      let d : y * N + 4 * e ≡ (y * N + 4 * e - half) + half = omega arith in
      omega (arith, ap (λ (z : ℕ). z * far) d)

  v-on : (on : ℕ → Bool) → (T (on 0) → 0 < x)
      → WayOn (lines_at base far (N * W) (N * H)) N half n on (origin_of N W x y) (N * W) 1 (origin_in base far N x y) far 1
  v-on on b e le t j lj k lk =
      let o = begins on x e b t le in
      subst (λ (i : ℕ). Sits L i (origin_in base far N x y + e * (4 * 1) - half * 1 + j * far + k * 1)) (v-small e j k (N * W) o)
      (subst (Sits L ((y * N + j) * (N * W) + (x * N + 4 * e - half + k))) (v-large e j k o)
      (sits base far (N * W) (N * H) (wide (omega arith)) (y * N + j) (x * N + 4 * e - half + k) (fill y H j row lj) (ends x W e k column le lk o)))
    where
      L : List ℕ
      L = lines_at base far (N * W) (N * H)

  h-on : (on : ℕ → Bool) → (T (on 0) → 0 < y)
      → WayOn (lines_at base far (N * W) (N * H)) N half n on (origin_of N W x y) 1 (N * W) (origin_in base far N x y) 1 far
  h-on on b e le t j lj k lk =
      let o = begins on y e b t le in
      subst (λ (i : ℕ). Sits L i (origin_in base far N x y + e * (4 * far) - half * far + j * 1 + k * far)) (h-small e j k (N * W) o)
      (subst (Sits L ((y * N + 4 * e - half + k) * (N * W) + (x * N + j))) (h-large e j k o)
      (sits base far (N * W) (N * H) (wide (omega arith)) (y * N + 4 * e - half + k) (x * N + j) (ends y H e k row le lk o) (fill x W j column lj)))
    where
      L : List ℕ
      L = lines_at base far (N * W) (N * H)

module _ (g : Held) (base far H x y m : ℕ) (column : x < g.w) (row : y < H) where
  abbrev s : Settings
  s = settings_at g x y

  -- an outer edge that is on has a neighbour
  beside : (b : Bool) → T (b && ltb 0 x) → 0 < x
  beside b t = ltb→lt 0 x (and_parts b (ltb 0 x) t).1

  above : (b : Bool) → T (b && ltb 0 y) → 0 < y
  above b t = ltb→lt 0 y (and_parts b (ltb 0 y) t).1

  abbrev i : ℕ
  i = y * g.w + x

  pub luma-carried : View m (lines_at base far (16 * g.w) (16 * H)) → Carried m (lines_at base far (16 * g.w) (16 * H)) (luma_of g x y) (luma_in g base far x y)
  unfolding luma_of luma_in
  luma-carried w =
      let across = luma_on s.left s.inner s.t8 in
      let down = luma_on s.top s.inner s.t8 in
      luma_both-carried m (lines_at base far (16 * g.w) (16 * H)) w (origin_of 16 g.w x y) (16 * g.w) (origin_in base far 16 x y) far across down s.strengths _ _ _
      (v-on base far 16 4 4 g.w H x y (lit≤ tt) (lit≤ tt) column row across (beside (g.left i)))
      (h-on base far 16 4 4 g.w H x y (lit≤ tt) (lit≤ tt) column row down (above (g.top i)))

  pub chroma-carried : (offset : ℤ) → View m (lines_at base far (8 * g.w) (8 * H))
      → Carried m (lines_at base far (8 * g.w) (8 * H)) (chroma_of g offset x y) (chroma_in g base far offset x y)
  unfolding chroma_of chroma_in
  chroma-carried offset w =
      let across = outer_or s.left s.inner in
      let down = outer_or s.top s.inner in
      chroma_both-carried m (lines_at base far (8 * g.w) (8 * H)) w (origin_of 8 g.w x y) (8 * g.w) (origin_in base far 8 x y) far across down s.strengths _ _ _
      (v-on base far 8 2 2 g.w H x y (lit≤ tt) (lit≤ tt) column row across (beside (g.left i)))
      (h-on base far 8 2 2 g.w H x y (lit≤ tt) (lit≤ tt) column row down (above (g.top i)))

-- a frame is as before
pub frame-luma : (g : Held) (x y : ℕ) (s : Plane) → luma_in g 0 (16 * g.w) x y s ≡ luma_of g x y s
unfolding luma_of luma_in
frame-luma g x y s =
    let e : origin_in 0 (16 * g.w) 16 x y ≡ origin_of 16 g.w x y = omega arith in
    ap (λ (o : ℕ). luma_mb g.depth (settings_at g x y) o (16 * g.w) s) e

pub frame-chroma : (g : Held) (offset : ℤ) (x y : ℕ) (s : Plane) → chroma_in g 0 (8 * g.w) offset x y s ≡ chroma_of g offset x y s
unfolding chroma_of chroma_in
frame-chroma g offset x y s =
    let e : origin_in 0 (8 * g.w) 8 x y ≡ origin_of 8 g.w x y = omega arith in
    ap (λ (o : ℕ). chroma_mb g.depth (settings_at g x y) offset o (8 * g.w) s) e
