-- The four bytes of an edge have its direction, its blocks side by side, and depend on the same: so what is
-- asked of the first gives the strengths of all. Assumes nothing.
use mathlib.Core.Path.{◌≡◌, refl, sym, ap, subst, ◌∙◌}
use mathlib.Core.Bool.{Bool, true, false, cond, ◌&&◌, ◌||◌, true≢false}
use mathlib.Core.List.{List}
use mathlib.Core.Logic.{⊎_elim}
use Prim.Native.Nat.{ℕ, zero, suc, ◌+◌, ◌-◌, ◌*◌, ◌%◌, ◌<◌, ◌≤◌}
use native.Mathlib.Omega.{arith}
use borrow.Author.Tests.{eqb-true, lt-ltb, le-ltb, not-true}
use lib.Dec.{eqb}
use lib.ListN.{get_or, set}
use Rattle.laws.specs.Loop.{up_to}
use Rattle.laws.proofs.Bools.{or-false, true-false}
use Rattle.laws.proofs.Grid.{row-pos}
use Rattle.laws.proofs.Ints.{le-or-lt}
use Rattle.laws.proofs.Loop.{up_to-same, up_to-flat}
use Rattle.motion.specs.Grids.{Grids, block_read, blk_at}
use Rattle.motion.specs.Motion.{inter_strength}
use Rattle.motion.specs.declared.blocks.Blk.{Blk}
use Rattle.strengths.specs.Blocks.{origin, own_block, left_block, above_block}
use Rattle.strengths.specs.ByKind.{inside, across_by, either_coded, is_intra, strength_by}
use Rattle.strengths.specs.Checks.{disagree}
use Rattle.strengths.specs.Edges.{edge_at, ask_inner, ask_outer, both_inter, ask_edge, by_asked, intra_edge}
use Rattle.strengths.specs.Eights.{across_flag, p_odd}
use Rattle.strengths.specs.Inner.{filled}
use Rattle.strengths.specs.Kinds.{is_kind}
use Rattle.strengths.specs.Strength.{vertical, edge, segment, q_row, q_column, q_block, p_block, border, skipped, outer_intra, between}
use Rattle.strengths.specs.declared.fours.Edge.{Edge}
use Rattle.strengths.specs.declared.eights.Transforms.{Transforms}
use Rattle.strengths.specs.declared.kinds.Asked.{Asked}
use Rattle.strengths.specs.declared.kinds.Asked.TheVariants.{Same, Coded, Moving}
use Rattle.strengths.specs.declared.kinds.MbKind.{MbKind}
use Rattle.strengths.specs.declared.kinds.MbKind.TheVariants.{Intra, Skip, InterUniform, Inter}
use Rattle.strengths.specs.declared.kinds.Mode.{Mode}
use Rattle.strengths.proofs.AcrossFits.{across-fits}
use Rattle.strengths.proofs.InterAgrees.{own-inter, intra-is, left-agrees, above-agrees}
use Rattle.strengths.proofs.OwnBlocks.{q-own, left-own, upper-own}

-- ---- byte k + s of the edge that begins with byte k
module _ (k s : ℕ) (m : k % 4 ≡ 0) (l : k < 32) (h : s < 4) where
  pub same-vertical : vertical (k + s) ≡ vertical k
  same-vertical =
      ⊎_elim
      (λ p. le-ltb (k + s) 16 (omega arith) ∙ sym (le-ltb k 16 p))
      (λ p. lt-ltb (k + s) 16 (omega arith) ∙ sym (lt-ltb k 16 p))
      (le-or-lt 16 k)

  pub same-edge : edge (k + s) ≡ edge k
  same-edge = omega arith

  pub same-segment : segment (k + s) ≡ s
  same-segment = omega arith

  pub same-border : (x y : ℕ) → border x y (k + s) ≡ border x y k
  same-border x y = λ i. eqb (same-edge i) 0 && eqb (cond (same-vertical i) x y) 0

  pub same_flag : (t : Transforms) → across_flag t (k + s) ≡ across_flag t k
  same_flag t = λ i. cond (eqb (same-edge i) 0) (cond (same-vertical i) t.left t.above) t.own

  pub p-odd : cond (vertical k) s (edge k + 1) % 2 ≡ p_odd (k + s)
  p-odd = sym (λ i. cond (same-vertical i) (same-segment i) (same-edge i + 1) % 2)

  pub same_asked : (kind : MbKind) (mode : Mode) (t8 : Bool) (inter : List ℕ) (w x y : ℕ) → ask_edge kind mode t8 inter w x y (k + s) ≡ ask_edge kind mode t8 inter w x y k
  same_asked kind mode t8 inter w x y =
      λ i. cond ((eqb (same-edge i) 0 && eqb (cond (same-vertical i) x y) 0) || (t8 && eqb (same-edge i % 2) 1)) (Same 0)
      (cond (eqb (same-edge i) 0)
      (ask_outer mode (same-vertical i) (eqb (get_or inter (origin w x y - cond (same-vertical i) 1 (4 * w)) 0) 1 && eqb (get_or inter (origin w x y) 0) 1))
      (ask_inner kind))

  pub same-intra : (mode : Mode) (t8 : Bool) (x y : ℕ) → intra_edge mode t8 x y (k + s) ≡ intra_edge mode t8 x y k
  same-intra mode t8 x y =
      λ i. cond ((eqb (same-edge i) 0 && eqb (cond (same-vertical i) x y) 0) || (t8 && eqb (same-edge i % 2) 1)) 0 (cond (eqb (same-edge i) 0) (outer_intra mode (same-vertical i)) 3)

  module _ (w x y : ℕ) where
    -- where its blocks stand
    pub q-place : (edge_at w x y k).q + s * (edge_at w x y k).along ≡ q_block w x y (k + s)
    q-place = go (vertical k) ∙ sym (λ i. own_block w x y (cond (same-vertical i) (same-segment i) (same-edge i)) (cond (same-vertical i) (same-edge i) (same-segment i)))
      where
        go : (b : Bool) → origin w x y + edge k * cond b 1 (4 * w) + s * cond b (4 * w) 1 ≡ own_block w x y (cond b s (edge k)) (cond b (edge k) s)
        go true = omega arith
        go false = omega arith

-- ---- the block across from segment s, by the edge's way: there is one, in an odd row or not
pub record Located (w x y k s : ℕ) (d : Edge) : Type 0 where
  pub there : d.back ≤ d.q + s * d.along
  pub p-row : cond d.down s (d.«from» + 1) % 2 ≡ p_odd (k + s)

pub located : (w x y k s : ℕ) (d : Edge) → k % 4 ≡ 0 → k < 32 → s < 4 → x < w → d ≡ edge_at w x y k → border x y k ≡ false → Located w x y k s d
located w x y k s d m l h c e b =
    rw e
    (record {
      there = subst (λ (n : ℕ). cond (vertical k) 1 (4 * w) ≤ n) (sym (q-place k s m l h w x y)) at_back;
      p-row = p-odd k s m l h;
    })
  where
    either : (a : Bool) → a ≡ false → (a || false) ≡ false
    either a f = ap (λ (n : Bool). n || false) f

    at_back : cond (vertical k) 1 (4 * w) ≤ q_block w x y (k + s)
    at_back = subst (λ (b : Bool). cond b 1 (4 * w) ≤ q_block w x y (k + s)) (same-vertical k s m l h) (across-fits w x y (k + s) false (either (border x y (k + s)) (same-border k s m l h x y ∙ b)))

-- ---- across an outer edge that is no border there are blocks
module _ (w x y k : ℕ) (e : edge k ≡ 0) (f : border x y k ≡ false) where
  there : (n : ℕ) → (eqb (edge k) 0 && eqb n 0) ≡ false → 0 < n
  there zero z = absurd (true-false (sym (ap (λ (i : ℕ). eqb i 0 && true) e) ∙ z))
  there (suc n) z = omega arith

  pub outer-there : cond (vertical k) 1 (4 * w) ≤ origin w x y
  outer-there = go (vertical k) f
    where
      go : (b : Bool) → (eqb (edge k) 0 && eqb (cond b x y) 0) ≡ false → cond b 1 (4 * w) ≤ origin w x y
      go true z = omega (arith, there x z)
      go false z = omega (arith, row-pos y w (there y z))

-- where strengths are not the same in any case, the edge is no border
abbrev pub is_same : Asked → Bool
is_same (Same v) = true
is_same Coded = false
is_same Moving = false

pub asked-there : (kind : MbKind) (mode : Mode) (t8 : Bool) (inter : List ℕ) (w x y k : ℕ) → is_same (ask_edge kind mode t8 inter w x y k) ≡ false → border x y k ≡ false
asked-there kind mode t8 inter w x y k = go (border x y k)
  where
    go : (b : Bool) → is_same (cond (b || skipped t8 k) (Same 0) (cond (eqb (edge k) 0) (ask_outer mode (vertical k) (both_inter inter w x y k)) (ask_inner kind))) ≡ false → b ≡ false
    go true z = absurd (true-false z)
    go false z = refl

-- ---- eight edges of four bytes are 32
pub edges-flat : (f : ℕ → ℕ) (to : ℕ) (s : List ℕ) → up_to 8 (λ r t. filled 4 (to + 4 * r) (λ n. f (4 * r + n)) t) s ≡ filled 32 to f s
edges-flat f to s =
    up_to-same 8 _ _ s (λ r t h. up_to-same 4 _ _ t (λ k u l. λ i. set u (index r k i) (f (number r k i))))
    ∙ up_to-flat 8 4 (λ k u. set u (to + k) (f k)) s
  where
    number : (r k : ℕ) → 4 * r + k ≡ r * 4 + k
    number r k = omega arith

    index : (r k : ℕ) → to + 4 * r + k ≡ to + (r * 4 + k)
    index r k = omega arith

-- ---- what is asked tells the strength
module _ (g : Grids) (w x y : ℕ) (agree : disagree g.inter w x y ≡ false) where
  inter-at : (i : ℕ) → (blk_at g i).inter ≡ eqb (get_or g.inter i 0) 1
  unfolding block_read
  inter-at i = refl

  -- across an outer edge the first block speaks for the four
  module _ (k : ℕ) (e : edge k ≡ 0) (f : border x y k ≡ false) where
    across-inter : (blk_at g (p_block w x y k)).inter ≡ eqb (get_or g.inter (origin w x y - cond (vertical k) 1 (4 * w)) 0) 1
    across-inter = inter-at (p_block w x y k) ∙ ap (λ (n : ℕ). eqb n 1) (go (vertical k) refl f)
      where
        go : (b : Bool) → vertical k ≡ b → (eqb (edge k) 0 && eqb (cond b x y) 0) ≡ false
            → get_or g.inter (p_block w x y k) 0 ≡ get_or g.inter (origin w x y - cond b 1 (4 * w)) 0
        go true v z =
            let h = there w x y k e f x z in
            let o = left-own w x y k e v h in
            let p : p_block w x y k ≡ left_block w x y (segment k) = o.is ∙ omega arith in
            ap (λ (i : ℕ). get_or g.inter i 0) p ∙ left-agrees g w x y agree (segment k) o.row h
        go false v z =
            let h = there w x y k e f y z in
            let o = upper-own w x y k e v h in
            let p : p_block w x y k ≡ above_block w x y (segment k) = o.is ∙ omega (arith, up h) in
            ap (λ (i : ℕ). get_or g.inter i 0) p ∙ above-agrees g w x y agree (segment k) o.col h
          where
            up : 0 < y → y * w ≡ (y - 1) * w + w
            up h = let f : y ≡ suc (y - 1) = omega arith in ap (λ (m : ℕ). m * w) f ∙ omega arith

    both_is : ((blk_at g (p_block w x y k)).inter && (blk_at g (q_block w x y k)).inter) ≡ both_inter g.inter w x y k
    both_is = let o = q-own w x y k in λ i. across-inter i && own-inter g w x y agree (q_row k) (q_column k) o.row o.col i

  module _ (kind : MbKind) (mode : Mode) (t : Transforms) (k : ℕ) where
    inner-is : (n : MbKind) (v : ℕ) (c : Bool) (p q : Blk) → inside n v c p q ≡ by_asked v (ask_inner n) c p q
    inner-is Intra v c p q = refl
    inner-is Skip v c p q = refl
    inner-is InterUniform v c p q = refl
    inner-is Inter v c p q = refl

    outer-is : (b l : Bool) (v : ℕ) (c : Bool) (p q : Blk) → cond b (inter_strength v c p q) (outer_intra mode l) ≡ by_asked v (ask_outer mode l b) c p q
    outer-is true l v c p q = refl
    outer-is false l v c p q = refl

    pub asked_is : strength_by kind mode g w t x y k
        ≡ by_asked mode.limit (ask_edge kind mode t.own g.inter w x y k) (either_coded g.nnz w t x y k) (blk_at g (p_block w x y k)) (blk_at g (q_block w x y k))
    unfolding strength_by between
    asked_is = cases (border x y k || skipped t.own k) refl
      where
        c : Bool
        c = either_coded g.nnz w t x y k

        p : Blk
        p = blk_at g (p_block w x y k)

        q : Blk
        q = blk_at g (q_block w x y k)

        go : (b : Bool) → eqb (edge k) 0 ≡ b → border x y k ≡ false
            → across_by kind mode b (vertical k) c p q ≡ by_asked mode.limit (cond b (ask_outer mode (vertical k) (both_inter g.inter w x y k)) (ask_inner kind)) c p q
        go true e f =
            ap (λ (b : Bool). cond b (inter_strength mode.limit c p q) (outer_intra mode (vertical k))) (both_is k (eqb-true (edge k) 0 e) f)
            ∙ outer-is (both_inter g.inter w x y k) (vertical k) mode.limit c p q
        go false e f = inner-is kind mode.limit c p q

        cases : (b : Bool) → (border x y k || skipped t.own k) ≡ b
            → cond b 0 (across_by kind mode (eqb (edge k) 0) (vertical k) c p q)
            ≡ by_asked mode.limit (cond b (Same 0) (cond (eqb (edge k) 0) (ask_outer mode (vertical k) (both_inter g.inter w x y k)) (ask_inner kind))) c p q
        cases true e = refl
        cases false e = go (eqb (edge k) 0) refl (or-false (border x y k) (skipped t.own k) e).0

  module _ (kind : MbKind) (mode : Mode) (t : Transforms) (k : ℕ) where
    -- .. of all four bytes, by what is asked of the first
    pub four-by : (m : k % 4 ≡ 0) (l : k < 32) (to : ℕ) (bytes : List ℕ) (n : Asked) → ask_edge kind mode t.own g.inter w x y k ≡ n
        → filled 4 to (λ s. by_asked mode.limit n (either_coded g.nnz w t x y (k + s)) (blk_at g (p_block w x y (k + s))) (blk_at g (q_block w x y (k + s)))) bytes
        ≡ filled 4 to (λ s. strength_by kind mode g w t x y (k + s)) bytes
    four-by m l to bytes n e = up_to-same 4 _ _ bytes (λ s u h. ap (λ (v : ℕ). set u (to + s) v) (one s h))
      where
        one : (s : ℕ) → s < 4 → by_asked mode.limit n (either_coded g.nnz w t x y (k + s)) (blk_at g (p_block w x y (k + s))) (blk_at g (q_block w x y (k + s))) ≡ strength_by kind mode g w t x y (k + s)
        one s h =
            sym (asked_is kind mode t (k + s)
            ∙ ap (λ (a : Asked). by_asked mode.limit a (either_coded g.nnz w t x y (k + s)) (blk_at g (p_block w x y (k + s))) (blk_at g (q_block w x y (k + s)))) (same_asked k s m l h kind mode t.own g.inter w x y ∙ e))

  -- ---- an intra macroblock, where nothing is to be asked
  pub intra-edge : (kind : MbKind) → is_intra kind ≡ true → is_kind g w x y kind ≡ true → (mode : Mode) (t : Transforms) (k : ℕ)
      → intra_edge mode t.own x y k ≡ strength_by kind mode g w t x y k
  intra-edge Intra i e mode t k =
      sym (asked_is Intra mode t k
      ∙ ap (λ (b : Bool). by_asked mode.limit (cond (border x y k || skipped t.own k) (Same 0) (cond (eqb (edge k) 0) (ask_outer mode (vertical k) b) (Same 3))) c p q) none
      ∙ go (border x y k || skipped t.own k) (eqb (edge k) 0))
    where
      c : Bool
      c = either_coded g.nnz w t x y k

      p : Blk
      p = blk_at g (p_block w x y k)

      q : Blk
      q = blk_at g (q_block w x y k)

      never : (a : Bool) → (a && false) ≡ false
      never true = refl
      never false = refl

      none : both_inter g.inter w x y k ≡ false
      none =
          ap (λ (b : Bool). eqb (get_or g.inter (origin w x y - cond (vertical k) 1 (4 * w)) 0) 1 && b) (not-true _ (sym (intra-is g w x y agree) ∙ e))
          ∙ never (eqb (get_or g.inter (origin w x y - cond (vertical k) 1 (4 * w)) 0) 1)

      go : (a b : Bool) → by_asked mode.limit (cond a (Same 0) (cond b (Same (outer_intra mode (vertical k))) (Same 3))) c p q ≡ cond a 0 (cond b (outer_intra mode (vertical k)) 3)
      go true b = refl
      go false true = refl
      go false false = refl
  intra-edge Skip i e mode t k = absurd (true≢false (sym i))
  intra-edge InterUniform i e mode t k = absurd (true≢false (sym i))
  intra-edge Inter i e mode t k = absurd (true≢false (sym i))
