-- Fields beside frames, clause 8.7.2.1: what stands on the outer edges of an intra macroblock, and where a
-- field's strengths are not a frame's. Assumes nothing.
use mathlib.Core.Path.{◌≡◌, refl, sym, ap, ◌∙◌}
use mathlib.Core.Bool.{Bool, true, false, cond, not, ◌&&◌, ◌||◌, true≢false}
use Prim.Native.Nat.{ℕ, ◌+◌, ◌-◌, ◌*◌, ◌%◌, ◌<◌}
use native.Mathlib.Omega.{arith}
use borrow.Author.Tests.{eqb-true, ne_eqb, not-true, lt-ltb, le-ltb}
use lib.Dec.{eqb, lit≤}
use Rattle.laws.proofs.Bools.{and-false}
use Rattle.motion.specs.Grids.{Grids, blk_at}
use Rattle.motion.specs.Motion.{differ, inter_strength}
use Rattle.motion.specs.declared.blocks.Blk.{Blk}
use Rattle.motion.proofs.Limits.{differ-more}
use Rattle.strengths.specs.Blocks.{own_block}
use Rattle.strengths.specs.Kinds.{is_kind}
use Rattle.strengths.specs.Strength.{vertical, edge, segment, q_block, p_block, border, frame, field, outer_intra, coded, between, skipped, strength_at}
use Rattle.strengths.specs.declared.kinds.MbKind.TheVariants.{Intra}
use Rattle.strengths.specs.declared.kinds.Mode.{Mode}
use Rattle.strengths.proofs.OwnBlocks.{Own, at, q-own}

-- ---- an outer edge inside the picture, beside an intra block: in any mode
abbrev both_inter : Grids → ℕ → ℕ → ℕ → ℕ → Bool
both_inter g w x y k = (blk_at g (p_block w x y k)).inter && (blk_at g (q_block w x y k)).inter

module _ (mode : Mode) (g : Grids) (w : ℕ) (t8s : ℕ → Bool) (x y : ℕ) where
  outer : (k : ℕ) → edge k ≡ 0 → border x y k ≡ false → both_inter g w x y k ≡ false → strength_at mode g w t8s x y k ≡ outer_intra mode (vertical k)
  unfolding strength_at between
  outer k e b h =
      let p = blk_at g (p_block w x y k) in
      let q = blk_at g (q_block w x y k) in
      let c = coded g w t8s (p_block w x y k) || coded g w t8s (q_block w x y k) in
      let t = and-false (t8s (y * w + x)) (ap (λ (n : ℕ). eqb (n % 2) 1) e) in
      λ i. cond (b i || t i) 0 (cond (h i) (inter_strength mode.limit c p q) (cond (eqb (e i) 0) (outer_intra mode (vertical k)) 3))

  -- segment s of the upper edge, and of the left one
  module _ (s : ℕ) (four : s < 4) where
    pub upper-intra : 0 < y → both_inter g w x y (16 + s) ≡ false → strength_at mode g w t8s x y (16 + s) ≡ mode.upper
    upper-intra inside h =
        let v = le-ltb (16 + s) 16 (omega arith) in
        let b = and-false (eqb (edge (16 + s)) 0) (ap (λ (u : Bool). eqb (cond u x y) 0) v ∙ ne_eqb y 0 (λ e. omega arith)) in
        outer (16 + s) (omega arith) b h ∙ ap (outer_intra mode) v

    pub left-intra : 0 < x → both_inter g w x y s ≡ false → strength_at mode g w t8s x y s ≡ 4
    left-intra inside h =
        let v = lt-ltb s 16 (omega arith) in
        let b = and-false (eqb (edge s) 0) (ap (λ (u : Bool). eqb (cond u x y) 0) v ∙ ne_eqb x 0 (λ e. omega arith)) in
        outer s (omega arith) b h ∙ ap (outer_intra mode) v

-- ---- the outer edges of an intra macroblock, and the edges that it shares with those below it and to its
-- right, in a field: horizontal ones have 3, vertical ones 4
module _ (g : Grids) (w : ℕ) (t8s : ℕ → Bool) (x y : ℕ) (intra : is_kind g w x y Intra ≡ true) where
  own-intra : (i : ℕ) {r b : ℕ} → Own w x y r b i → (blk_at g i).inter ≡ false
  own-intra i o = not-true _ (at w x y i (λ j. not (blk_at g j).inter) intra o)

  module _ (s : ℕ) (four : s < 4) where
    pub field_top : (0 < y → strength_at field g w t8s x y (16 + s) ≡ 3) × (0 < x → strength_at field g w t8s x y s ≡ 4)
    field_top = (
      λ h. upper-intra field g w t8s x y s four h (and-false (blk_at g (p_block w x y (16 + s))).inter (own-intra _ (q-own w x y (16 + s)))),
      λ h. left-intra field g w t8s x y s four h (and-false (blk_at g (p_block w x y s)).inter (own-intra _ (q-own w x y s))),
    )

    above : Own w x y 3 s (p_block w x (y + 1) (16 + s))
    above = record { row = lit≤ tt; col = four; is = go (vertical (16 + s)) (le-ltb (16 + s) 16 (omega arith)) (edge (16 + s)) (omega arith) }
      where
        go : (v : Bool) → v ≡ false → (e : ℕ) → e ≡ 0 → own_block w x (y + 1) (cond v (segment (16 + s)) e) (cond v e (segment (16 + s))) - cond v 1 (4 * w) ≡ own_block w x y 3 s
        go v f e z = rw (f, z) (omega arith)

    beside : Own w x y s 3 (p_block w (x + 1) y s)
    beside = record { row = four; col = lit≤ tt; is = go (vertical s) (lt-ltb s 16 (omega arith)) (edge s) (omega arith) (segment s) (omega arith) }
      where
        go : (v : Bool) → v ≡ true → (e : ℕ) → e ≡ 0 → (t : ℕ) → t ≡ s → own_block w (x + 1) y (cond v t e) (cond v e t) - cond v 1 (4 * w) ≡ own_block w x y s 3
        go v f e z t u = rw (f, z, u) (omega arith)

    pub field_below : strength_at field g w t8s x (y + 1) (16 + s) ≡ 3
    field_below =
        upper-intra field g w t8s x (y + 1) s four (omega arith) (ap (λ (b : Bool). b && (blk_at g (q_block w x (y + 1) (16 + s))).inter) (own-intra _ above))

    pub field-right : strength_at field g w t8s (x + 1) y s ≡ 4
    field-right = left-intra field g w t8s (x + 1) y s four (omega arith) (ap (λ (b : Bool). b && (blk_at g (q_block w (x + 1) y s)).inter) (own-intra _ beside))

-- ---- the strength n of a field beside the strength m of a frame, at byte k between blocks p and q, of which
-- c says whether one is coded: equal, unless k is on the upper edge beside an intra block, or p's and q's
-- motion differs in a field alone
pub data FieldFrame (k : ℕ) (c : Bool) (p q : Blk) : ℕ → ℕ → Type 0 where
  same : (n : ℕ) → FieldFrame k c p q n n
  top : edge k ≡ 0 → vertical k ≡ false → (p.inter && q.inter) ≡ false → FieldFrame k c p q 3 4
  near : (p.inter && q.inter) ≡ true → c ≡ false → differ 1 p q ≡ true → differ 3 p q ≡ false → FieldFrame k c p q 1 0

module _ (g : Grids) (w : ℕ) (t8s : ℕ → Bool) (x y k : ℕ) where
  abbrev p : Blk
  p = blk_at g (p_block w x y k)

  abbrev q : Blk
  q = blk_at g (q_block w x y k)

  abbrev c : Bool
  c = coded g w t8s (p_block w x y k) || coded g w t8s (q_block w x y k)

  pub field-same : FieldFrame k c p q (strength_at field g w t8s x y k) (strength_at frame g w t8s x y k)
  unfolding strength_at between inter_strength
  field-same = go (border x y k || skipped (t8s (y * w + x)) k) _ refl _ refl _ refl _ refl _ refl _ refl
    where
      go : (b i : Bool) → (p.inter && q.inter) ≡ i → (d : Bool) → c ≡ d → (e : Bool) → differ 1 p q ≡ e → (f : Bool) → differ 3 p q ≡ f
          → (o : Bool) → eqb (edge k) 0 ≡ o → (v : Bool) → vertical k ≡ v
          → FieldFrame k c p q (cond b 0 (cond i (cond d 2 (cond e 1 0)) (cond o (cond v 4 3) 3))) (cond b 0 (cond i (cond d 2 (cond f 1 0)) (cond o (cond v 4 4) 3)))
      go true i hi d hd e he f hf o ho v hv = same 0
      go false true hi true hd e he f hf o ho v hv = same 2
      go false true hi false hd true he true hf o ho v hv = same 1
      go false true hi false hd true he false hf o ho v hv = near hi hd he hf
      go false true hi false hd false he true hf o ho v hv = absurd (true≢false (sym hf ∙ differ-more (lit≤ tt) p q he))
      go false true hi false hd false he false hf o ho v hv = same 0
      go false false hi d hd e he f hf false ho v hv = same 3
      go false false hi d hd e he f hf true ho true hv = same 4
      go false false hi d hd e he f hf true ho false hv = top (eqb-true _ _ ho) hv hi

  -- so it is the same where an upper edge lies between inter blocks, and motion, if it is compared, does not
  -- differ in a field: as between blocks of the same motion (`differ_same`)
  pub field-equal : (edge k ≡ 0 → vertical k ≡ false → (p.inter && q.inter) ≡ true) → ((p.inter && q.inter) ≡ true → c ≡ false → differ 1 p q ≡ false)
      → strength_at field g w t8s x y k ≡ strength_at frame g w t8s x y k
  field-equal inter still = go field-same
    where
      go : {n m : ℕ} → FieldFrame k c p q n m → n ≡ m
      go (same n) = refl
      go (top e v h) = absurd (true≢false (sym (inter e v) ∙ h))
      go (near h d e f) = absurd (true≢false (sym e ∙ still h d))
