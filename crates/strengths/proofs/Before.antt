-- The definitions at the values that they had first: the mode of frames, and a call that is told it is no
-- field. BeforeFlags has those of 8x8 flags, BeforePictures those of tables. A change that widens one of them
-- keeps these laws at the neutral value. Assumes nothing.
use mathlib.Core.Path.{◌≡◌, refl, sym, ap, ◌∙◌}
use mathlib.Core.Bool.{Bool, true, false, cond, not, ◌&&◌, ◌||◌}
use mathlib.Core.List.{List}
use Prim.Native.Nat.{ℕ, ◌+◌, ◌*◌}
use lib.Dec.{eqb}
use lib.ListN.{length}
use Rattle.motion.specs.Grids.{Grids, blk_at}
use Rattle.motion.specs.Motion.{inter_strength}
use Rattle.motion.specs.declared.blocks.Blk.{Blk}
use Rattle.sizes.specs.Entries.{flag_at}
use Rattle.sizes.specs.declared.Size.{Size}
use Rattle.strengths.specs.Calls.{answer_of, untrue_kind, untrue_flags, DeriveOutcome}
use Rattle.strengths.specs.Kinds.{flat, uniform, is_kind}
use Rattle.strengths.specs.Strength.{vertical, edge, q_block, p_block, border, skipped, frame, coded, between, strength_at, written}
use Rattle.strengths.specs.declared.kinds.Flagged.{Flagged}
use Rattle.strengths.specs.declared.kinds.Request.{Request}

-- ---- frames: 4 on an outer and 3 on an inner edge beside an intra block; 3 is the most in both directions
abbrev frame_between : Bool → Bool → Blk → Blk → ℕ
frame_between outer coded p q = cond (p.inter && q.inter) (inter_strength 3 coded p q) (cond outer 4 3)

abbrev frame_strength : Grids → ℕ → (ℕ → Bool) → ℕ → ℕ → ℕ → ℕ
frame_strength g w t8s x y k =
    cond
    (border x y k || skipped (t8s (y * w + x)) k)
    0
    (frame_between (eqb (edge k) 0) (coded g w t8s (p_block w x y k) || coded g w t8s (q_block w x y k)) (blk_at g (p_block w x y k)) (blk_at g (q_block w x y k)))

frame-intra : (outer left : Bool) → ◌≡◌ {A = ℕ} (cond outer (cond left 4 4) 3) (cond outer 4 3)
frame-intra true true = refl
frame-intra true false = refl
frame-intra false left = refl

pub frame-before : (g : Grids) (w : ℕ) (t8s : ℕ → Bool) (x y k : ℕ) → strength_at frame g w t8s x y k ≡ frame_strength g w t8s x y k
unfolding strength_at between
frame-before g w t8s x y k =
    let p = blk_at g (p_block w x y k) in
    let q = blk_at g (q_block w x y k) in
    let c = coded g w t8s (p_block w x y k) || coded g w t8s (q_block w x y k) in
    ap (λ (n : ℕ). cond (border x y k || skipped (t8s (y * w + x)) k) 0 (cond (p.inter && q.inter) (inter_strength 3 c p q) n)) (frame-intra (eqb (edge k) 0) (vertical k))

-- ---- a call that is told it is no field promises what it promised when there were only frames
pub record FrameCall (size : Size) (x y : ℕ) (t8s : List ℕ) (g : Grids) (untrue : Bool) (s : List ℕ) (n : ℕ) (s' : List ℕ) : Type 0 where
  pub says : n ≡ answer_of size x y t8s g untrue (length s)
  pub leaves : s' ≡ cond (eqb n 0) (written (y * size.w + x) (frame_strength g size.w (flag_at t8s) x y) s) s

module _ (size : Size) (x y : ℕ) (t8s : List ℕ) (g : Grids) (untrue : Bool) (s : List ℕ) (n : ℕ) (s' : List ℕ) where
  spelled : cond (eqb n 0) (written (y * size.w + x) (strength_at frame g size.w (flag_at t8s) x y) s) s
      ≡ cond (eqb n 0) (written (y * size.w + x) (frame_strength g size.w (flag_at t8s) x y) s) s
  spelled = λ i. cond (eqb n 0) (written (y * size.w + x) (λ (k : ℕ). frame-before g size.w (flag_at t8s) x y k i) s) s

  pub frame-call-before : (DeriveOutcome size false x y t8s g untrue s n s' → FrameCall size x y t8s g untrue s n s')
      × (FrameCall size x y t8s g untrue s n s' → DeriveOutcome size false x y t8s g untrue s n s')
  frame-call-before =
      (λ r. record { says = r.says; leaves = r.leaves ∙ spelled }, λ r. record { says = r.says; leaves = r.leaves ∙ sym spelled })

-- ---- check 12 applies where it did when a kind and flags were two definitions
pub untrue-before : (size : Size) (r : Request) (f : Flagged) (g : Grids)
    → (untrue_kind size r g ≡ not (is_kind g size.w r.x r.y r.kind))
    × (untrue_flags size.w f g ≡ ((f.flat && not (flat g size.w f.x f.y)) || (f.uniform && not (uniform g size.w f.x f.y))))
untrue-before size r f g = (refl, refl)
