-- Lines filtered by the lanes that code makes are the lines of a pass. Assumes nothing.
use mathlib.Core.Path.{◌≡◌, refl, ap, ◌∙◌}
use mathlib.Core.Bool.{Bool, false}
use mathlib.Core.List.{List}
use Prim.Native.Nat.{ℕ, ◌%◌, ◌≤◌, ◌<◌}
use native.Mathlib.Omega.{arith}
use lib.ListN.{get_or}
use Rattle.laws.specs.Loop.{up_to}
use Rattle.laws.specs.Places.{Plane}
use Rattle.lines.specs.Depth.{Depth, eight}
use Rattle.lines.specs.Inner.{cap_row}
use Rattle.lines.specs.Luma.{strong_line}
use Rattle.lines.specs.Chroma.{strong_short}
use Rattle.lines.specs.Planes.{luma_at, chroma_at}
use Rattle.lines.proofs.TableParts.{cap-small}
use Rattle.narrow.specs.Capped.{capped_line, capped_short}
use Rattle.batches.specs.Lines.{segment_strength, upper, long_at, u_or_v, uv_strength, short_at, pass_of}
use Rattle.batches.specs.Lanes.{slot_of, at_slot, strong_row, four_each, two_each, eight_each, is_weak, is_strong, any}
use Rattle.batches.specs.declared.lanes.Four.{Four}
use Rattle.batches.specs.declared.lanes.Thresholds.{Thresholds}
use Rattle.batches.proofs.Bands.{Columns, long-columns}
use Rattle.batches.proofs.Segments.{four_each-at, two_each-at, eight_each-at, no_one}
use Rattle.batches.proofs.Shapes.{luma_shape, chroma_shape}
use Rattle.batches.proofs.Passes.{pass-idle, weak-pass, strong-pass, both-passes}

-- ---- luma: what the code lends are four each of a row
module _ (d : Depth) (s : Four) (l : Thresholds) where
  four-at : {x : List ℕ} (r : List ℕ) → x ≡ four_each r s → (k : ℕ) → k < 16 → get_or x k 0 ≡ at_slot r (segment_strength 4 s k)
  four-at r f k h = ap (λ (y : List ℕ). get_or y k 0) f ∙ four_each-at r s k h

  pub long-weak : {caps : List ℕ} → caps ≡ four_each (cap_row d l.index) s → (t : Plane)
      → up_to 16 (λ k. luma_at (capped_line d l.alpha l.beta (get_or caps k 0)) k 16) t ≡ up_to 16 (pass_of is_weak (segment_strength 4 s) (long_at d s l)) t
  unfolding luma_at luma_shape
  long-weak e = weak-pass (luma_shape d) upper (segment_strength 4 s) (λ k. l) _ _ _ (λ k h. refl) (λ k h. refl) (four-at (cap_row d l.index) e)

  -- no cap is larger than a table's, far below what a line takes
  pub long-small : {caps : List ℕ} (i : ℕ) → caps ≡ four_each (cap_row eight i) s → (k : ℕ) → k < 16 → get_or caps k 0 ≤ 93
  long-small i e k h = rw (four-at (cap_row eight i) e k h) (omega (arith, cap-small i (slot_of (segment_strength 4 s k))))

  pub long-strong : {ra al : List ℕ} → ra ≡ strong_row l → al ≡ four_each ra s → (t : Plane)
      → up_to 16 (λ k. luma_at (strong_line (get_or al k 0) l.beta) k 16) t ≡ up_to 16 (pass_of is_strong (segment_strength 4 s) (long_at d s l)) t
  unfolding luma_at luma_shape
  long-strong a b = strong-pass (luma_shape d) upper (segment_strength 4 s) (λ k. l) _ _ (four-at (strong_row l) (b ∙ ap (λ (y : List ℕ). four_each y s) a)) (λ k h. refl)

  -- a pass that has none of them
  pub long-idle : (on : ℕ → Bool) → on 0 ≡ false → any on s ≡ false → (t : Plane) → up_to 16 (pass_of on (segment_strength 4 s) (long_at d s l)) t ≡ t
  long-idle on z e t = pass-idle on (segment_strength 4 s) (long_at d s l) t (no_one on s z e 4)

  pub long-both : (t : Plane) → up_to 16 (pass_of is_strong (segment_strength 4 s) (long_at d s l)) (up_to 16 (pass_of is_weak (segment_strength 4 s) (long_at d s l)) t) ≡ up_to 16 (long_at d s l) t
  unfolding luma_at luma_shape
  long-both = both-passes (luma_shape d) upper (segment_strength 4 s) (λ k. l) 0 long-columns

-- ---- chroma: two each of U's row and V's, and eight of a value of each
module _ (d : Depth) (s : Four) (l m : Thresholds) where
  two_at : {x : List ℕ} (R : Thresholds → List ℕ) → x ≡ two_each (R l) (R m) s → (k : ℕ) → k < 16 → get_or x k 0 ≡ at_slot (R (u_or_v l m k)) (uv_strength s k)
  two_at R g k h = ap (λ (y : List ℕ). get_or y k 0) g ∙ two_each-at R l m s k h

  each_at : {x : List ℕ} (f : Thresholds → ℕ) → x ≡ eight_each (f l) (f m) → (k : ℕ) → k < 16 → get_or x k 0 ≡ f (u_or_v l m k)
  each_at f e k h = ap (λ (y : List ℕ). get_or y k 0) e ∙ eight_each-at f l m k h

  module _ (place : ℕ → ℕ) where
    pub short-weak : {caps al be : List ℕ} → caps ≡ two_each (cap_row d l.index) (cap_row d m.index) s → al ≡ eight_each l.alpha m.alpha
        → be ≡ eight_each l.beta m.beta → (t : Plane)
        → up_to 16 (λ k. chroma_at (capped_short d (get_or al k 0) (get_or be k 0) (get_or caps k 0)) (place k) 16) t ≡ up_to 16 (pass_of is_weak (uv_strength s) (short_at d place s l m)) t
    unfolding chroma_at chroma_shape
    short-weak e a b =
        weak-pass (chroma_shape d) place (uv_strength s) (u_or_v l m) _ _ _ (each_at (λ (n : Thresholds). n.alpha) a) (each_at (λ (n : Thresholds). n.beta) b)
        (two_at (λ (n : Thresholds). cap_row d n.index) e)

    pub short-small : {caps : List ℕ} → caps ≡ two_each (cap_row eight l.index) (cap_row eight m.index) s → (k : ℕ) → k < 16 → get_or caps k 0 ≤ 93
    short-small e k h =
        rw (two_at (λ (n : Thresholds). cap_row eight n.index) e k h) (omega (arith, cap-small (u_or_v l m k).index (slot_of (uv_strength s k))))

    pub short-strong : {pa qa al be : List ℕ} → pa ≡ strong_row l → qa ≡ strong_row m → al ≡ two_each pa qa s → be ≡ eight_each l.beta m.beta → (t : Plane)
        → up_to 16 (λ k. chroma_at (strong_short (get_or al k 0) (get_or be k 0)) (place k) 16) t ≡ up_to 16 (pass_of is_strong (uv_strength s) (short_at d place s l m)) t
    unfolding chroma_at chroma_shape
    short-strong a b c e =
        strong-pass (chroma_shape d) place (uv_strength s) (u_or_v l m) _ _ (two_at strong_row (c ∙ (λ i. two_each (a i) (b i) s))) (each_at (λ (n : Thresholds). n.beta) e)

    pub short-idle : (on : ℕ → Bool) → on 0 ≡ false → any on s ≡ false → (t : Plane) → up_to 16 (pass_of on (uv_strength s) (short_at d place s l m)) t ≡ t
    short-idle on z e t = pass-idle on (uv_strength s) (short_at d place s l m) t (λ k. no_one on s z e 2 (k % 8))

    pub short-both : (r : ℕ) → Columns place r 2 → (t : Plane)
        → up_to 16 (pass_of is_strong (uv_strength s) (short_at d place s l m)) (up_to 16 (pass_of is_weak (uv_strength s) (short_at d place s l m)) t) ≡ up_to 16 (short_at d place s l m) t
    unfolding chroma_at chroma_shape
    short-both = both-passes (chroma_shape d) place (uv_strength s) (u_or_v l m)
