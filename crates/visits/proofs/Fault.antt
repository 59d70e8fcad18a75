-- The fault of the old release, with the real filter: on the picture of Fault.antt its rule allows an order
-- after which a luma sample is another one than in raster order. The samples are computed; chroma may be
-- anything. Assumes nothing.
use mathlib.Core.Path.{◌≡◌, refl, sym, ap, ◌∙◌}
use mathlib.Core.Bool.{true}
use mathlib.Core.List.{List, [], ◌∷◌}
use Prim.Native.Nat.{ℕ}
use native.Mathlib.Omega.{arith}
use lib.Dec.{T, leb, leb→le}
use lib.ListN.{length, get_or}
use Rattle.laws.specs.Clip.{clip3, clip1}
use Rattle.laws.specs.Loop.{up_to}
use Rattle.laws.specs.Places.{Plane}
use Rattle.laws.proofs.Bools.{and_parts}
use Rattle.laws.proofs.Table.{bounded, at_most}
use Rattle.lines.specs.Filter.{delta_of}
use Rattle.lines.specs.Tables.{alphas, betas, tc0s}
use Rattle.lines.specs.Thresholds.{average, index_of}
use Rattle.lines.specs.Luma.{nudge_of, inner_of, luma_normal, normal_line, luma_line}
use Rattle.lines.specs.Planes.{luma_at}
use Rattle.edges.specs.Edge.{luma_rule, luma_edge}
use Rattle.edges.specs.Macroblock.{luma_way, luma_both}
use Rattle.edges.specs.Picture.{Planes, planes, luma_of, macroblock_at, step_of}
use Rattle.sizes.specs.Entries.{flag_at}
use Rattle.visits.specs.Visit.{State, run, answers, itself}
use Rattle.visits.specs.AnyOrder.{Demand3}
use Rattle.visits.specs.Old.{old_visit, old_order, raster_order}
use Rattle.visits.specs.Checks.{early_of, Sound, Fit}
use Rattle.visits.specs.Promise.{visit_of, unvisited}
use Rattle.visits.specs.Fault.{band, fault_luma, fault_strengths, fault_lent, fault_held}
use Rattle.visits.proofs.Instance.{fit-kept, none_over, passes-valid}
use Rattle.visits.proofs.Old.{OldClear, RasterClear, old-allows, old-ends, old-refuted, raster-ends}

fault-sound : Sound fault_lent
fault-sound = record { sides = refl; lengths = refl; numbers = refl; range = refl; flag = none_over 1 [] tt; qp = none_over 51 (40 ∷ 40 ∷ 40 ∷ 40 ∷ []) tt; strength = none_over 4 fault_strengths tt; number = λ i. refl; mode = refl }

module _ (u v : Plane) (lu : length u ≡ 256) (lv : length v ≡ 256) where
  abbrev pub fault_start : Planes
  fault_start = planes fault_luma u v

  abbrev pub fault_step : ℕ → Planes → Planes
  fault_step = step_of fault_held

  -- ---- sample (15, 15) of luma
  samples : (get_or (fault_step 3 (fault_step 1 (fault_step 2 (fault_step 0 fault_start)))).luma 495 0 ≡ 102) × (get_or (fault_step 3 (fault_step 2 (fault_step 1 (fault_step 0 fault_start)))).luma 495 0 ≡ 103)
  unfolding band fault_luma macroblock_at luma_of flag_at up_to luma_rule luma_edge luma_way luma_both luma_at luma_line normal_line luma_normal nudge_of inner_of delta_of clip3 clip1 average index_of alphas betas tc0s
  samples = (refl, refl)

  -- ---- no earlier check applies to any visit inside the picture
  fit : Fit fault_lent fault_start
  unfolding band fault_luma
  fit = record { luma = refl; u = lu; v = lv }

  fit-0 : Fit fault_lent (fault_step 0 fault_start)
  fit-0 = fit-kept fault_lent 0 fault_start fit

  clear : (p : Planes) → Fit fault_lent p → (ms : List ℕ) → length ms ≡ 4 → T (bounded 1 ms) → (x y : ℕ) → T (bounded 1 (x ∷ y ∷ []))
      → early_of fault_lent (p, ms) (x, y) ≡ 0
  clear p f ms l b x y h =
      let k = and_parts (leb x 1) (bounded 1 (y ∷ [])) h in
      let m = and_parts (leb y 1) true k.1 in
      passes-valid fault_lent fault-sound (p, ms) f l (at_most 1 ms b) x y (omega (arith, leb→le x 1 k.0)) (omega (arith, leb→le y 1 m.0))

  pub old-clear : OldClear fault_step (early_of fault_lent) fault_start
  old-clear =
      let f = fit-kept fault_lent 2 (fault_step 0 fault_start) fit-0 in
      record {
        first = clear fault_start fit (0 ∷ 0 ∷ 0 ∷ 0 ∷ []) refl tt 0 0 tt;
        second = clear (fault_step 0 fault_start) fit-0 (1 ∷ 0 ∷ 0 ∷ 0 ∷ []) refl tt 0 1 tt;
        third = clear (fault_step 2 (fault_step 0 fault_start)) f (1 ∷ 0 ∷ 1 ∷ 0 ∷ []) refl tt 1 0 tt;
        fourth = clear (fault_step 1 (fault_step 2 (fault_step 0 fault_start))) (fit-kept fault_lent 1 _ f) (1 ∷ 1 ∷ 1 ∷ 0 ∷ []) refl tt 1 1 tt;
      }

  raster-clear : RasterClear fault_step (early_of fault_lent) fault_start
  raster-clear =
      let f = fit-kept fault_lent 1 (fault_step 0 fault_start) fit-0 in
      record {
        first = clear fault_start fit (0 ∷ 0 ∷ 0 ∷ 0 ∷ []) refl tt 0 0 tt;
        second = clear (fault_step 0 fault_start) fit-0 (1 ∷ 0 ∷ 0 ∷ 0 ∷ []) refl tt 1 0 tt;
        third = clear (fault_step 1 (fault_step 0 fault_start)) f (1 ∷ 1 ∷ 0 ∷ 0 ∷ []) refl tt 0 1 tt;
        fourth = clear (fault_step 2 (fault_step 1 (fault_step 0 fault_start))) (fit-kept fault_lent 2 _ f) (1 ∷ 1 ∷ 1 ∷ 0 ∷ []) refl tt 1 1 tt;
      }

  -- ---- the old rule: each visit is done, and the sample is 102
  pub old-allowed : answers (old_visit 2 fault_step (early_of fault_lent)) old_order (unvisited fault_lent fault_start) ≡ 0 ∷ 0 ∷ 0 ∷ 0 ∷ []
  old-allowed = old-allows fault_step (early_of fault_lent) fault_start old-clear

  pub old-102 : get_or (run (old_visit 2 fault_step (early_of fault_lent)) old_order (unvisited fault_lent fault_start)).0.luma 495 0 ≡ 102
  old-102 = ap (λ (s : State Planes). get_or s.0.luma 495 0) (old-ends fault_step (early_of fault_lent) fault_start old-clear) ∙ samples.0

  -- raster order, as our visit allows it: 103
  pub raster-103 : get_or (run (visit_of fault_lent) raster_order (unvisited fault_lent fault_start)).0.luma 495 0 ≡ 103
  raster-103 = ap (λ (s : State Planes). get_or s.0.luma 495 0) (raster-ends fault_step (early_of fault_lent) fault_start raster-clear) ∙ samples.1

  -- so demand 3 does not hold of the old release
  pub old-refuted-here : Demand3 2 2 fault_step (early_of fault_lent) itself (old_visit 2 fault_step (early_of fault_lent)) → ⊥
  old-refuted-here =
      old-refuted fault_step (early_of fault_lent) fault_start old-clear
      (λ e. let k = sym samples.0 ∙ ap (λ (p : Planes). get_or p.luma 495 0) e ∙ samples.1 in omega arith)
