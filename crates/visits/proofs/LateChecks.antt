-- The checks of a visit and its test for ready look at nothing but what `SameSight` names, so the answer is
-- the same. Assumes nothing.
use mathlib.Core.Path.{◌≡◌, refl, sym, ap, subst, ◌∙◌}
use mathlib.Core.Bool.{Bool, cond, not, ◌&&◌, ◌||◌}
use mathlib.Core.List.{List, [], ◌∷◌, ◌++◌}
use Prim.Native.Nat.{ℕ, ◌+◌, ◌-◌, ◌*◌, ◌<◌}
use native.Mathlib.Omega.{arith}
use lib.Dec.{T, eqb, leb, ltb, ltb→lt}
use lib.ListN.{length, get_or}
use Rattle.laws.specs.Refusal.{refusal, or_else}
use Rattle.laws.proofs.Bools.{and_parts, guarded}
use Rattle.laws.proofs.Grid.{row-pos}
use Rattle.laws.proofs.Some.{some_same}
use Rattle.edges.specs.Picture.{Planes}
use Rattle.sizes.specs.declared.Part.TheVariants.{Frame}
use Rattle.sizes.specs.Sizes.{outside_of}
use Rattle.slices.specs.Slicing.{Slicing, bad_number_count, bad_number, some_bad_number}
use Rattle.pictures.specs.Checks.{Lent, bad_qp, bad_strength, some_bad, some_bad_flag, some_bad_strength, picture_checks, grid_checks}
use Rattle.sizes.specs.Entries.{bad_flag}
use Rattle.visits.specs.Visit.{At, State, waiting, answer, visit}
use Rattle.visits.specs.Checks.{early_in, early_of, bad_mark, bad_marks, bad_around}
use Rattle.visits.specs.Late.{table_of, numbers_of, SameKind, both-single, both-sliced, SameEntry, of_request, SameAround, SameMarks, SameSight}
use Rattle.visits.specs.Promise.{visit_of}
use Rattle.visits.proofs.LateStep.{regridded}
use Rattle.visits.proofs.Outcome.{waiting-by-index}

-- a test of an entry behind a test whether there is one
behind : (test : ℕ → Bool) (there : Bool) (xs ys : List ℕ) (j : ℕ) → (T there → SameEntry xs ys j) → (there && test (get_or xs j 0)) ≡ (there && test (get_or ys j 0))
behind test there xs ys j h = guarded there (λ k. ap test (h k))

-- ---- marks
module _ (W : ℕ) (r : At) (ms ns : List ℕ) (a : SameMarks W r ms ns) where
  abbrev i : ℕ
  i = r.1 * W + r.0

  abbrev has_right : Bool
  has_right = ltb 0 r.1 && ltb (r.0 + 1) W

  module _ (test : ℕ → Bool) where
    at_left : (ltb 0 r.0 && test (get_or ms (i - 1) 0)) ≡ (ltb 0 r.0 && test (get_or ns (i - 1) 0))
    at_left = behind test (ltb 0 r.0) ms ns (i - 1) (λ k. a.left (ltb→lt 0 r.0 k))

    at-upper : (ltb 0 r.1 && test (get_or ms (i - W) 0)) ≡ (ltb 0 r.1 && test (get_or ns (i - W) 0))
    at-upper = behind test (ltb 0 r.1) ms ns (i - W) (λ k. a.upper (ltb→lt 0 r.1 k))

    -- by any index that is its
    at_right : (j : ℕ) → (0 < r.1 → r.0 + 1 < W → i - W + 1 ≡ j) → (has_right && test (get_or ms j 0)) ≡ (has_right && test (get_or ns j 0))
    at_right j e =
        behind test has_right ms ns j (λ k.
        let b = and_parts (ltb 0 r.1) (ltb (r.0 + 1) W) k in
        let h : 0 < r.1 = ltb→lt 0 r.1 b.0 in
        let l : r.0 + 1 < W = ltb→lt (r.0 + 1) W b.1 in
        subst (SameEntry ms ns) (e h l) (a.upper-right h l))

  marks-same : bad_marks ms W r.0 r.1 ≡ bad_marks ns W r.0 r.1
  unfolding bad_marks
  marks-same =
      let right = at_right bad_mark (i - (W - 1)) (λ h l. omega (arith, row-pos r.1 W h)) in
      λ j. bad_mark (a.own j) || at_left bad_mark j || at-upper bad_mark j || right j

  waiting-same : waiting W ms r.0 r.1 ≡ waiting W ns r.0 r.1
  waiting-same =
      waiting-by-index W ms r.0 r.1 i refl
      ∙ (λ j. at_left unset j || at-upper unset j || at_right unset (i - W + 1) (λ h l. refl) j)
      ∙ sym (waiting-by-index W ns r.0 r.1 i refl)
    where
      unset : ℕ → Bool
      unset m = not (eqb m 1)

-- ---- slices of the same kind: their number grids, and their tables where these have as many records
pub count-alike : {sl sk : Slicing} → SameKind sl sk → (n : ℕ) → bad_number_count sl n ≡ bad_number_count sk n
count-alike both-single n = refl
count-alike (both-sliced l) n = λ i. not (eqb (l i) n)

number-alike : {sl sk : Slicing} → SameKind sl sk → length (table_of sl) ≡ length (table_of sk) → (near : (ℕ → Bool) → List ℕ → Bool)
    → ((bad : ℕ → Bool) → near bad (numbers_of sl) ≡ near bad (numbers_of sk)) → some_bad_number sl near ≡ some_bad_number sk near
number-alike both-single c near h = refl
number-alike (both-sliced {u = u} {ns = ns} l) c near h = (λ i. near (leb (c i)) ns) ∙ h (bad_number u)

-- ---- what is lent: d, and other slices and grids with its size
module _ (d : Lent) (sl : Slicing) (ss qs ts : List ℕ) (r : At) (a : SameAround d (regridded d sl ss qs ts) r) where
  -- a grid of which the own, the left and the upper entry are the same
  grid-same : (bad : ℕ → Bool) (xs ys : List ℕ) → SameEntry xs ys (of_request d r) → (0 < r.0 → SameEntry xs ys (of_request d r - 1))
      → (0 < r.1 → SameEntry xs ys (of_request d r - d.size.w)) → bad_around bad xs d.size.w r.0 r.1 ≡ bad_around bad ys d.size.w r.0 r.1
  unfolding bad_around
  grid-same bad xs ys own left upper =
      let l = behind bad (ltb 0 r.0) xs ys (of_request d r - 1) (λ k. left (ltb→lt 0 r.0 k)) in
      let u = behind bad (ltb 0 r.1) xs ys (of_request d r - d.size.w) (λ k. upper (ltb→lt 0 r.1 k)) in
      λ i. bad (own i) || l i || u i

  qps-same : bad_around bad_qp d.qps d.size.w r.0 r.1 ≡ bad_around bad_qp qs d.size.w r.0 r.1
  qps-same = grid-same bad_qp d.qps qs a.own.near.qp (λ h. (a.left h).qp) (λ h. (a.upper h).qp)

  abbrev near : (ℕ → Bool) → List ℕ → Bool
  near bad xs = bad_around bad xs d.size.w r.0 r.1

  numbers-same : length (table_of d.slicing) ≡ length (table_of sl) → some_bad_number d.slicing near ≡ some_bad_number sl near
  numbers-same count =
      number-alike a.shape.slicing count near (λ bad.
      grid-same bad (numbers_of d.slicing) (numbers_of sl) a.own.near.number (λ h. (a.left h).number) (λ h. (a.upper h).number))

  flags-same : some_bad_flag (of_request d r) (of_request d r + 1) d.t8s ≡ some_bad_flag (of_request d r) (of_request d r + 1) ts
  unfolding some_bad
  flags-same = λ i. not (eqb (a.shape.t8s i) 0) && one i
    where
      one : some_bad bad_flag (of_request d r) (of_request d r + 1) d.t8s ≡ some_bad bad_flag (of_request d r) (of_request d r + 1) ts
      one =
          some_same (of_request d r + 1 - of_request d r) _ _ (λ k l.
          let e : of_request d r ≡ of_request d r + k = omega arith in
          ap bad_flag (subst (SameEntry d.t8s ts) e a.own.flag))

  strengths-same : some_bad_strength (of_request d r) (of_request d r + 1) d.strengths ≡ some_bad_strength (of_request d r) (of_request d r + 1) ss
  unfolding some_bad
  strengths-same = some_same (32 * (of_request d r + 1) - 32 * of_request d r) _ _ (λ k l. ap bad_strength (a.own.strengths k (omega arith)))

-- ---- all of them
module _ (d : Lent) (sl : Slicing) (ss qs ts : List ℕ) (s t : State Planes) (r : At) (a : SameSight d (regridded d sl ss qs ts) s t r) where
  abbrev e : Lent
  e = regridded d sl ss qs ts

  early-same : early_of d s r ≡ early_of e t r
  unfolding early_in
  early-same =
      let around = a.lent.around in
      let table = a.lent.table in
      let shape = around.shape in
      let n = d.size.w * d.size.h in
      let counts = count-alike shape.slicing n in
      let flags = flags-same d sl ss qs ts r around in
      let marks = marks-same d.size.w r s.1 t.1 a.marks in
      let qps = qps-same d sl ss qs ts r around in
      let strengths = strengths-same d sl ss qs ts r around in
      let numbers = numbers-same d sl ss qs ts r around table.count in
      λ i.
      refusal (picture_checks Frame d.size (outside_of d.size r.0 r.1) (a.planes.luma.len i) (a.planes.u.len i) (a.planes.v.len i)
      ++ grid_checks n (shape.strengths i) (shape.qps i) (shape.t8s i) (counts i || not (eqb (a.marks.len i) n)) (table.range i)
      ++ ((7, flags i || marks i) ∷ (8, qps i) ∷ (9, strengths i) ∷ (20, numbers i) ∷ (21, table.mode i) ∷ []))

  pub answer-same : (visit_of d s r).0 ≡ (visit_of e t r).0
  unfolding visit answer
  answer-same =
      let waits = waiting-same d.size.w r s.1 t.1 a.marks in
      λ i. or_else (early-same i) (cond (eqb (a.marks.own i) 1) 13 (cond (waits i) 14 0))
