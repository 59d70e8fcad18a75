-- What follows the first picture of a stream is not looked at. Assumes nothing.
use Prim.Native.Nat.{ℕ, suc, ◌+◌, ◌*◌, ◌<◌, ◌≤◌}
use mathlib.Core.Path.{◌≡◌, refl, sym, ap, ◌∙◌}
use mathlib.Core.Bool.{Bool, true, false, cond, not, ◌&&◌}
use mathlib.Core.List.{List, [], ◌∷◌, ◌++◌}
use mathlib.Core.Logic.{⊎_elim}
use borrow.Author.Tests.{le-leb, leb-true, le-ltb, ltb-false, not-false}
use native.Mathlib.Nat.{le_of_suc-le-suc, not-suc-le-zero, add-zero}
use native.Mathlib.Omega.{arith}
use lib.Dec.{eqb, leb, ltb}
use lib.ListN.{length, take, drop, length-append, length-drop}
use lib.Seq.{drop-append-le, take-append-le}
use Rattle.laws.specs.Refusal.{refusal}
use Rattle.laws.proofs.Bools.{and-true}
use Rattle.laws.proofs.Ints.{le-or-lt}
use Rattle.laws.proofs.Refusal.{passes, none-applies, first-passed, refusal-left, skip}
use Rattle.sizes.specs.Sizes.{bad_planes}
use Rattle.sizes.specs.declared.Size.{Size}
use Rattle.y4m.specs.Text.{parts, part, on_first, lines_of, ascii}
use Rattle.y4m.specs.Stream.{header, frame_line, good_header, well_formed, malformed, other_planes, bad_sides, size_in, planes_at, cut_short, count, luma_read, u_read, v_read}
use Rattle.y4m.specs.Calls.{found, if_done, size_said, macroblocks, stream_checks, read_checks, ReadOutcome}
use Rattle.y4m.specs.declared.Found.{Found}
use Rattle.y4m.proofs.Parts.{first_rest, first-grows, some-part, parts-found, parts_none}

-- ---- a part that ends is the same whatever follows
first-append : (b : ℕ) (l t : List ℕ) → length (part 0 (parts b l)) < length l → part 0 (parts b (l ++ t)) ≡ part 0 (parts b l)
first-append b [] t h = absurd (not-suc-le-zero h)
first-append b (x ∷ xs) t h = go (eqb x b) (parts b xs) (parts b (xs ++ t)) (first_rest b xs) (first_rest b (xs ++ t)) h (first-append b xs t)
  where
    go : (e : Bool) (ps qs : List (List ℕ)) → ps ≡ part 0 ps ∷ drop 1 ps → qs ≡ part 0 qs ∷ drop 1 qs
        → length (part 0 (cond e ([] ∷ ps) (on_first x ps))) < suc (length xs)
        → (length (part 0 ps) < length xs → part 0 qs ≡ part 0 ps)
        → part 0 (cond e ([] ∷ qs) (on_first x qs)) ≡ part 0 (cond e ([] ∷ ps) (on_first x ps))
    go true ps qs p q k f = refl
    go false ps qs p q k f =
        let g = first-grows x ps p in
        let l : length (part 0 ps) < length xs = le_of_suc-le-suc (rw g at k) in
        ap (part 0) (first-grows x qs q) ∙ ap (λ (w : List ℕ). x ∷ w) (f l) ∙ sym (ap (part 0) g)

parts-append : (b : ℕ) (l t : List ℕ) → length (part 0 (parts b l)) < length l
    → parts b (l ++ t) ≡ part 0 (parts b l) ∷ parts b (drop (suc (length (part 0 (parts b l)))) l ++ t)
parts-append b l t h =
    let e = first-append b l t h in
    let n = length-append l t in
    let m = ap length e in
    parts-found b (l ++ t) (omega arith)
    ∙ (λ i. e i ∷ parts b (drop (suc (length (e i))) (l ++ t)))
    ∙ ap (λ (r : List ℕ). part 0 (parts b l) ∷ parts b r) (drop-append-le (suc (length (part 0 (parts b l)))) l t h)

-- several parts: the first one ends
first_ends : (b : ℕ) (l : List ℕ) → 2 ≤ length (parts b l) → length (part 0 (parts b l)) < length l
first_ends b l h =
    ⊎_elim (λ k. absurd (let z = ap length (parts_none b l k) in omega arith)) (λ k. k) (le-or-lt (length l) (length (part 0 (parts b l))))

-- ---- a stream whose two lines end
module _ (s t : List ℕ) (three : leb 3 (length (lines_of s)) ≡ true) where
  first_short : length (header s) < length s
  first_short = let l = leb-true 3 (length (lines_of s)) three in first_ends 10 s (omega arith)

  -- what is behind the first line
  abbrev rest : List ℕ
  rest = drop (suc (length (header s))) s

  lines_are : lines_of s ≡ header s ∷ lines_of rest
  lines_are = parts-found 10 s first_short

  second_short : length (part 0 (lines_of rest)) < length rest
  second_short =
      let l = leb-true 3 (length (lines_of s)) three in
      let e = ap length lines_are in
      first_ends 10 rest (omega arith)

  longer-are : lines_of (s ++ t) ≡ header s ∷ part 0 (lines_of rest) ∷ lines_of (drop (suc (length (part 0 (lines_of rest)))) rest ++ t)
  longer-are = parts-append 10 s t first_short ∙ ap (λ (ls : List (List ℕ)). header s ∷ ls) (parts-append 10 rest t second_short)

  same-header : header (s ++ t) ≡ header s
  same-header = ap (part 0) longer-are

  same-frame : frame_line (s ++ t) ≡ frame_line s
  same-frame = ap (part 1) longer-are ∙ sym (ap (part 1) lines_are)

  same-three : leb 3 (length (lines_of (s ++ t))) ≡ true
  same-three =
      let m = some-part 10 (drop (suc (length (part 0 (lines_of rest)))) rest ++ t) in
      let e = ap length longer-are in
      le-leb 3 (length (lines_of (s ++ t))) (omega arith)

  same_lines : malformed (s ++ t) ≡ malformed s
  unfolding malformed
  same_lines =
      let e : leb 3 (length (lines_of (s ++ t))) ≡ leb 3 (length (lines_of s)) = same-three ∙ sym three in
      λ i. not (e i && good_header (same-header i) && well_formed (ascii "FRAME") (same-frame i))

  same_place : planes_at (s ++ t) ≡ planes_at s
  unfolding planes_at
  same_place = λ i. length (same-header i) + 1 + (length (same-frame i) + 1)

-- ---- what is read of a stream is the same, whatever is put behind it
three-lines : (s : List ℕ) → malformed s ≡ false → leb 3 (length (lines_of s)) ≡ true
unfolding malformed
three-lines s e =
    let k = not-false (leb 3 (length (lines_of s)) && good_header (header s) && well_formed (ascii "FRAME") (frame_line s)) e in
    (and-true _ _ (and-true _ (well_formed (ascii "FRAME") (frame_line s)) k).0).0

module _ (s t : List ℕ) (passed : refusal (stream_checks s) ≡ 0) where
  three-of : leb 3 (length (lines_of s)) ≡ true
  three-of = three-lines s (passes 15 (stream_checks s) tt passed)

  long : planes_at s + 384 * macroblocks s ≤ length s
  long = ltb-false (length s) (planes_at s + 384 * macroblocks s) (passes 18 (stream_checks s) tt passed)

  pub same_size : size_said (s ++ t) ≡ size_said s
  same_size = ap size_in (same-header s t three-of)

  pub still-passed : refusal (stream_checks (s ++ t)) ≡ 0
  still-passed =
      let h = same-header s t three-of in
      let l = length-append s t in
      let n = long in
      let cut : cut_short (macroblocks (s ++ t)) (s ++ t) ≡ false =
      (λ i. ltb (length (s ++ t)) (same_place s t three-of i + 384 * count (same_size i)))
      ∙ le-ltb (length (s ++ t)) (planes_at s + 384 * macroblocks s) (omega arith) in
      none-applies (stream_checks (s ++ t)) (
        same_lines s t three-of ∙ passes 15 (stream_checks s) tt passed,
        (ap other_planes h ∙ passes 16 (stream_checks s) tt passed, (ap bad_sides h ∙ passes 17 (stream_checks s) tt passed, (cut, tt))),
      )

  -- so many bytes from a place of the planes on
  same_bytes : (k n : ℕ) → k + n ≤ 384 * macroblocks s → take n (drop (planes_at (s ++ t) + k) (s ++ t)) ≡ take n (drop (planes_at s + k) s)
  same_bytes k n h =
      let l = long in
      let d = length-drop (planes_at s + k) s in
      ap (λ (p : ℕ). take n (drop (p + k) (s ++ t))) (same_place s t three-of)
      ∙ ap (take n) (drop-append-le (planes_at s + k) s t (omega arith))
      ∙ take-append-le n (drop (planes_at s + k) s) t (omega arith)

  same-luma : luma_read (macroblocks (s ++ t)) (s ++ t) ≡ luma_read (macroblocks s) s
  same-luma =
      let n = macroblocks s in
      ap (λ (o : Size). luma_read (count o) (s ++ t)) same_size
      ∙ ap (λ (p : ℕ). take (256 * n) (drop p (s ++ t))) (sym (add-zero (planes_at (s ++ t))))
      ∙ same_bytes 0 (256 * n) (omega arith)
      ∙ ap (λ (p : ℕ). take (256 * n) (drop p s)) (add-zero (planes_at s))

  same-u : u_read (macroblocks (s ++ t)) (s ++ t) ≡ u_read (macroblocks s) s
  same-u = ap (λ (o : Size). u_read (count o) (s ++ t)) same_size ∙ same_bytes (256 * macroblocks s) (64 * macroblocks s) (omega arith)

  same-v : v_read (macroblocks (s ++ t)) (s ++ t) ≡ v_read (macroblocks s) s
  same-v = ap (λ (o : Size). v_read (count o) (s ++ t)) same_size ∙ same_bytes (320 * macroblocks s) (64 * macroblocks s) (omega arith)

-- ---- the call, as its contract tells of it: what is read of a stream is read of every longer one
pub rest-unread : (s t luma u v : List ℕ) {luma₁ u₁ v₁ luma₂ u₂ v₂ : List ℕ} {r q : Found} → ReadOutcome s luma u v r luma₁ u₁ v₁
    → r.number ≡ 0 → ReadOutcome (s ++ t) luma u v q luma₂ u₂ v₂ → (q ≡ r) × (luma₂ ≡ luma₁) × (u₂ ≡ u₁) × (v₂ ≡ v₁)
rest-unread s t luma u v a z b =
    let cs = read_checks s (length luma) (length u) (length v) in
    let n : refusal cs ≡ 0 = sym (ap (λ (f : Found). f.number) a.answer) ∙ z in
    let p : refusal (stream_checks s) ≡ 0 = refusal-left (stream_checks s) ((3, bad_planes (macroblocks s) (length luma) (length u) (length v)) ∷ []) tt n in
    let e = same_size s t p in
    let three : bad_planes (macroblocks (s ++ t)) (length luma) (length u) (length v) ≡ false =
    ap (λ (o : Size). bad_planes (count o) (length luma) (length u) (length v)) e ∙ passes 3 cs tt n in
    let m : refusal (read_checks (s ++ t) (length luma) (length u) (length v)) ≡ 0 =
    sym (first-passed (stream_checks (s ++ t)) ((3, bad_planes (macroblocks (s ++ t)) (length luma) (length u) (length v)) ∷ []) tt (still-passed s t p) (skip 3 three refl)) in (
      b.answer ∙ (λ i. found (m i) (e i)) ∙ sym (a.answer ∙ ap (λ (k : ℕ). found k (size_said s)) n),
      b.luma ∙ (λ i. if_done (m i) (same-luma s t p i) luma) ∙ sym (a.luma ∙ ap (λ (k : ℕ). if_done k (luma_read (macroblocks s) s) luma) n),
      b.u ∙ (λ i. if_done (m i) (same-u s t p i) u) ∙ sym (a.u ∙ ap (λ (k : ℕ). if_done k (u_read (macroblocks s) s) u) n),
      b.v ∙ (λ i. if_done (m i) (same-v s t p i) v) ∙ sym (a.v ∙ ap (λ (k : ℕ). if_done k (v_read (macroblocks s) s) v) n),
    )
