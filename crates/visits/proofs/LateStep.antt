-- Filtering a macroblock looks at nothing of what is lent but what `SameAround` names, and of the planes at
-- its footprint alone. Assumes nothing.
use mathlib.Core.Path.{◌≡◌, refl, sym, ap, ◌∙◌}
use mathlib.Core.Bool.{Bool, true, false, cond, not, ◌&&◌}
use mathlib.Core.List.{List}
use Prim.Native.Nat.{ℕ, ◌-◌, ◌*◌, ◌/◌, ◌%◌, ◌<◌}
use lib.Dec.{T, eqb, ltb, ltb→lt}
use lib.IntN.{ℤ, pos}
use lib.ListN.{get_or}
use Rattle.laws.specs.Local.{Local}
use Rattle.laws.specs.Places.{Plane}
use Rattle.laws.proofs.Bools.{and-false}
use Rattle.laws.proofs.Grid.{dec_touch}
use Rattle.edges.specs.Macroblock.{Settings, luma_mb, chroma_mb}
use Rattle.edges.specs.Picture.{Planes, Held, step_of, luma_of, chroma_of, macroblock_at, settings_at, origin_of, entries, before_of}
use Rattle.sizes.specs.Entries.{flag_at}
use Rattle.edges.proofs.Local.{luma_both-by, chroma_both-by}
use Rattle.edges.proofs.Pictures.{step-index}
use Rattle.edges.proofs.Steps.{luma-foot, chroma-foot}
use Rattle.slices.specs.Slicing.{Slicing, offset_a, offset_b, chroma_offsets, filters, filters_edge, filters_inside, filters_toward}
use Rattle.slices.specs.Table.{record_of}
use Rattle.slices.specs.declared.ChromaOffsets.{ChromaOffsets}
use Rattle.slices.specs.declared.SliceRecord.{SliceRecord}
use Rattle.pictures.specs.Checks.{Lent, lent_by, held_of}
use Rattle.visits.specs.Visit.{At}
use Rattle.visits.specs.Late.{SamePlane, SameAt, NearFoot, OffFoot, table_of, numbers_of, SameKind, both-single, both-sliced, SameEntry, of_request, SameAround}

-- ---- planes: as they were outside the footprint
local-off : {F : ℕ → Type 0} {f : Plane → Plane} {s : Plane} → Local F f → SamePlane (λ p. F p → ⊥) s (f s)
local-off {s = s} l = record { len = sym (l.len s); samples = λ p o. sym (l.out s p o) }

-- .. and the same where they were the same, if that has all of the footprint
local-more : {F G : ℕ → Type 0} {f : Plane → Plane} {s t : Plane} → Local F f → ((k : ℕ) → Dec (F k)) → ((k : ℕ) → F k → G k) → SamePlane G s t → SamePlane G (f s) (f t)
local-more {F} {G} {f} {s} {t} l dec sub e = record { len = l.len s ∙ e.len ∙ sym (l.len t); samples = λ k h. at k h (dec k) }
  where
    at : (k : ℕ) → G k → Dec (F k) → get_or (f s) k 0 ≡ get_or (f t) k 0
    at k h (yes x) = l.same s t e.len (λ j y. e.samples j (sub j y)) k x
    at k h (no x) = l.out s k x ∙ e.samples k h ∙ sym (l.out t k x)

module _ (g : Held) (wide : 0 < g.w) (i : ℕ) (p q : Planes) where
  pub step-more : {G : ℕ → ℕ → Type 0} → ((N k : ℕ) → NearFoot g.w i N k → G N k) → SameAt G p q → SameAt G (step_of g i p) (step_of g i q)
  unfolding macroblock_at
  step-more sub a = record {
    luma = local-more (luma-foot g wide i) (foot 16) (sub 16) a.luma;
    u = local-more (chroma-foot g wide i g.u) (foot 8) (sub 8) a.u;
    v = local-more (chroma-foot g wide i g.v) (foot 8) (sub 8) a.v;
  }
    where
      foot : (N k : ℕ) → Dec (NearFoot g.w i N k)
      foot N k = dec_touch (i % g.w) (i / g.w) (k % (N * g.w) / N) (k / (N * g.w) / N)

  pub step-off : SameAt (OffFoot g.w i) p (step_of g i p)
  unfolding macroblock_at
  step-off = record {
    luma = local-off (luma-foot g wide i);
    u = local-off (chroma-foot g wide i g.u);
    v = local-off (chroma-foot g wide i g.v);
  }

-- ---- slices of the same kind say the same of macroblock i, where the record of its slice and the numbers
-- that mode 2 compares are the same
abbrev SameRecord : Slicing → Slicing → ℕ → Type 0
SameRecord sl sk i = record_of (table_of sl) (get_or (numbers_of sl) i 0) ≡ record_of (table_of sk) (get_or (numbers_of sk) i 0)

chroma-alike : {sl sk : Slicing} → SameKind sl sk → chroma_offsets sl ≡ chroma_offsets sk
chroma-alike both-single = refl
chroma-alike (both-sliced l) = refl

a-alike : {sl sk : Slicing} → SameKind sl sk → (i : ℕ) → SameRecord sl sk i → offset_a sl i ≡ offset_a sk i
a-alike both-single i r = refl
a-alike (both-sliced l) i r = ap (λ (s : SliceRecord). s.a) r

b-alike : {sl sk : Slicing} → SameKind sl sk → (i : ℕ) → SameRecord sl sk i → offset_b sl i ≡ offset_b sk i
b-alike both-single i r = refl
b-alike (both-sliced l) i r = ap (λ (s : SliceRecord). s.b) r

inside-alike : {sl sk : Slicing} → SameKind sl sk → (i : ℕ) → SameRecord sl sk i → filters_inside sl i ≡ filters_inside sk i
inside-alike both-single i r = refl
inside-alike (both-sliced l) i r = ap filters r

-- the edge to the macroblock k places before, where there is one
toward-alike : (there : Bool) (k : ℕ) {sl sk : Slicing} → SameKind sl sk → (i : ℕ) → SameRecord sl sk i → SameEntry (numbers_of sl) (numbers_of sk) i
    → (T there → SameEntry (numbers_of sl) (numbers_of sk) (i - k)) → (filters_toward k sl i && there) ≡ (filters_toward k sk i && there)
toward-alike false k {sl} {sk} kind i r own other = and-false (filters_toward k sl i) refl ∙ sym (and-false (filters_toward k sk i) refl)
toward-alike true k both-single i r own other = refl
toward-alike true k (both-sliced l) i r own other = λ j. filters_edge (r j) (own j) (other tt j) && true

-- ---- what is lent: d, and other slices and grids with its size
abbrev pub regridded : Lent → Slicing → List ℕ → List ℕ → List ℕ → Lent
regridded d sl ss qs ts = lent_by d.size sl ss qs ts

module _ (d : Lent) (sl : Slicing) (ss qs ts : List ℕ) (r : At) (a : SameAround d (regridded d sl ss qs ts) r) where
  abbrev e : Lent
  e = regridded d sl ss qs ts

  abbrev mine : Settings
  mine = settings_at (held_of d) r.0 r.1

  abbrev theirs : Settings
  theirs = settings_at (held_of e) r.0 r.1

  -- the QP of the neighbour k places before, or its own where there is none
  before_same : (b : Bool) (k : ℕ) → (T b → SameEntry d.qps qs (of_request d r - k))
      → pos (entries d.qps (before_of b (of_request d r) k)) ≡ pos (entries qs (before_of b (of_request d r) k))
  before_same true k h = ap pos (h tt)
  before_same false k h = ap pos a.own.near.qp

  qp-left-same : mine.qp_left ≡ theirs.qp_left
  qp-left-same = before_same (ltb 0 r.0) 1 (λ t. (a.left (ltb→lt 0 r.0 t)).qp)

  qp-above-same : mine.qp_above ≡ theirs.qp_above
  qp-above-same = before_same (ltb 0 r.1) d.size.w (λ t. (a.upper (ltb→lt 0 r.1 t)).qp)

  flag_same : mine.t8 ≡ theirs.t8
  unfolding flag_at
  flag_same = λ i. cond (eqb (a.shape.t8s i) 0) false (not (eqb (a.own.flag i) 0))

  -- the edges that are filtered
  edge_same : (there : Bool) (k : ℕ) → (T there → SameEntry (numbers_of d.slicing) (numbers_of sl) (of_request d r - k))
      → (filters_toward k d.slicing (of_request d r) && there) ≡ (filters_toward k sl (of_request d r) && there)
  edge_same there k h = toward-alike there k a.shape.slicing (of_request d r) a.own.slice a.own.near.number h

  left-same : mine.left ≡ theirs.left
  left-same = edge_same (ltb 0 r.0) 1 (λ t. (a.left (ltb→lt 0 r.0 t)).number)

  top-same : mine.top ≡ theirs.top
  top-same = edge_same (ltb 0 r.1) d.size.w (λ t. (a.upper (ltb→lt 0 r.1 t)).number)

  -- d's settings with the other strengths
  abbrev mixed : Settings
  mixed = record {
    left = mine.left;
    top = mine.top;
    inner = mine.inner;
    t8 = mine.t8;
    qp = mine.qp;
    qp_left = mine.qp_left;
    qp_above = mine.qp_above;
    a = mine.a;
    b = mine.b;
    strengths = theirs.strengths;
  }

  mixed-same : mixed ≡ theirs
  mixed-same = λ i. record {
    left = left-same i;
    top = top-same i;
    inner = inside-alike a.shape.slicing (of_request d r) a.own.slice i;
    t8 = flag_same i;
    qp = pos (a.own.near.qp i);
    qp_left = qp-left-same i;
    qp_above = qp-above-same i;
    a = a-alike a.shape.slicing (of_request d r) a.own.slice i;
    b = b-alike a.shape.slicing (of_request d r) a.own.slice i;
    strengths = theirs.strengths;
  }

  luma-same : (p : Plane) → luma_of (held_of d) r.0 r.1 p ≡ luma_of (held_of e) r.0 r.1 p
  unfolding luma_of
  luma-same p =
      luma_both-by mine.strengths theirs.strengths a.own.strengths _ _ _ _ p _ _ _
      ∙ ap (λ (s : Settings). luma_mb (held_of d).depth s (origin_of 16 d.size.w r.0 r.1) (16 * d.size.w) p) mixed-same

  chroma-same : {m n : ℤ} → m ≡ n → (p : Plane) → chroma_of (held_of d) m r.0 r.1 p ≡ chroma_of (held_of e) n r.0 r.1 p
  unfolding chroma_of
  chroma-same offset p =
      chroma_both-by mine.strengths theirs.strengths a.own.strengths _ _ _ _ p _ _ _
      ∙ (λ i. chroma_mb (held_of d).depth (mixed-same i) (offset i) (origin_of 8 d.size.w r.0 r.1) (8 * d.size.w) p)

  macroblock-same : (p : Planes) → macroblock_at (held_of d) r.0 r.1 p ≡ macroblock_at (held_of e) r.0 r.1 p
  unfolding macroblock_at
  macroblock-same p =
      let offsets = chroma-alike a.shape.slicing in
      λ i.
      record {
        luma = luma-same p.luma i;
        u = chroma-same (ap (λ (c : ChromaOffsets). c.u) offsets) p.u i;
        v = chroma-same (ap (λ (c : ChromaOffsets). c.v) offsets) p.v i;
      }

  pub step_same : r.0 < d.size.w → (p : Planes) → step_of (held_of d) (of_request d r) p ≡ step_of (held_of e) (of_request d r) p
  step_same h p = step-index (held_of d) r.0 r.1 h p ∙ macroblock-same p ∙ sym (step-index (held_of e) r.0 r.1 h p)
