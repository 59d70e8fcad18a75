-- Apart: demand 3 does not ask for it. Data that arrive late: what a visit looks at, and calls between which
-- the caller goes on writing what belongs to macroblocks that are not marked yet.
use Rattle.std.specs.Prelude.{ℕ, suc, ◌+◌, ◌-◌, ◌*◌, ◌/◌, ◌%◌, ◌≤◌, ◌<◌, ◌≡◌, ◌≢◌, List, [], ◌∷◌, length, get_or}
use Rattle.laws.specs.Foot.{Foot}
use Rattle.laws.specs.Local.{Agree}
use Rattle.laws.specs.Places.{Plane}
use Rattle.laws.specs.Raster.{Marked}
use Rattle.edges.specs.Picture.{Planes}
use Rattle.sizes.specs.declared.Part.TheVariants.{Frame}
use Rattle.edges.specs.declared.Offsets.{Offsets}
use Rattle.slices.specs.Slicing.{Slicing, single, sliced, bad_slice_offset, bad_slice_mode}
use Rattle.slices.specs.Table.{record_of}
use Rattle.slices.specs.declared.ChromaOffsets.{ChromaOffsets}
use Rattle.slices.specs.declared.SliceRecord.{SliceRecord}
use Rattle.pictures.specs.Checks.{Lent}
use Rattle.visits.specs.Visit.{At, State, run, answers}
use Rattle.visits.specs.Promise.{visit_of, unvisited, VisitOutcome}

-- ---- samples
-- two planes have the same length, and the same samples at the places of F
pub record SamePlane (F : ℕ → Type 0) (s t : Plane) : Type 0 where
  pub len : length s ≡ length t
  pub samples : Agree F s t

-- .. and three planes. F N are places of a plane of N by N samples a macroblock
pub record SameAt (F : ℕ → ℕ → Type 0) (p q : Planes) : Type 0 where
  pub luma : SamePlane (F 16) p.luma q.luma
  pub u : SamePlane (F 8) p.u q.u
  pub v : SamePlane (F 8) p.v q.v

-- the places of macroblock i and of its left and upper neighbours, in a picture W wide; all other places
abbrev pub NearFoot : ℕ → ℕ → ℕ → ℕ → Type 0
NearFoot W i N p = Foot N W i p

abbrev pub OffFoot : ℕ → ℕ → ℕ → ℕ → Type 0
OffFoot W i N p = Foot N W i p → ⊥

-- ---- what is lent beside planes and marks
-- the table and the numbers of slices: for one pair of offsets there are none
abbrev pub table_of : Slicing → List SliceRecord
table_of (single o) = []
table_of (sliced c t ns) = t

abbrev pub numbers_of : Slicing → List ℕ
numbers_of (single o) = []
numbers_of (sliced c t ns) = ns

-- the same offsets for the picture, or slices with the same chroma offsets and as many numbers; the tables
-- may differ
pub data SameKind : Slicing → Slicing → Type 0 where
  both-single : {o : Offsets} → SameKind (single o) (single o)
  both-sliced : {c : ChromaOffsets} {t u : List SliceRecord} {ns ms : List ℕ} → length ns ≡ length ms → SameKind (sliced c t ns) (sliced c u ms)

-- the same size, offsets as above, and grids of the same lengths
pub record SameShape (d e : Lent) : Type 0 where
  pub size : d.size ≡ e.size
  pub slicing : SameKind d.slicing e.slicing
  pub strengths : length d.strengths ≡ length e.strengths
  pub qps : length d.qps ≡ length e.qps
  pub t8s : length d.t8s ≡ length e.t8s

abbrev pub SameEntry : List ℕ → List ℕ → ℕ → Type 0
SameEntry xs ys i = get_or xs i 0 ≡ get_or ys i 0

-- of macroblock i the same QP and the same slice number: what visits of its neighbours read too
pub record SameNear (d e : Lent) (i : ℕ) : Type 0 where
  pub qp : SameEntry d.qps e.qps i
  pub number : SameEntry (numbers_of d.slicing) (numbers_of e.slicing) i

-- .. and the same 32 strengths, the same flag, and the same record of its slice
pub record SameData (d e : Lent) (i : ℕ) : Type 0 where
  pub near : SameNear d e i
  pub strengths : (k : ℕ) → k < 32 → SameEntry d.strengths e.strengths (32 * i + k)
  pub flag : SameEntry d.t8s e.t8s i
  pub slice : record_of (table_of d.slicing) (get_or (numbers_of d.slicing) i 0) ≡ record_of (table_of e.slicing) (get_or (numbers_of e.slicing) i 0)

-- of the tables: as many records, and checks 6 and 21 come to the same
pub record SameTable (d e : Lent) : Type 0 where
  pub count : length (table_of d.slicing) ≡ length (table_of e.slicing)
  pub range : bad_slice_offset d.slicing ≡ bad_slice_offset e.slicing
  pub mode : bad_slice_mode d.slicing ≡ bad_slice_mode e.slicing

-- the macroblock that a request names
abbrev pub of_request : Lent → At → ℕ
of_request d r = r.1 * d.size.w + r.0

-- what a visit of r filters by: the data of its macroblock, and the QPs and slice numbers of the left and the
-- upper neighbour where these exist
pub record SameAround (d e : Lent) (r : At) : Type 0 where
  pub shape : SameShape d e
  pub own : SameData d e (of_request d r)
  pub left : 0 < r.0 → SameNear d e (of_request d r - 1)
  pub upper : 0 < r.1 → SameNear d e (of_request d r - d.size.w)

-- .. and all that it reads, since checks 6 and 21 look at the whole table
pub record SameLent (d e : Lent) (r : At) : Type 0 where
  pub around : SameAround d e r
  pub table : SameTable d e

-- ---- marks
-- as many marks, and the same own, left, upper and upper right mark, where these neighbours exist
pub record SameMarks (W : ℕ) (r : At) (ms ns : List ℕ) : Type 0 where
  pub len : length ms ≡ length ns
  pub own : SameEntry ms ns (r.1 * W + r.0)
  pub left : 0 < r.0 → SameEntry ms ns (r.1 * W + r.0 - 1)
  pub upper : 0 < r.1 → SameEntry ms ns (r.1 * W + r.0 - W)
  pub upper-right : 0 < r.1 → r.0 + 1 < W → SameEntry ms ns (r.1 * W + r.0 - W + 1)

-- ---- one visit of r: with d lent in the state s, with e lent in the state t
-- all that it looks at is the same
pub record SameSight (d e : Lent) (s t : State Planes) (r : At) : Type 0 where
  pub lent : SameLent d e r
  pub planes : SameAt (NearFoot d.size.w (of_request d r)) s.0 t.0
  pub marks : SameMarks d.size.w r s.1 t.1

-- the answer is the same, and so are those samples and marks afterwards
pub record SameOutcome (d e : Lent) (s t : State Planes) (r : At) : Type 0 where
  pub number : (visit_of d s r).0 ≡ (visit_of e t r).0
  pub planes : SameAt (NearFoot d.size.w (of_request d r)) (visit_of d s r).1.0 (visit_of e t r).1.0
  pub marks : SameMarks d.size.w r (visit_of d s r).1.1 (visit_of e t r).1.1

-- all else stays: lengths, the samples at all other places, all marks but its own
pub record RestStays (d : Lent) (s : State Planes) (r : At) : Type 0 where
  pub planes : SameAt (OffFoot d.size.w (of_request d r)) s.0 (visit_of d s r).1.0
  pub marks : (i : ℕ) → i ≢ of_request d r → SameEntry s.1 (visit_of d s r).1.1 i
  pub len : length s.1 ≡ length (visit_of d s r).1.1

-- ---- calls between which data arrive
-- the places of those macroblocks of which M holds
abbrev pub SamplesOf : ℕ → (ℕ → Type 0) → ℕ → ℕ → Type 0
SamplesOf W M N p = M (p / (N * W) / N * W + p % (N * W) / N)

-- a visit is not refused for an offset of a record (6), a flag (7), a QP (8), a strength (9), a slice number
-- (20) or a mode (21)
pub record Legal (n : ℕ) : Type 0 where
  pub offset : n ≢ 6
  pub flag : n ≢ 7
  pub qp : n ≢ 8
  pub strength : n ≢ 9
  pub number : n ≢ 20
  pub mode : n ≢ 21

-- d and start are all the data, each as it is once it has arrived. In the state s, which the last call left,
-- the caller lends e and the planes p for a visit of r, which answers n. It may have written anything since,
-- but for this:
pub record Lends (d : Lent) (start : Planes) (s : State Planes) (r : At) (n : ℕ) (e : Lent) (p : Planes) : Type 0 where
  -- size, offsets of the picture and lengths of grids stay
  pub shape : SameShape d e
  -- of a marked macroblock the samples, the QP and the slice number stay
  pub marked-samples : SameAt (SamplesOf d.size.w (Marked s.1)) s.0 p
  pub marked-near : (i : ℕ) → Marked s.1 i → SameNear d e i
  -- what stands where nothing has arrived yet is no reason to refuse the visit
  pub legal : Legal n
  -- where the visit is done, all of its macroblock has arrived, its slice's record too
  pub own-samples : n ≡ 0 → SameAt (SamplesOf d.size.w (λ i. i ≡ of_request d r)) start p
  pub own-data : n ≡ 0 → SameData d e (of_request d r)

-- calls one after the other, each known by its contract alone: number k is the next, `May` says what may be
-- lent for it. From the first state by the requests to the answers and the last state
pub data CallsWith (May : ℕ → State Planes → At → ℕ → Lent → Planes → Type 0) : ℕ → State Planes → List At → List ℕ → State Planes → Type 0 where
  last : {k : ℕ} {s : State Planes} → CallsWith May k s [] [] s
  call : {k : ℕ} {s t u : State Planes} {r : At} {n : ℕ} {e : Lent} {p : Planes} {rs : List At} {said : List ℕ}
      → May k s r n e p → VisitOutcome Frame e (p, s.1) r n t → CallsWith May (suc k) t rs said u → CallsWith May k s (r ∷ rs) (n ∷ said) u

abbrev pub LateCalls : Lent → Planes → State Planes → List At → List ℕ → State Planes → Type 0
LateCalls d start = CallsWith (λ k. Lends d start) 0

-- they come to what visits come to that have d and start from the first call on: the same answers, the same
-- marks, and the same samples of all marked macroblocks
pub record AsIfThere (d : Lent) (start : Planes) (rs : List At) (said : List ℕ) (now : State Planes) : Type 0 where
  pub numbers : said ≡ answers (visit_of d) rs (unvisited d start)
  pub marks : now.1 ≡ (run (visit_of d) rs (unvisited d start)).1
  pub planes : SameAt (SamplesOf d.size.w (Marked now.1)) (run (visit_of d) rs (unvisited d start)).0 now.0

-- ---- a caller that writes what belongs to a macroblock once
-- macroblock i arrives just before call number `when i`
pub record Writes (d : Lent) (start : Planes) (when : ℕ → ℕ) (k : ℕ) (s : State Planes) (r : At) (n : ℕ) (e : Lent) (p : Planes) : Type 0 where
  pub shape : SameShape d e
  pub legal : Legal n
  -- the data of all that has arrived are there, and the samples of what is new; older ones are as the last
  -- call left them
  pub there : (i : ℕ) → when i ≤ k → SameData d e i
  pub new : SameAt (SamplesOf d.size.w (λ i. when i ≡ k)) start p
  pub older : SameAt (SamplesOf d.size.w (λ i. when i < k)) s.0 p
  -- no macroblock is visited before it arrives
  pub arrived : n ≡ 0 → when (of_request d r) ≤ k

abbrev pub ArrivalCalls : Lent → Planes → (ℕ → ℕ) → State Planes → List At → List ℕ → State Planes → Type 0
ArrivalCalls d start when = CallsWith (Writes d start when) 0
