-- Apart: no promise to a caller rests on it, but what this program says of itself. A recorded frame, or the
-- two fields of one, filtered anew in four ways, and what it means that it becomes the recorded planes.
use Rattle.std.specs.Prelude.{ℕ, ◌*◌, ◌≤◌, ◌≡◌, ◌↔◌, Bool, true, false, cond, ◌&&◌, ◌||◌, List, eqb}
use Rattle.laws.specs.Loop.{up_to}
use Rattle.edges.specs.Fields.{on_part}
use Rattle.edges.specs.Picture.{Planes, planes, rows_of}
use Rattle.sizes.specs.declared.Part.{Part}
use Rattle.sizes.specs.declared.Part.TheVariants.{Frame, Field}
use Rattle.pictures.specs.Checks.{Lent, held_of}
use Rattle.pictures.specs.Rows.{row_answer}
use Rattle.visits.specs.Promise.{visit_in}
use Rattle.visits.specs.Visit.{State}
use Rattle.recordings.specs.Bytes.{zeros, copied, ones}
use Rattle.recordings.specs.Ways.{is_whole, request_of, turns_of}
use Rattle.recordings.specs.declared.orders.Verdicts.{Verdicts}
use Rattle.recordings.specs.declared.ways.Way.{Way}
use Rattle.recordings.specs.declared.ways.Way.TheVariants.{Whole, Raster, Reverse, Leaps}

-- ---- a recording: one picture, the frame, or `two`, its fields. n is the number of a picture's macroblocks,
-- `first` and `second` are what is lent of each; a frame has no second
pub record Recording : Type 0 where
  pub n : ℕ
  pub two : Bool
  pub first : Lent
  pub second : Lent

-- the first picture is the frame, or its top field: the even lines
abbrev pub first_part : Bool → Part
first_part two = cond two (Field 0) Frame

-- how many macroblocks the frame has, and how many a second picture
abbrev pub frames_of : Bool → ℕ → ℕ
frames_of two n = cond two (2 * n) n

abbrev pub second_of : Bool → ℕ → ℕ
second_of two n = cond two n 0

-- the frame's planes, the marks of the first picture and those of the second
abbrev pub WithMarks : Type 0
WithMarks = Planes × List ℕ × List ℕ

-- ---- turns of visits
-- of one picture in turn t: the visit of that turn, granted or refused
abbrev pub turn_of : Way → Bool → Part → Lent → ℕ → ℕ → State Planes → State Planes
turn_of way ahead part d n t s = (visit_in part d s (request_of way ahead n d.size.w t)).1

-- .. of the first picture, and of the second where there is one; each has its marks
abbrev pub first_turn : Way → Recording → ℕ → WithMarks → WithMarks
first_turn way r t s =
    let f = turn_of way false (first_part r.two) r.first r.n t (s.0, s.1) in
    (f.0, f.1, s.2)

abbrev pub second_turn : Way → Recording → ℕ → WithMarks → WithMarks
second_turn way r t s =
    let f = turn_of way true (Field 1) r.second r.n t (s.0, s.2) in
    cond r.two (f.0, s.1, f.1) s

unfoldable pub turn_in : Way → Recording → ℕ → WithMarks → WithMarks
turn_in way r t s = second_turn way r t (first_turn way r t s)

abbrev pub visits_to : ℕ → Way → Recording → WithMarks → WithMarks
visits_to k way r = up_to k (turn_in way r)

-- ---- the call for a whole picture: all rows, or the planes as they are where it is refused; of a frame, or
-- of the top field and then of the bottom field
abbrev pub whole_of : Part → Lent → Planes → Planes
whole_of part d p = cond (eqb (row_answer part d 0 d.size.h p) 0) (on_part part d.size (rows_of (held_of d) 0 d.size.h) p) p

unfoldable pub wholes : Recording → Planes → Planes
wholes r p = cond r.two (whole_of (Field 1) r.second (whole_of (Field 0) r.first p)) (whole_of Frame r.first p)

-- ---- what a way makes of planes and marks
unfoldable pub filtered : Way → Recording → WithMarks → WithMarks
filtered way r s = cond (is_whole way) (wholes r s.0, s.1, s.2) (visits_to (turns_of r.n) way r s)

-- ---- the verdict
-- each macroblock of each picture was visited
abbrev pub visited_all : List ℕ → List ℕ → Bool
visited_all marks marks₂ = ones marks && ones marks₂

-- the planes come out as `after`, and where they were filtered by visits, each macroblock was visited
pub record Becomes (way : Way) (r : Recording) (s : WithMarks) (after : Planes) : Type 0 where
  pub visited : (is_whole way || visited_all (filtered way r s).1 (filtered way r s).2) ≡ true
  pub out : (filtered way r s).0 ≡ after

-- the planes copied into spaces of the frame's macroblocks, none of them visited
abbrev pub start_of : Recording → Planes → WithMarks
start_of r p =
    let m = frames_of r.two r.n in (
      planes (copied (zeros (256 * m)) p.luma) (copied (zeros (64 * m)) p.u) (copied (zeros (64 * m)) p.v),
      zeros r.n,
      zeros (second_of r.two r.n),
    )

-- a frame of at most 120 macroblocks, or two fields of at most 60, become `after`
abbrev pub most_of : Bool → ℕ
most_of two = cond two 60 120

pub record ComesOut (way : Way) (r : Recording) (before after : Planes) : Type 0 where
  pub small : r.n ≤ most_of r.two
  pub becomes : Becomes way r (start_of r before) after

-- each verdict is true exactly where its way holds
pub record Judged (r : Recording) (before after : Planes) (v : Verdicts) : Type 0 where
  pub whole : (v.whole ≡ true) ↔ ComesOut Whole r before after
  pub raster : (v.raster ≡ true) ↔ ComesOut Raster r before after
  pub reverse : (v.reverse ≡ true) ↔ ComesOut Reverse r before after
  pub leaps : (v.leaps ≡ true) ↔ ComesOut Leaps r before after
