-- Apart: no promise to a caller of the public calls rests on it. The lines of an edge, each at the strength
-- of its segment. What stands before "in a batch" is what the promises of `luma_lines` and `chroma_pair`
-- speak of; the rest of specs/ is for the functions that they call.
use Rattle.std.specs.Prelude.{ℕ, ◌+◌, ◌-◌, ◌*◌, ◌/◌, ◌%◌, ◌≤◌, ◌<◌, ◌≡◌, Bool, cond, [], ◌∷◌, ltb, get_or}
use Rattle.laws.specs.Loop.{up_to}
use Rattle.laws.specs.Places.{Plane}
use Rattle.lines.specs.Depth.{Depth}
use Rattle.lines.specs.Luma.{luma_line}
use Rattle.lines.specs.declared.luma.Line.{Line}
use Rattle.lines.specs.Chroma.{chroma_line}
use Rattle.lines.specs.declared.chroma.Short.{Short}
use Rattle.lines.specs.Planes.{luma_at, chroma_at}
use Rattle.lines.specs.Tables.{tc0_at}
use Rattle.lines.specs.declared.luma.Six.{Six}
use Rattle.lines.specs.declared.shared.Two.{Two}
use Rattle.batches.specs.declared.lanes.Both.{Both}
use Rattle.batches.specs.declared.lanes.Four.{Four}
use Rattle.batches.specs.declared.lanes.Single.{Single}
use Rattle.batches.specs.declared.lanes.Thresholds.{Thresholds}

-- the strength of line k, with n lines to a segment: 4 in luma, 2 in chroma
abbrev pub segment_strength : ℕ → Four → ℕ → ℕ
segment_strength n s k = get_or (s.a ∷ s.b ∷ s.c ∷ s.d ∷ []) (k / n) 0

-- what a line of the strength bs becomes
abbrev pub luma_with : Depth → Thresholds → ℕ → Line → Six
luma_with d l bs = luma_line d bs l.alpha l.beta (tc0_at l.index (bs - 1) * d.scale)

abbrev pub chroma_with : Depth → Thresholds → ℕ → Short → Two
chroma_with d l bs = chroma_line d bs l.alpha l.beta (tc0_at l.index (bs - 1) * d.scale)

-- the sixteen luma lines of an edge, or its eight chroma lines, one after the other: `at` is the place of the
-- first one's first sample, `along` the way from a line to the next, and `step` the way across the edge
unfoldable pub long_lines : Depth → Four → Thresholds → ℕ → ℕ → ℕ → Plane → Plane
long_lines d s l at along step = up_to 16 (λ k. luma_at (luma_with d l (segment_strength 4 s k)) (at + k * along) step)

unfoldable pub short_lines : Depth → Four → Thresholds → ℕ → ℕ → ℕ → Plane → Plane
short_lines d s l at along step = up_to 8 (λ k. chroma_at (chroma_with d l (segment_strength 2 s k)) (at + k * along) step)

-- what an edge is filtered with has its tC0 in the tables: in one plane, in both chroma planes
abbrev pub InTable : Single → Type 0
InTable e = e.by.index < 52

abbrev pub InTables : Both → Type 0
InTables e = (e.u.index < 52) × (e.v.index < 52)

-- n lines of eight samples whose places are apart. Vertical: a line's samples stand side by side, and the
-- lines are a row apart. Horizontal: the lines stand side by side, and a line's samples are a row apart
pub data Straight (n along step : ℕ) : Type 0 where
  vertical : step ≡ 1 → 8 ≤ along → Straight n along step
  horizontal : along ≡ 1 → n ≤ step → Straight n along step

-- ---- in a batch, 8 rows of 16, line k stands in column k: from the first row on if it is a luma line or of
-- the first chroma edge, from the fifth on if it is of the second
abbrev pub upper : ℕ → ℕ
upper k = k

abbrev pub lower : ℕ → ℕ
lower k = 64 + k

abbrev pub from_row : ℕ → ℕ → ℕ
from_row r k = 16 * r + k

abbrev pub long_at : Depth → Four → Thresholds → ℕ → Plane → Plane
long_at d s l k = luma_at (luma_with d l (segment_strength 4 s k)) (upper k) 16

-- of sixteen chroma lines the first eight are U's, by the thresholds l, and the others V's, by m
abbrev pub u_or_v : {A : Type 0} → A → A → ℕ → A
u_or_v l m k = cond (ltb k 8) l m

abbrev pub uv_strength : Four → ℕ → ℕ
uv_strength s k = segment_strength 2 s (k % 8)

abbrev pub short_at : Depth → (ℕ → ℕ) → Four → Thresholds → Thresholds → ℕ → Plane → Plane
short_at d place s l m k = chroma_at (chroma_with d (u_or_v l m k) (uv_strength s k)) (place k) 16

-- a pass over lines: those whose strength is on are filtered
abbrev pub pass_of : (ℕ → Bool) → (ℕ → ℕ) → (ℕ → Plane → Plane) → ℕ → Plane → Plane
pass_of on strength line k t = cond (on (strength k)) (line k t) t
