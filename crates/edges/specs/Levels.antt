-- Apart: no promise to a caller of the public calls rests on it. The rules by what the thresholds of an edge
-- are found by, and that of a macroblock's edges: what the code computes before it touches a line.
use Rattle.std.specs.Prelude.{ℕ, ℤ}
use Rattle.lines.specs.Thresholds.{average, chroma_qp}
use Rattle.lines.specs.Depth.{Depth}
use Rattle.lines.specs.Inner.{thresholds_of}
use Rattle.batches.specs.Lanes.{as_thresholds}
use Rattle.batches.specs.declared.lanes.Both.{Both}
use Rattle.batches.specs.declared.lanes.Four.{Four}
use Rattle.batches.specs.declared.lanes.Thresholds.{Thresholds}
use Rattle.laws.specs.Places.{Plane}
use Rattle.edges.specs.Edge.{LumaRule, ChromaRule, luma_rule, chroma_rule}
use Rattle.edges.specs.Macroblock.{Settings, luma_on, outer_or, luma_both, chroma_both}
use Rattle.edges.specs.Laid.{window_of}
use Rattle.edges.specs.Picture.{Held, settings_at}
use Rattle.edges.specs.declared.levels.Level.{Level}
use Rattle.edges.specs.declared.levels.PlaneLevels.{PlaneLevels}
use Rattle.edges.specs.declared.levels.Levels.{Levels}
use Rattle.edges.specs.declared.levels.WayLevels.{WayLevels}
use Rattle.edges.specs.declared.plan.Layout.{Layout}
use Rattle.edges.specs.declared.plan.Plan.{Plan}
use Rattle.edges.specs.declared.plan.Switches.{Switches}
use Rattle.edges.specs.declared.plan.Window.{Window}

-- the strengths of an edge's four segments
abbrev pub four_of : (ℕ → ℕ) → Four
four_of strengths = record { a = strengths 0; b = strengths 1; c = strengths 2; d = strengths 3 }

-- the thresholds of an edge
abbrev pub thresholds_by : Depth → Level → Thresholds
thresholds_by d l = as_thresholds (thresholds_of d l.qp l.a l.b)

-- .. and its strengths, in both chroma planes
abbrev pub both_of : (ℕ → ℕ) → Thresholds → Thresholds → Both
both_of strengths u v = record { s = four_of strengths; u = u; v = v }

-- the standard's rules, by a level
abbrev pub luma_level : Depth → Level → LumaRule
luma_level d l = luma_rule d l.a l.b l.qp

abbrev pub chroma_level : Depth → Level → ChromaRule
chroma_level d l = chroma_rule d l.a l.b l.qp

-- of the edges of one direction, by those of a plane: of its vertical ones, and of its horizontal ones
abbrev pub vertical_of : PlaneLevels → WayLevels
vertical_of m = record { border = m.left; inside = m.inner }

abbrev pub horizontal_of : PlaneLevels → WayLevels
horizontal_of m = record { border = m.top; inside = m.inner }

-- of the left, the top and the inner edges of one plane, by its QPs
abbrev pub plane_levels : ℤ → ℤ → ℤ → ℤ → ℤ → PlaneLevels
plane_levels qp qp_left qp_above a b = record {
  left = record { qp = average qp_left qp; a = a; b = b };
  top = record { qp = average qp_above qp; a = a; b = b };
  inner = record { qp = qp; a = a; b = b };
}

-- .. of a chroma plane, by the luma QPs
abbrev pub chroma_levels : Depth → ℤ → ℤ → ℤ → ℤ → ℤ → ℤ → PlaneLevels
chroma_levels d qp qp_left qp_above a b offset =
    plane_levels (chroma_qp d offset qp) (chroma_qp d offset qp_left) (chroma_qp d offset qp_above) a b

-- of the three planes, by the offsets of U and of V
abbrev pub levels_of : Depth → ℤ → ℤ → ℤ → ℤ → ℤ → ℤ → ℤ → Levels
levels_of d qp qp_left qp_above a b u v = record {
  luma = plane_levels qp qp_left qp_above a b;
  chroma = record { u = chroma_levels d qp qp_left qp_above a b u; v = chroma_levels d qp qp_left qp_above a b v };
}

-- all that macroblock (x, y) is filtered with, but for its strengths
abbrev pub plan_of : Held → Layout → ℕ → ℕ → Plan
plan_of g l x y = record {
  on = record { left = s.left; top = s.top; inner = s.inner; t8 = s.t8 };
  luma = window_of l 16 g.w x y;
  chroma = window_of l 8 g.w x y;
  levels = levels_of g.depth s.qp s.qp_left s.qp_above s.a s.b g.u g.v;
}
  where
    s : Settings
    s = settings_at g x y

-- a macroblock in a plane, by the switches, the place and the levels of its plan
abbrev pub luma_by : Depth → (ℕ → ℕ) → Switches → Window → PlaneLevels → Plane → Plane
luma_by d strengths on at m =
    luma_both (luma_level d m.left) (luma_level d m.top) (luma_level d m.inner)
    (luma_on on.left on.inner on.t8) (luma_on on.top on.inner on.t8) strengths at.origin at.stride

abbrev pub chroma_by : Depth → (ℕ → ℕ) → Switches → Window → PlaneLevels → Plane → Plane
chroma_by d strengths on at m =
    chroma_both (chroma_level d m.left) (chroma_level d m.top) (chroma_level d m.inner)
    (outer_or on.left on.inner) (outer_or on.top on.inner) strengths at.origin at.stride
