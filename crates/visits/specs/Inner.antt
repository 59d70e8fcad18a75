-- Apart: no promise to a caller of the public calls rests on it. The checks of a visit that read entries, and
-- what the loop of `replay` keeps.
use Rattle.std.specs.Prelude.{ℕ, ◌*◌, ◌≡◌, Bool, not, ◌||◌, List, [], ◌∷◌, ◌++◌, eqb, length, take, drop}
use Rattle.laws.specs.Refusal.{refusal}
use Rattle.edges.specs.Picture.{Planes}
use Rattle.sizes.specs.Sizes.{outside_of}
use Rattle.sizes.specs.declared.Part.{Part}
use Rattle.slices.specs.Slicing.{bad_number_count, some_bad_number}
use Rattle.slices.specs.declared.Survey.{Survey}
use Rattle.pictures.specs.Checks.{Lent, Reads, picture_checks, grid_checks, entry_checks, slice_checks}
use Rattle.visits.specs.Checks.{visit_reads}
use Rattle.visits.specs.Visit.{At, State, run, answers}

-- 7, 8, 9, 20 and 21
abbrev pub visit_entry_checks : Lent → List ℕ → At → List (ℕ × Bool)
visit_entry_checks d ms r = entry_checks d.qps reads ++ slice_checks d.slicing reads
  where
    reads : Reads
    reads = visit_reads d.size.w d.strengths d.t8s ms r

-- .. where 21 is told; told what the slices come to, they are the same (`told-entries` of proofs/Told)
abbrev pub told_entry_checks : Bool → Lent → List ℕ → At → List (ℕ × Bool)
told_entry_checks mode d ms r = entry_checks d.qps reads ++ (20, some_bad_number d.slicing reads.near) ∷ (21, mode) ∷ []
  where
    reads : Reads
    reads = visit_reads d.size.w d.strengths d.t8s ms r

-- the checks before 13, where it is told what the slices come to: `early_in` where that is so
unfoldable pub early_by : Survey → Part → Lent → State Planes → At → ℕ
early_by told part d s r =
    refusal
    (picture_checks part d.size (outside_of d.size r.0 r.1) (length s.0.luma) (length s.0.u) (length s.0.v)
    ++ grid_checks n (length d.strengths) (length d.qps) (length d.t8s) (bad_number_count d.slicing n || not (eqb (length s.1) n)) told.bad_offset
    ++ told_entry_checks told.bad_mode d s.1 r)
  where
    n : ℕ
    n = d.size.w * d.size.h

-- k of the requests rs have been made and the answers stand in out: what is left leads from now where all led
-- from start
pub record Served {A U R : Type 0} (call : U → R → A × U) (rs : List R) (start : U) (k : ℕ) (now : U) (out : List A) : Type 0 where
  pub state : run call (drop k rs) now ≡ run call rs start
  pub said : take k out ++ answers call (drop k rs) now ≡ answers call rs start
