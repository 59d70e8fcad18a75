-- What the calls that filter rows a to b of a picture promise, of which b is not one. They read the rows'
-- strengths, flags and QPs, and the QPs of row a - 1 where there is one and the range is not empty; where
-- slices are lent, slice numbers as QPs.
use Rattle.std.specs.Prelude.{ℕ, ◌-◌, ◌*◌, ◌≡◌, Bool, false, cond, ◌&&◌, ◌||◌, List, eqb, ltb, length}
use Rattle.laws.specs.Refusal.{refusal}
use Rattle.edges.specs.Fields.{on_part}
use Rattle.edges.specs.Picture.{Planes, rows_of}
use Rattle.sizes.specs.declared.Part.{Part}
use Rattle.sizes.specs.declared.Size.{Size}
use Rattle.pictures.specs.Checks.{Lent, held_of, some_bad, some_bad_flag, some_bad_strength, Reads, filter_checks}

-- 2
abbrev pub bad_range : Size → ℕ → ℕ → Bool
bad_range size a b = ltb b a || ltb size.h b

-- 7, 8, 9, 20
abbrev pub qps_from : ℕ → ℕ → ℕ → ℕ
qps_from w a b = cond (ltb 0 a && ltb a b) (a * w - w) (a * w)

abbrev pub row_reads : ℕ → ℕ → ℕ → List ℕ → List ℕ → Reads
row_reads w a b strengths t8s = record {
  flags = some_bad_flag (a * w) (b * w) t8s;
  near = λ bad xs. some_bad bad (qps_from w a b) (b * w) xs;
  strengths = some_bad_strength (a * w) (b * w) strengths;
}

abbrev pub row_checks : Part → Lent → ℕ → ℕ → ℕ → ℕ → ℕ → List (ℕ × Bool)
row_checks part d a b luma u v = filter_checks part d luma u v (bad_range d.size a b) false (row_reads d.size.w a b d.strengths d.t8s)

-- one grey macroblock with strengths 0 and QP 30 gets 0; with QP 52 it gets 8, and with strengths 5 too,
-- still 8 (proofs/Examples)
unfoldable pub row_answer : Part → Lent → ℕ → ℕ → Planes → ℕ
row_answer part d a b p = refusal (row_checks part d a b (length p.luma) (length p.u) (length p.v))

-- an outcome: the answer n, and the planes before and after. A refusal leaves them as they were
pub record RowOutcome (part : Part) (d : Lent) (a b : ℕ) (p : Planes) (n : ℕ) (p' : Planes) : Type 0 where
  pub says : n ≡ row_answer part d a b p
  pub leaves : p' ≡ cond (eqb n 0) (on_part part d.size (rows_of (held_of d) a b) p) p

-- a whole picture is rows 0 to H, of which H is not one
abbrev pub WholeOutcome : Part → Lent → Planes → ℕ → Planes → Type 0
WholeOutcome part d p n p' = RowOutcome part d 0 d.size.h p n p'
