-- The outcomes of a row call, from those of a stretch; and that kinds which are true change nothing. Assumes
-- nothing.
use mathlib.Core.Path.{◌≡◌, refl, sym, ap, ◌∙◌}
use mathlib.Core.Bool.{Bool, false, cond}
use mathlib.Core.List.{List, []}
use Prim.Native.Nat.{ℕ, ◌+◌, ◌*◌, ◌<◌}
use native.Mathlib.Decide.{ℕ_discrete}
use borrow.Author.Tests.{ne_eqb}
use lib.Dec.{eqb}
use lib.ListN.{length}
use Rattle.laws.specs.Loop.{up_to, span}
use Rattle.laws.specs.Refusal.{refusal, or_else}
use Rattle.laws.proofs.Loop.{up_to-keeps, span-all}
use Rattle.laws.proofs.Refusal.{passes, none-applies}
use Rattle.motion.specs.Grids.{Grids}
use Rattle.sizes.specs.Entries.{flag_at}
use Rattle.sizes.specs.declared.Size.{Size}
use Rattle.strengths.specs.Calls.{untrue_known, answer_at, derive_row_checks, derive_row_answer, DeriveRowOutcome}
use Rattle.strengths.specs.Inner.{stretch_answer, stretch_written, StretchOutcome}
use Rattle.strengths.specs.Kinds.{known_at}
use Rattle.strengths.specs.Strength.{mode_of, strength_at, written}
use Rattle.strengths.specs.declared.kinds.Known.TheVariants.{Flags}
use Rattle.strengths.proofs.Along.{first_of, first-kept, first-zero}
use Rattle.strengths.proofs.DeriveOutcomes.{passed-all, answer-passed}

module _ (size : Size) (field : Bool) (y : ℕ) (kinds t8s : List ℕ) (g : Grids) (s : List ℕ) where
  pub row-refused : (n : ℕ) → n ≡ refusal (derive_row_checks size y kinds) → (n ≡ 0 → ⊥) → DeriveRowOutcome size field y kinds t8s g s n s
  unfolding derive_row_answer
  row-refused n e h = record {
    says = e ∙ sym (first-kept size.w (answer_at size y (Flags false false) kinds t8s g (length s)) (refusal (derive_row_checks size y kinds)) (λ k. h (e ∙ k)));
    leaves = rw (ne_eqb n 0 h);
  }

  pub whole_row : (n b : ℕ) (s' : List ℕ) → b ≡ size.w → refusal (derive_row_checks size y kinds) ≡ 0 → StretchOutcome size field 0 b y (Flags false false) kinds t8s g s n s' → DeriveRowOutcome size field y kinds t8s g s n s'
  unfolding derive_row_answer stretch_answer stretch_written
  whole_row n b s' e z o = record {
    says = o.says ∙ ap (λ (m : ℕ). span 0 m (λ x r. or_else r (answer_at size y (Flags false false) kinds t8s g (length s) x)) 0) e ∙ span-all size.w _ 0
        ∙ ap (up_to size.w (λ x r. or_else r (answer_at size y (Flags false false) kinds t8s g (length s) x))) (sym z);
    leaves = o.leaves ∙ ap (λ (t : List ℕ). cond (eqb n 0) t s) (ap (λ (m : ℕ). span 0 m (λ x. written (y * size.w + x) (strength_at (mode_of field) g size.w (flag_at t8s) x y)) s) e ∙ span-all size.w _ s);
  }

-- ---- a row call with kinds that is done leaves what the one without kinds leaves, which is done too
module _ (size : Size) (field : Bool) (y : ℕ) (kinds t8s : List ℕ) (g : Grids) (s : List ℕ) where
  -- what macroblock x answers, with the kinds and without
  abbrev pub said : ℕ → ℕ
  said = answer_at size y (Flags false false) kinds t8s g (length s)

  abbrev pub unsaid : ℕ → ℕ
  unsaid = answer_at size y (Flags false false) [] t8s g (length s)

  checked : derive_row_answer size y kinds t8s g (length s) ≡ 0 → refusal (derive_row_checks size y kinds) ≡ 0
  unfolding derive_row_answer
  checked e = go (ℕ_discrete (refusal (derive_row_checks size y kinds)) 0)
    where
      go : Dec (refusal (derive_row_checks size y kinds) ≡ 0) → refusal (derive_row_checks size y kinds) ≡ 0
      go (yes h) = h
      go (no h) = absurd (h (sym (first-kept size.w said (refusal (derive_row_checks size y kinds)) h) ∙ e))

  pub each : derive_row_answer size y kinds t8s g (length s) ≡ 0 → (x : ℕ) → x < size.w → unsaid x ≡ 0
  unfolding derive_row_answer
  each e x l =
      let a : said x ≡ 0 = first-zero size.w said (ap (first_of size.w said) (sym (checked e)) ∙ e) x l in
      answer-passed size x y t8s g (length s) (passed-all size x y t8s g (length s) (untrue_known (known_at (Flags false false) kinds (y * size.w + x)) g size.w x y) a) false

  pub unsaid-done : derive_row_answer size y kinds t8s g (length s) ≡ 0 → derive_row_answer size y [] t8s g (length s) ≡ 0
  unfolding derive_row_answer
  unsaid-done e =
      let z = checked e in
      up_to-keeps (λ (r : ℕ). r ≡ 0) size.w _ (refusal (derive_row_checks size y [])) (λ x r l k. ap (λ (m : ℕ). or_else m (unsaid x)) k ∙ each e x l)
      (none-applies (derive_row_checks size y []) (passes 1 (derive_row_checks size y kinds) tt z, (passes 2 (derive_row_checks size y kinds) tt z, (refl, tt))))

  pub row-as-flagless : (n : ℕ) (s₁ s₂ : List ℕ) → DeriveRowOutcome size field y kinds t8s g s 0 s₁ → DeriveRowOutcome size field y [] t8s g s n s₂ → (n ≡ 0) × (s₂ ≡ s₁)
  row-as-flagless n s₁ s₂ a b =
      let e : n ≡ 0 = b.says ∙ unsaid-done (sym a.says) in
      (e, b.leaves ∙ ap (λ (k : ℕ). cond (eqb k 0) (up_to size.w (λ x. written (y * size.w + x) (strength_at (mode_of field) g size.w (flag_at t8s) x y)) s) s) e ∙ sym a.leaves)
