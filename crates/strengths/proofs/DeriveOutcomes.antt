-- The answer of a strength call, check by check; and that its promise allows one outcome only.
-- Assumes nothing.
use mathlib.Core.Path.{◌≡◌, refl, sym, ap, ◌∙◌}
use mathlib.Core.Bool.{Bool, true, false, cond}
use mathlib.Core.List.{List, [], ◌∷◌}
use Prim.Native.Nat.{ℕ, ◌+◌, ◌*◌}
use native.Mathlib.Decide.{ℕ_discrete}
use native.Mathlib.Omega.{arith}
use borrow.Author.Tests.{ne_eqb}
use lib.Dec.{eqb}
use lib.ListN.{length}
use Rattle.laws.specs.Refusal.{refusal}
use Rattle.laws.proofs.Refusal.{passes, refusal-cut, refusal-left, first-applies, first-passed}
use Rattle.motion.specs.Grids.{Grids}
use Rattle.sizes.specs.Entries.{flag_at}
use Rattle.strengths.specs.Checks.{disagree}
use Rattle.strengths.specs.Eights.{transforms_of}
use Rattle.strengths.specs.Strength.{mode_of, strength_at, written}
use Rattle.strengths.specs.Kinds.{is_kind}
use Rattle.strengths.specs.ByKind.{strength_by}
use Rattle.strengths.specs.Calls.{length_checks, value_checks, derive_checks, answer_of, untrue_kind, untrue_flags, DeriveOutcome, KindOutcome, FlagsOutcome, PlainOutcome}
use Rattle.strengths.specs.declared.kinds.MbKind.{MbKind}
use Rattle.sizes.specs.declared.Size.{Size}
use Rattle.strengths.specs.declared.kinds.Flagged.{Flagged}
use Rattle.strengths.specs.declared.kinds.Request.{Request}
use Rattle.strengths.proofs.ByKind.{kind-is}
use Rattle.strengths.proofs.GridsFit.{grids-fit, Derivable, derivable}

module _ (size : Size) (x y : ℕ) (t8s : List ℕ) (g : Grids) (n : ℕ) where
  -- ---- what is known once checks 1 to 11 have passed
  pub passed-derivable : refusal (derive_checks size x y t8s g n) ≡ 0 → Derivable size x y t8s g n
  passed-derivable e = derivable size x y t8s g n (grids-fit size x y t8s g n (refusal-left (length_checks size x y t8s g n) (value_checks size x y t8s g) tt e))

  pub agrees : refusal (derive_checks size x y t8s g n) ≡ 0 → disagree g.inter size.w x y ≡ false
  agrees e =
      passes 11 (derive_checks size x y t8s g n) tt e

  -- ---- the answer, by the checks before 12
  pub answer-cut : (untrue : Bool) → answer_of size x y t8s g untrue n ≡ cond (eqb (refusal (derive_checks size x y t8s g n)) 0) (cond untrue 12 0) (refusal (derive_checks size x y t8s g n))
  unfolding answer_of
  answer-cut untrue = refusal-cut (derive_checks size x y t8s g n) ((12, untrue) ∷ []) tt

  -- ---- once the lengths have passed, values decide, and then what is said
  pub values-refuse : refusal (length_checks size x y t8s g n) ≡ 0 → {m : ℕ} → m ≡ refusal (value_checks size x y t8s g) → (m ≡ 0 → ⊥) → (untrue : Bool) → m ≡ answer_of size x y t8s g untrue n
  unfolding answer_of
  values-refuse z e h untrue =
      first-applies (derive_checks size x y t8s g n) ((12, untrue) ∷ []) tt (first-passed (length_checks size x y t8s g n) (value_checks size x y t8s g) tt z e) h

  pub values-pass : refusal (length_checks size x y t8s g n) ≡ 0 → {m : ℕ} → m ≡ refusal (value_checks size x y t8s g) → m ≡ 0 → refusal (derive_checks size x y t8s g n) ≡ 0
  values-pass z e k = sym (first-passed (length_checks size x y t8s g n) (value_checks size x y t8s g) tt z e) ∙ k

  pub answer-passed : refusal (derive_checks size x y t8s g n) ≡ 0 → (untrue : Bool) → answer_of size x y t8s g untrue n ≡ cond untrue 12 0
  answer-passed e untrue = answer-cut untrue ∙ ap (λ (r : ℕ). cond (eqb r 0) (cond untrue 12 0) r) e

  -- a refusal by lengths is the answer
  pub lengths-refuse : {m : ℕ} → m ≡ refusal (length_checks size x y t8s g n) → (m ≡ 0 → ⊥) → (untrue : Bool) → m ≡ answer_of size x y t8s g untrue n
  unfolding answer_of
  lengths-refuse e h untrue =
      first-applies (derive_checks size x y t8s g n) ((12, untrue) ∷ []) tt (first-applies (length_checks size x y t8s g n) (value_checks size x y t8s g) tt e h) h

  -- ---- where the answer is 0, checks 1 to 11 have passed, and what is said is true
  pub passed-all : (untrue : Bool) → answer_of size x y t8s g untrue n ≡ 0 → refusal (derive_checks size x y t8s g n) ≡ 0
  passed-all untrue e = go (ℕ_discrete (refusal (derive_checks size x y t8s g n)) 0)
    where
      cut : cond (eqb (refusal (derive_checks size x y t8s g n)) 0) (cond untrue 12 0) (refusal (derive_checks size x y t8s g n)) ≡ 0
      cut = sym (answer-cut untrue) ∙ e

      go : Dec (refusal (derive_checks size x y t8s g n) ≡ 0) → refusal (derive_checks size x y t8s g n) ≡ 0
      go (yes h) = h
      go (no h) = rw (ne_eqb _ 0 h) at cut

  pub said-true : (untrue : Bool) → answer_of size x y t8s g untrue n ≡ 0 → untrue ≡ false
  said-true untrue e = go untrue (sym (answer-passed (passed-all untrue e) untrue) ∙ e)
    where
      go : (u : Bool) → ◌≡◌ {A = ℕ} (cond u 12 0) 0 → u ≡ false
      go true k = absurd (no k)
        where
          no : ◌≡◌ {A = ℕ} 12 0 → ⊥
          no p = omega arith
      go false k = refl

-- all that is known of a macroblock that answers 0
pub record AllPassed (size : Size) (x y : ℕ) (t8s : List ℕ) (g : Grids) (n : ℕ) (untrue : Bool) : Type 0 where
  pub zero : refusal (derive_checks size x y t8s g n) ≡ 0
  pub fits : Derivable size x y t8s g n
  pub agree : disagree g.inter size.w x y ≡ false
  pub said : untrue ≡ false

pub passed : (size : Size) (x y : ℕ) (t8s : List ℕ) (g : Grids) (n : ℕ) (untrue : Bool) → answer_of size x y t8s g untrue n ≡ 0 → AllPassed size x y t8s g n untrue
passed size x y t8s g n untrue e =
    let z = passed-all size x y t8s g n untrue e in
    record {
      zero = z;
      fits = passed-derivable size x y t8s g n z;
      agree = agrees size x y t8s g n z;
      said = said-true size x y t8s g n untrue e;
    }

-- the strengths by a kind that is true are those of the definition
pub by-true-kind : (size : Size) (field : Bool) (x y : ℕ) (t8s : List ℕ) (g : Grids) (s : List ℕ) (kind : MbKind) (n : ℕ) → refusal (derive_checks size x y t8s g n) ≡ 0 → is_kind g size.w x y kind ≡ true
    → written (y * size.w + x) (strength_by kind (mode_of field) g size.w (transforms_of (flag_at t8s) size.w x y) x y) s ≡ written (y * size.w + x) (strength_at (mode_of field) g size.w (flag_at t8s) x y) s
by-true-kind size field x y t8s g s kind n e k =
    λ i. written (y * size.w + x) (λ (b : ℕ). kind-is g size.w x y (agrees size x y t8s g n e) (passed-derivable size x y t8s g n e).index.column (flag_at t8s) kind k (mode_of field) b i) s

module _ (size : Size) (field : Bool) (x y : ℕ) (t8s : List ℕ) (g : Grids) (untrue : Bool) (s : List ℕ) where
  -- two outcomes that the promise allows are equal
  pub unique : (n m : ℕ) (s₁ s₂ : List ℕ) → DeriveOutcome size field x y t8s g untrue s n s₁ → DeriveOutcome size field x y t8s g untrue s m s₂ → (n ≡ m) × (s₁ ≡ s₂)
  unique n m s₁ s₂ a b =
      let e = a.says ∙ sym b.says in
      (e, a.leaves ∙ ap (λ (k : ℕ). cond (eqb k 0) (written (y * size.w + x) (strength_at (mode_of field) g size.w (flag_at t8s) x y) s) s) e ∙ sym b.leaves)

-- ---- what is known of a macroblock changes nothing: a call with a kind or flags that is done leaves what
-- the flagless call leaves, which is done too, whatever flags are set
module _ (size : Size) (field : Bool) (x y : ℕ) (t8s : List ℕ) (g : Grids) (untrue : Bool) (s : List ℕ) where
  pub as-flagless : (n : ℕ) (s₁ s₂ : List ℕ) → DeriveOutcome size field x y t8s g untrue s 0 s₁ → DeriveOutcome size field x y t8s g false s n s₂ → (n ≡ 0) × (s₂ ≡ s₁)
  as-flagless n s₁ s₂ a b =
      let e : n ≡ 0 = b.says ∙ answer-cut size x y t8s g (length s) false ∙ ap (λ (r : ℕ). cond (eqb r 0) 0 r) (passed-all size x y t8s g (length s) untrue (sym a.says)) in
      (e, b.leaves ∙ ap (λ (k : ℕ). cond (eqb k 0) (written (y * size.w + x) (strength_at (mode_of field) g size.w (flag_at t8s) x y) s) s) e ∙ sym a.leaves)

pub kind-as-flagless : (size : Size) (field : Bool) (r : Request) (t8s : List ℕ) (g : Grids) (s s₁ s₂ : List ℕ) (n : ℕ)
    → KindOutcome size field r t8s g s 0 s₁ → PlainOutcome size field r.x r.y t8s g s n s₂ → (n ≡ 0) × (s₂ ≡ s₁)
kind-as-flagless size field r t8s g s s₁ s₂ n = as-flagless size field r.x r.y t8s g (untrue_kind size r g) s n s₁ s₂

pub flags-as-flagless : (size : Size) (field : Bool) (r : Flagged) (t8s : List ℕ) (g : Grids) (s s₁ s₂ : List ℕ) (n : ℕ)
    → FlagsOutcome size field r t8s g s 0 s₁ → PlainOutcome size field r.x r.y t8s g s n s₂ → (n ≡ 0) × (s₂ ≡ s₁)
flags-as-flagless size field r t8s g s s₁ s₂ n = as-flagless size field r.x r.y t8s g (untrue_flags size.w r g) s n s₁ s₂
