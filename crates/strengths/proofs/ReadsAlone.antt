-- A strength call looks at nothing but what docs/RULES.md, "What each call reads", says: two inputs that
-- agree on that have one outcome. Assumes nothing.
use mathlib.Core.Path.{◌≡◌, refl, sym, ap, ◌∙◌}
use mathlib.Core.Bool.{Bool, false}
use mathlib.Core.List.{List}
use Prim.Native.Nat.{ℕ, zero, suc, ◌+◌, ◌-◌, ◌*◌, ◌<◌}
use lib.ListN.{length, get_or, replicate, length-replicate}
use Rattle.laws.specs.Refusal.{refusal}
use Rattle.motion.specs.Grids.{Grids}
use Rattle.sizes.specs.Entries.{bad_flag_count}
use Rattle.sizes.specs.declared.Size.{Size}
use Rattle.strengths.specs.Calls.{DeriveOutcome}
use Rattle.strengths.specs.Reads.{SameReads}
use Rattle.strengths.proofs.Alike.{SameCalls, outcome-same, alike-calls}
use Rattle.strengths.proofs.BeforeFlags.{OwnCall, unset-call-before}
use Rattle.strengths.proofs.SameReads.{reads-alike, checks-same}

pub reads-alone : (size : Size) (field : Bool) (x y : ℕ) {t8s t8s' : List ℕ} {g g' : Grids} (s : List ℕ) → SameReads size.w x y t8s t8s' g g' → SameCalls size field x y t8s t8s' g g' s
reads-alone size field x y s same = alike-calls size field x y s (ap refusal (checks-same size x y same (length s))) (λ p. reads-alike same)

-- ---- so where none of the three flags that are read is set, whatever the others are, a call promises what
-- it promised before it was lent any (`OwnCall`)
zeros : (n i : ℕ) → ◌≡◌ {A = ℕ} (get_or (replicate n 0) i 0) 0
zeros zero i = refl
zeros (suc n) zero = refl
zeros (suc n) (suc i) = zeros n i

-- inputs whose flags alone differ
flags-apart : (w x y : ℕ) (t8s t8s' : List ℕ) (g : Grids) → length t8s ≡ length t8s' → get_or t8s (y * w + x) 0 ≡ get_or t8s' (y * w + x) 0
    → (0 < x → get_or t8s (y * w + x - 1) 0 ≡ get_or t8s' (y * w + x - 1) 0) → (0 < y → get_or t8s (y * w + x - w) 0 ≡ get_or t8s' (y * w + x - w) 0)
    → SameReads w x y t8s t8s' g g
flags-apart w x y t8s t8s' g long flag left above =
    record {
      long = record { flags = long; inters = refl; counts = refl; refs0 = refl; mvs0 = refl; refs1 = refl; mvs1 = refl };
      table0 = refl;
      table1 = refl;
      flag = flag;
      flag-left = left;
      flag-above = above;
      block = λ i b. record { inter = refl; list0 = refl; list1 = refl };
      count = λ i c. refl;
    }

module _ (size : Size) (field : Bool) (x y : ℕ) (t8s : List ℕ) (g : Grids) (untrue : Bool) (s : List ℕ) (n : ℕ) (s' : List ℕ)
    (fits : bad_flag_count (size.w * size.h) (length t8s) ≡ false) (flag : get_or t8s (y * size.w + x) 0 ≡ 0)
    (left : 0 < x → get_or t8s (y * size.w + x - 1) 0 ≡ 0) (above : 0 < y → get_or t8s (y * size.w + x - size.w) 0 ≡ 0) where
  abbrev unset : List ℕ
  unset = replicate (length t8s) 0

  abbrev zero-at : (i : ℕ) → get_or unset i 0 ≡ 0
  zero-at = zeros (length t8s)

  before : (DeriveOutcome size field x y unset g untrue s n s' → OwnCall size field x y g untrue s n s')
      × (OwnCall size field x y g untrue s n s' → DeriveOutcome size field x y unset g untrue s n s')
  before =
      unset-call-before size field x y unset g untrue s n s'
      (record { fits = ap (bad_flag_count (size.w * size.h)) (length-replicate (length t8s) 0) ∙ fits; zeros = zero-at })

  kept : {a b : List ℕ} → SameReads size.w x y a b g g → DeriveOutcome size field x y a g untrue s n s' → DeriveOutcome size field x y b g untrue s n s'
  kept same = outcome-same size field x y s (ap refusal (checks-same size x y same (length s))) (λ p. reads-alike same) (λ p. refl) n s'

  pub near-unset-before : (DeriveOutcome size field x y t8s g untrue s n s' → OwnCall size field x y g untrue s n s')
      × (OwnCall size field x y g untrue s n s' → DeriveOutcome size field x y t8s g untrue s n s')
  near-unset-before =
      let long : length unset ≡ length t8s = length-replicate (length t8s) 0 in
      let to = flags-apart size.w x y t8s unset g (sym long) (flag ∙ sym (zero-at _)) (λ h. left h ∙ sym (zero-at _)) (λ h. above h ∙ sym (zero-at _)) in
      let back = flags-apart size.w x y unset t8s g long (zero-at _ ∙ sym flag) (λ h. zero-at _ ∙ sym (left h)) (λ h. zero-at _ ∙ sym (above h)) in
      (λ r. before.0 (kept to r), λ r. kept back (before.1 r))
