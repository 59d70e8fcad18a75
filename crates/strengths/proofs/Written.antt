-- What a strength call writes: 32 bytes that read back, none of them above 4, and no other. Assumes nothing.
use mathlib.Core.Path.{◌≡◌, refl, sym, ap, ◌∙◌}
use mathlib.Core.Bool.{Bool, true, false, ◌&&◌, ◌||◌}
use mathlib.Core.List.{List}
use mathlib.Core.Logic.{◌⊎◌, ⊎_elim}
use Prim.Native.Nat.{ℕ, zero, suc, ◌+◌, ◌*◌, ◌≤◌, ◌<◌}
use native.Mathlib.Nat.{not-suc-le-zero, eq-or-lt_of_le, le_of_suc-le-suc, le_trans}
use native.Mathlib.Omega.{arith}
use lib.Dec.{eqb, lit≤}
use lib.ListN.{length, get_or, set, length-set}
use lib.Seq.{get_or-set_same, get_or-set_other}
use Rattle.laws.specs.Loop.{up_to}
use Rattle.laws.proofs.Cond.{cond_both}
use Rattle.laws.proofs.Loop.{up_to-keeps}
use Rattle.motion.specs.Grids.{Grids, blk_at}
use Rattle.motion.specs.declared.blocks.Blk.{Blk}
use Rattle.motion.proofs.Laws.{strength-le}
use Rattle.strengths.specs.Inner.{filled}
use Rattle.strengths.specs.Strength.{vertical, edge, q_block, p_block, border, mode_of, skipped, intra_strength, coded, between, strength_at, written}
use Rattle.strengths.specs.declared.kinds.Mode.{Mode}

-- ---- n values from `first` on
pub filled-length : (n first : ℕ) (f : ℕ → ℕ) (s : List ℕ) → length (filled n first f s) ≡ length s
filled-length n first f s = up_to-keeps (λ (t : List ℕ). length t ≡ length s) n _ s (λ k t l e. length-set t (first + k) (f k) ∙ e) refl

filled_beside : (n first : ℕ) (f : ℕ → ℕ) (s : List ℕ) (j : ℕ) → ((k : ℕ) → k < n → j ≡ first + k → ⊥) → get_or (filled n first f s) j 0 ≡ get_or s j 0
filled_beside n first f s j h =
    up_to-keeps (λ (t : List ℕ). get_or t j 0 ≡ get_or s j 0) n _ s (λ k t l e. get_or-set_other t (first + k) j (f k) 0 (h k l) ∙ e) refl

filled_at : (n first : ℕ) (f : ℕ → ℕ) (s : List ℕ) (k : ℕ) → first + n ≤ length s → k < n → get_or (filled n first f s) (first + k) 0 ≡ f k
unfolding up_to
filled_at zero first f s k h l = absurd (not-suc-le-zero l)
filled_at (suc n) first f s k h l = ⊎_elim last (λ b. before b (filled_at n first f s k (omega arith) b)) (eq-or-lt_of_le (le_of_suc-le-suc l))
  where
    t : List ℕ
    t = up_to n (λ k t. set t (first + k) (f k)) s

    last : k ≡ n → get_or (set t (first + n) (f n)) (first + k) 0 ≡ f k
    last e =
        ap (λ (i : ℕ). get_or (set t (first + n) (f n)) (first + i) 0) e
        ∙ get_or-set_same t (first + n) (f n) 0 (omega (arith, filled-length n first f s))
        ∙ ap f (sym e)

    before : k < n → get_or t (first + k) 0 ≡ f k → get_or (set t (first + n) (f n)) (first + k) 0 ≡ f k
    before b e = get_or-set_other t (first + n) (first + k) (f n) 0 (λ q. omega arith) ∙ e

-- ---- the 32 of macroblock i
module _ (i : ℕ) (f : ℕ → ℕ) (s : List ℕ) where
  pub written-length : length (written i f s) ≡ length s
  unfolding written
  written-length = filled-length 32 (32 * i) f s

  pub written_at : (k : ℕ) → k < 32 → 32 * i + 32 ≤ length s → get_or (written i f s) (32 * i + k) 0 ≡ f k
  unfolding written
  written_at k l h = filled_at 32 (32 * i) f s k h l

  pub written-beside : (j : ℕ) → (j < 32 * i) ⊎ (32 * i + 32 ≤ j) → get_or (written i f s) j 0 ≡ get_or s j 0
  unfolding written
  written-beside j h = filled_beside 32 (32 * i) f s j (λ k l e. ⊎_elim (λ p. omega arith) (λ p. omega arith) h)

-- ---- at most 4, where the mode's upper strength is
between-most : (v n : ℕ) (c : Bool) (p q : Blk) → n ≤ 4 → between v n c p q ≤ 4
unfolding between
between-most v n c p q h = cond_both (λ (m : ℕ). m ≤ 4) (p.inter && q.inter) (le_trans (strength-le v c p q) (lit≤ tt)) h

intra-most : (mode : Mode) (k : ℕ) → mode.upper ≤ 4 → intra_strength mode k ≤ 4
intra-most mode k h = cond_both (λ (n : ℕ). n ≤ 4) (eqb (edge k) 0) (cond_both (λ (n : ℕ). n ≤ 4) (vertical k) (lit≤ tt) h) (lit≤ tt)

pub strength-most : (mode : Mode) (g : Grids) (w : ℕ) (t8s : ℕ → Bool) (x y k : ℕ) → mode.upper ≤ 4 → strength_at mode g w t8s x y k ≤ 4
unfolding strength_at
strength-most mode g w t8s x y k h =
    cond_both (λ (n : ℕ). n ≤ 4) (border x y k || skipped (t8s (y * w + x)) k) {x = 0} (lit≤ tt)
    (between-most mode.limit (intra_strength mode k) (coded g w t8s (p_block w x y k) || coded g w t8s (q_block w x y k)) (blk_at g (p_block w x y k)) (blk_at g (q_block w x y k)) (intra-most mode k h))

-- .. as it is in frames and in fields
upper-most : (field : Bool) → (mode_of field).upper ≤ 4
upper-most true = lit≤ tt
upper-most false = lit≤ tt

pub call-most : (field : Bool) (g : Grids) (w : ℕ) (t8s : ℕ → Bool) (x y k : ℕ) → strength_at (mode_of field) g w t8s x y k ≤ 4
call-most field g w t8s x y k = strength-most (mode_of field) g w t8s x y k (upper-most field)
