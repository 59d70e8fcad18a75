use Rattle.std.proofs.Common.{ℕ, ◌+◌, ◌<◌, set, length-set, refl, sym, ap, ⊎_elim, ◌∙◌, arith}
use native.Mathlib.Nat.{eq-or-lt_of_le}
use Rattle.std.proofs.lemmas.Grind.{get_or-set_at}
use Rattle.std.proofs.lemmas.List.{get_or-set_other}
use Rattle.laws.proofs.Loop.{up_to-none, up_to-more, up_to-end}
use Rattle.strengths.proofs.fours.fill_four.Goals as goal

pub loop-s-init : goal.loop-s-init
loop-s-init g c = (refl, λ f told k h. absurd (not-below k h))
  where
    not-below : (k : ℕ) → k < 0 → ⊥
    not-below k h = omega (arith, h)

pub loop-s-preserved : goal.loop-s-preserved
loop-s-preserved g c = (
  length-set c.loop-s.four c.loop-s.s c.value.result ∙ c.loop-s.invariant.0,
  λ f told k h.
      ⊎_elim
      (λ e. get_or-set_at c.loop-s.four c.loop-s.s k c.value.result 0 e (omega (arith, c.loop-s.invariant.0)) ∙ told c.loop-s.s c.value.result (omega arith) c.value.ensures ∙ ap f (sym e))
      (λ l. get_or-set_other c.loop-s.four c.loop-s.s k c.value.result 0 (λ e. omega (arith, e, l)) ∙ c.loop-s.invariant.1 f told k l)
      (eq-or-lt_of_le (omega (arith, h))),
)

pub loop-k-init : goal.loop-k-init
loop-k-init g c = λ f told. up_to-none _ _

pub loop-k-preserved : goal.loop-k-preserved
loop-k-preserved g c =
    λ f told. up_to-more _ _ _ (c.loop-k.invariant f told) (ap (λ (n : ℕ). set c.loop-k.strengths (c.args.to + c.loop-k.k) n) (told c.loop-k.k (omega arith)))

pub returns : goal.returns
returns g c =
    λ f told. up_to-end _ 4 _ _ (c.loop-k.invariant f (λ s h. c.loop-s.invariant.1 f told s (omega arith))) (omega arith) (omega arith)
