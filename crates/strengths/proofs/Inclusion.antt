-- Skip is InterUniform, and InterUniform is Inter, as conditions on the grids. Assumes nothing.
use mathlib.Core.Path.{◌≡◌}
use mathlib.Core.Bool.{true}
use Prim.Native.Nat.{ℕ}
use Rattle.laws.proofs.Bools.{and-true}
use Rattle.laws.proofs.Some.{every-at, every-is}
use Rattle.motion.specs.Grids.{Grids}
use Rattle.strengths.specs.Kinds.{uniform, flat, is_kind}
use Rattle.strengths.specs.declared.kinds.MbKind.TheVariants.{Skip, InterUniform, Inter}

module _ (g : Grids) (w x y : ℕ) where
  pub skip-uniform : is_kind g w x y Skip ≡ true → is_kind g w x y InterUniform ≡ true
  unfolding flat
  skip-uniform e = (and-true _ _ e).0

  pub uniform-inter : is_kind g w x y InterUniform ≡ true → is_kind g w x y Inter ≡ true
  unfolding uniform
  uniform-inter e = every-is 4 _ (λ r h. every-is 4 _ (λ c k. (and-true _ _ (every-at 4 c _ (every-at 4 r _ e h) k)).0))
