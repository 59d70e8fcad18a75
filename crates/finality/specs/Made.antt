-- What a visit has made final, as the second call lists it: docs/RULES.md, "Final macroblocks".
use Rattle.std.specs.Prelude.{ℕ, ◌+◌, ◌≡◌, true}
use Rattle.finality.specs.declared.Finals.{Finals}

-- the answer to a question about (x, y) names macroblock (a, b)
pub data Listed (x y : ℕ) (m : Finals) (a b : ℕ) : Type 0 where
  its_own : a ≡ x → b ≡ y → m.own ≡ true → Listed x y m a b
  its-left : a + 1 ≡ x → b ≡ y → m.left ≡ true → Listed x y m a b
  its-upper : a ≡ x → b + 1 ≡ y → m.upper ≡ true → Listed x y m a b
