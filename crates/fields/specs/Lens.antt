-- Apart: no promise rests on it. A part of a state that is taken out and put back.
use Rattle.std.specs.Prelude.{◌≡◌}

-- Valid: the states that the part can be taken from; Fits: what can be put there
pub record Lens {U S : Type 0} (Valid : U → Type 0) (Fits : S → Type 0) (take : U → S) (put : S → U → U) : Type 0 where
  pub fits : (u : U) → Valid u → Fits (take u)
  pub keeps : (a : S) (u : U) → Valid u → Valid (put a u)
  pub taken-put : (a : S) (u : U) → Valid u → Fits a → take (put a u) ≡ a
  pub put-taken : (u : U) → put (take u) u ≡ u
  pub put-put : (a b : S) (u : U) → Valid u → Fits a → Fits b → put a (put b u) ≡ put a u

-- the part becomes what g makes of it, the rest stays
abbrev pub through-part : {U S : Type 0} → (U → S) → (S → U → U) → (S → S) → U → U
through-part take put g u = put (g (take u)) u
