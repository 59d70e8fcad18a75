-- The neighbours that a visit waits for: what the test reads, by coordinates and by index. Assumes nothing.
use mathlib.Core.Path.{◌≡◌, refl, subst, subst₂}
use mathlib.Core.Logic.{◌⊎◌, inl, inr}
use mathlib.Core.Bool.{not, ◌&&◌, ◌||◌}
use mathlib.Core.List.{List}
use Prim.Native.Nat.{ℕ, zero, suc, ◌+◌, ◌-◌, ◌*◌, ◌/◌, ◌%◌, ◌<◌}
use native.Mathlib.Nat.{mod-lt, div-add-mod', div-lt_iff_lt-mul, zero-mul}
use native.Mathlib.Decide.{ℕ_discrete}
use native.Mathlib.Omega.{arith}
use lib.Arith.{digits_div, digits_mod}
use lib.Dec.{T, ltb, ltb→lt, lt→ltb, eqb→eq, T_not, not_T}
use lib.ListN.{get_or}
use Rattle.laws.specs.Raster.{Marked}
use Rattle.laws.specs.Order.{Ready, Dep}
use Rattle.laws.specs.Grid.{Near, is-left, is_up, is-up-right}
use Rattle.laws.proofs.Grid.{index-lt}
use Rattle.visits.specs.Visit.{marked, lacks_left, lacks_upper, lacks_upper_right, waiting}
use Rattle.visits.specs.AnyOrder.{Visited, Unvisited, Waits, AllVisited}
use Rattle.laws.proofs.Bools.{and_parts, and_both, or_parts, or_left, or_right, eq→eqb}

-- ---- the test and what it means
module _ (W : ℕ) (ms : List ℕ) where
  pub marked→visited : (x y : ℕ) → T (marked W ms x y) → Visited W ms x y
  marked→visited x y t = eqb→eq (get_or ms (y * W + x) 0) 1 t

  pub unmarked→unvisited : (x y : ℕ) → T (not (marked W ms x y)) → Unvisited W ms x y
  unmarked→unvisited x y t k = T_not (marked W ms x y) t (eq→eqb (get_or ms (y * W + x) 0) 1 k)

  pub unvisited→unmarked : (x y : ℕ) → Unvisited W ms x y → T (not (marked W ms x y))
  unvisited→unmarked x y u = not_T (marked W ms x y) (λ t. u (marked→visited x y t))

module _ (W H : ℕ) (ms : List ℕ) (x y : ℕ) where
  waits-left : x < W → y < H → T (lacks_left W ms x y) → Waits W H ms x y
  waits-left hx hy t =
      let p = and_parts (ltb 0 x) (not (marked W ms (x - 1) y)) t in
      let l : 0 < x = ltb→lt 0 x p.0 in
      record {
        nx = x - 1;
        ny = y;
        near = is-left (omega arith) refl;
        column = omega arith;
        row = hy;
        unvisited = unmarked→unvisited W ms (x - 1) y p.1;
      }

  waits-upper : x < W → y < H → T (lacks_upper W ms x y) → Waits W H ms x y
  waits-upper hx hy t =
      let p = and_parts (ltb 0 y) (not (marked W ms x (y - 1))) t in
      let l : 0 < y = ltb→lt 0 y p.0 in
      record {
        nx = x;
        ny = y - 1;
        near = is_up refl (omega arith);
        column = hx;
        row = omega arith;
        unvisited = unmarked→unvisited W ms x (y - 1) p.1;
      }

  waits-upper-right : y < H → T (lacks_upper_right W ms x y) → Waits W H ms x y
  waits-upper-right hy t =
      let p = and_parts (ltb 0 y && ltb (x + 1) W) (not (marked W ms (x + 1) (y - 1))) t in
      let q = and_parts (ltb 0 y) (ltb (x + 1) W) p.0 in
      let l : 0 < y = ltb→lt 0 y q.0 in
      record {
        nx = x + 1;
        ny = y - 1;
        near = is-up-right refl (omega arith);
        column = ltb→lt (x + 1) W q.1;
        row = omega arith;
        unvisited = unmarked→unvisited W ms (x + 1) (y - 1) p.1;
      }

  pub waiting→waits : x < W → y < H → T (waiting W ms x y) → Waits W H ms x y
  unfolding waiting
  waiting→waits hx hy t = by_two (or_parts (lacks_left W ms x y || lacks_upper W ms x y) (lacks_upper_right W ms x y) t)
    where
      by_one : T (lacks_left W ms x y) ⊎ T (lacks_upper W ms x y) → Waits W H ms x y
      by_one (inl k) = waits-left hx hy k
      by_one (inr k) = waits-upper hx hy k

      by_two : T (lacks_left W ms x y || lacks_upper W ms x y) ⊎ T (lacks_upper_right W ms x y) → Waits W H ms x y
      by_two (inl k) = by_one (or_parts (lacks_left W ms x y) (lacks_upper W ms x y) k)
      by_two (inr k) = waits-upper-right hy k

  pub waits→waiting : Waits W H ms x y → T (waiting W ms x y)
  unfolding waiting
  waits→waiting w = go w.near
    where
      left-or-upper : T (lacks_left W ms x y || lacks_upper W ms x y) → T (waiting W ms x y)
      left-or-upper t = or_left (lacks_left W ms x y || lacks_upper W ms x y) (lacks_upper_right W ms x y) t

      -- the neighbour, by the coordinates that the test reads
      lacks : (a b : ℕ) → w.nx ≡ a → w.ny ≡ b → T (not (marked W ms a b))
      lacks a b e f = unvisited→unmarked W ms a b (subst₂ (Unvisited W ms) e f w.unvisited)

      go : Near w.nx w.ny x y → T (waiting W ms x y)
      go (is-left e f) =
          left-or-upper (or_left (lacks_left W ms x y) (lacks_upper W ms x y)
          (and_both (ltb 0 x) _ (lt→ltb 0 x (omega arith)) (lacks (x - 1) y (omega arith) f)))
      go (is_up e f) =
          left-or-upper (or_right (lacks_left W ms x y) (lacks_upper W ms x y)
          (and_both (ltb 0 y) _ (lt→ltb 0 y (omega arith)) (lacks x (y - 1) e (omega arith))))
      go (is-up-right e f) =
          let c : w.nx < W = w.column in
          or_right (lacks_left W ms x y || lacks_upper W ms x y) (lacks_upper_right W ms x y)
          (and_both (ltb 0 y && ltb (x + 1) W) _ (and_both (ltb 0 y) (ltb (x + 1) W) (lt→ltb 0 y (omega arith)) (lt→ltb (x + 1) W (omega arith)))
          (lacks (x + 1) (y - 1) e (omega arith)))

-- ---- by index
-- a picture with a macroblock has a column
pub wide : (W H i : ℕ) → i < W * H → 0 < W
wide zero H i h = omega (arith, zero-mul H)
wide (suc W) H i h = omega arith

pub near→dep : (W nx ny x y : ℕ) → nx < W → x < W → Near nx ny x y → Dep W (ny * W + nx) (y * W + x)
near→dep W nx ny x y l h n = rw (digits_mod ny l, digits_div ny l, digits_mod y h, digits_div y h) n

dep→near : (W a x y : ℕ) → x < W → Dep W a (y * W + x) → Near (a % W) (a / W) x y
dep→near W a x y h d = rw (digits_mod y h, digits_div y h) at d

near-row : {nx ny x y : ℕ} → Near nx ny x y → (H : ℕ) → y < H → ny < H
near-row (is-left e f) H h = omega arith
near-row (is_up e f) H h = omega arith
near-row (is-up-right e f) H h = omega arith

module _ (W H : ℕ) (ms : List ℕ) where
  -- (x, y) waits for none exactly where all that its index depends on is marked
  pub free→ready : (x y : ℕ) → x < W → y < H → (Waits W H ms x y → ⊥) → Ready (Dep W) ms (y * W + x)
  free→ready x y hx hy free a d = go (ℕ_discrete (get_or ms a 0) 1)
    where
      n : Near (a % W) (a / W) x y
      n = dep→near W a x y hx d

      go : Dec (Marked ms a) → Marked ms a
      go (yes k) = k
      go (no u) =
          absurd (free (record {
            nx = a % W;
            ny = a / W;
            near = n;
            column = mod-lt a {m = W} (omega arith);
            row = near-row n H hy;
            unvisited = λ k. u (subst (Marked ms) (div-add-mod' a W) k);
          }))

  pub ready→free : (x y : ℕ) → x < W → Ready (Dep W) ms (y * W + x) → Waits W H ms x y → ⊥
  ready→free x y hx r w = w.unvisited (r (w.ny * W + w.nx) (near→dep W w.nx w.ny x y w.column hx w.near))

  pub all→index : AllVisited W H ms → (i : ℕ) → i < W * H → Marked ms i
  all→index all i h =
      subst (Marked ms) (div-add-mod' i W)
      (all (i % W) (i / W) (mod-lt i (wide W H i h)) ((div-lt_iff_lt-mul (wide W H i h)).1 (omega arith)))

  pub index→all : ((i : ℕ) → i < W * H → Marked ms i) → AllVisited W H ms
  index→all all x y hx hy = all (y * W + x) (index-lt W H x y hx hy)
