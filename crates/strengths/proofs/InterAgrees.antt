-- Where check 11 does not apply, the first of the own blocks speaks for all 16 on inter: so what a caller
-- says of them is judged by it, and the kind to go by is true. Assumes nothing.
use mathlib.Core.Path.{◌≡◌, refl, sym, ap, ◌∙◌}
use mathlib.Core.Bool.{Bool, true, false, not, ◌&&◌, ◌||◌, true≢false}
use Prim.Native.Nat.{ℕ, zero, suc, ◌-◌, ◌*◌, ◌<◌}
use native.Mathlib.Omega.{arith}
use borrow.Author.Tests.{eqb-true, not-false, ne_eqb, lt-ltb}
use lib.Dec.{eqb, ltb}
use lib.ListN.{get_or}
use Rattle.laws.specs.Some.{some, every}
use Rattle.laws.proofs.Some.{some-not, every-same, every-and, every-not}
use Rattle.motion.specs.Grids.{Grids, counted, block_read, blk_at}
use Rattle.motion.specs.Motion.{same_motion}
use Rattle.strengths.specs.Blocks.{origin, own_block, left_block, above_block}
use Rattle.strengths.specs.Calls.{untrue_known}
use Rattle.strengths.specs.Checks.{differs, disagree}
use Rattle.strengths.specs.Kinds.{every_own, uniform, flat, is_kind}
use Rattle.strengths.specs.ByKind.{first_inter, kind_by, kind_of, asks_motion, untrue_by, kind_known}
use Rattle.strengths.specs.declared.kinds.Known.{Known}
use Rattle.strengths.specs.declared.kinds.Known.TheVariants.{Stated, Flags, NoKind}
use Rattle.strengths.specs.declared.kinds.MbKind.{MbKind}
use Rattle.strengths.specs.declared.kinds.MbKind.TheVariants.{Intra, Skip, InterUniform, Inter}
use Rattle.laws.proofs.Bools.{or-false}

-- ---- what the code looks at
abbrev pub one_motion : Grids → ℕ → ℕ → ℕ → Bool
one_motion g w x y = every_own w x y (λ i. same_motion (blk_at g i) (blk_at g (origin w x y)))

abbrev pub some_counted : Grids → ℕ → ℕ → ℕ → Bool
some_counted g w x y = some 4 (λ r. some 4 (λ c. ltb 0 (get_or g.nnz (own_block w x y r c) 0)))

-- ---- a test over the 4 by 4
own-and : (w x y : ℕ) (f h : ℕ → Bool) → every_own w x y (λ i. f i && h i) ≡ (every_own w x y f && every_own w x y h)
own-and w x y f h = every-same 4 _ _ (λ r l. every-and 4 _ _) ∙ every-and 4 _ _

all : (b : Bool) → every 4 (λ r. every 4 (λ c. b)) ≡ b
unfolding every
all true = refl
all false = refl

ltb-not : (n : ℕ) → not (eqb n 0) ≡ ltb 0 n
ltb-not zero = refl
ltb-not (suc n) = rw (ne_eqb (suc n) 0 (λ e. omega arith), lt-ltb 0 (suc n) (omega arith))

bare-is : (g : Grids) (w x y : ℕ) → every_own w x y (λ i. not (counted g.nnz i)) ≡ not (some_counted g w x y)
bare-is g w x y =
    every-same 4 _ _ (λ r l. every-same 4 _ _ (λ c m. ap not (ltb-not (get_or g.nnz (own_block w x y r c) 0))) ∙ every-not 4 _)
    ∙ every-not 4 _

-- a test that is made, where it answers no
on : (a b : Bool) → a ≡ true → (a && b) ≡ false → b ≡ false
on a b e f = sym (ap (λ (c : Bool). c && b) e) ∙ f

module _ (g : Grids) (w x y : ℕ) (agree : disagree g.inter w x y ≡ false) where
  -- the three parts of check 11
  parts : (some 4 (λ r. some 4 (λ c. differs g.inter (own_block w x y r c) (origin w x y))) ≡ false)
      × ((ltb 0 x && some 4 (λ k. differs g.inter (left_block w x y k) (origin w x y - 1))) ≡ false)
      × ((ltb 0 y && some 4 (λ k. differs g.inter (above_block w x y k) (origin w x y - 4 * w))) ≡ false)
  unfolding disagree
  parts =
      let o = some 4 (λ r. some 4 (λ c. differs g.inter (own_block w x y r c) (origin w x y))) in
      let l = ltb 0 x && some 4 (λ k. differs g.inter (left_block w x y k) (origin w x y - 1)) in
      let u = ltb 0 y && some 4 (λ k. differs g.inter (above_block w x y k) (origin w x y - 4 * w)) in
      let a = or-false (o || l) u agree in
      let b = or-false o l a.0 in
      (b.0, b.1, a.1)

  own-agrees : (r c : ℕ) → r < 4 → c < 4 → get_or g.inter (own_block w x y r c) 0 ≡ get_or g.inter (origin w x y) 0
  own-agrees r c l m = eqb-true _ _ (not-false _ (some-not 4 c _ (some-not 4 r _ parts.0 l) m))

  -- the first of the four on a side speaks for them
  pub left-agrees : (s : ℕ) → s < 4 → 0 < x → get_or g.inter (left_block w x y s) 0 ≡ get_or g.inter (origin w x y - 1) 0
  left-agrees s l h = eqb-true _ _ (not-false _ (some-not 4 s _ (on (ltb 0 x) _ (lt-ltb 0 x h) parts.1) l))

  pub above-agrees : (s : ℕ) → s < 4 → 0 < y → get_or g.inter (above_block w x y s) 0 ≡ get_or g.inter (origin w x y - 4 * w) 0
  above-agrees s l h = eqb-true _ _ (not-false _ (some-not 4 s _ (on (ltb 0 y) _ (lt-ltb 0 y h) parts.2) l))

  pub own-inter : (r c : ℕ) → r < 4 → c < 4 → (blk_at g (own_block w x y r c)).inter ≡ first_inter g.inter w x y
  unfolding block_read
  own-inter r c l m = ap (λ (n : ℕ). eqb n 1) (own-agrees r c l m)

  pub inter-is : is_kind g w x y Inter ≡ first_inter g.inter w x y
  inter-is = every-same 4 _ _ (λ r l. every-same 4 _ _ (λ c m. own-inter r c l m)) ∙ all (first_inter g.inter w x y)

  pub intra-is : is_kind g w x y Intra ≡ not (first_inter g.inter w x y)
  intra-is = every-same 4 _ _ (λ r l. every-same 4 _ _ (λ c m. ap not (own-inter r c l m))) ∙ all (not (first_inter g.inter w x y))

  pub uniform-is : uniform g w x y ≡ (first_inter g.inter w x y && one_motion g w x y)
  unfolding uniform
  uniform-is = own-and w x y (λ i. (blk_at g i).inter) (λ i. same_motion (blk_at g i) (blk_at g (origin w x y))) ∙ ap (λ (b : Bool). b && one_motion g w x y) inter-is

  pub flat-is : flat g w x y ≡ (first_inter g.inter w x y && one_motion g w x y && not (some_counted g w x y))
  unfolding flat
  flat-is = λ i. uniform-is i && bare-is g w x y i

  -- a kind by what the code looks at
  pub kind-by : (kind : MbKind) → kind_by kind (first_inter g.inter w x y) (one_motion g w x y) (some_counted g w x y) ≡ is_kind g w x y kind
  kind-by Intra = sym intra-is
  kind-by Skip = sym flat-is
  kind-by InterUniform = sym uniform-is
  kind-by Inter = sym inter-is

  -- ---- what a caller says: by what the code looks at, and where it says nothing
  pub known_by : (known : Known) → untrue_by known (first_inter g.inter w x y) (one_motion g w x y) (some_counted g w x y) ≡ untrue_known known g w x y
  known_by (Stated kind) = ap not (kind-by kind)
  known_by (Flags a u) = sym (λ i. (a && not (flat-is i)) || (u && not (uniform-is i)))
  known_by NoKind = refl

-- where motion does not tell, what it shows does not matter
pub unasked : (known : Known) (first same n : Bool) → asks_motion known ≡ false → untrue_by known first false false ≡ untrue_by known first same n
unasked (Stated Intra) first same n e = refl
unasked (Stated Skip) first same n e = absurd (true≢false e)
unasked (Stated InterUniform) first same n e = absurd (true≢false e)
unasked (Stated Inter) first same n e = refl
unasked (Flags a u) first same n e =
    let o = or-false a u e in
    (λ i. (o.0 i && not (first && false && not false)) || (o.1 i && not (first && false))) ∙ sym (λ i. (o.0 i && not (first && same && not n)) || (o.1 i && not (first && same)))
unasked NoKind first same n e = refl

-- ---- flags that are true amount to a true kind
flag_true : (b t : Bool) → b ≡ true → (b && not t) ≡ false → t ≡ true
flag_true b t e f = not-false t (sym (ap (λ (c : Bool). c && not t) e) ∙ f)

module _ (g : Grids) (w x y : ℕ) (agree : disagree g.inter w x y ≡ false) where
  pub flags-kind : (a u : Bool) → ((a && not (flat g w x y)) || (u && not (uniform g w x y))) ≡ false → is_kind g w x y (kind_of (first_inter g.inter w x y) a u) ≡ true
  flags-kind a u e = go (first_inter g.inter w x y) refl a u refl refl
    where
      o : ((a && not (flat g w x y)) ≡ false) × ((u && not (uniform g w x y)) ≡ false)
      o = or-false (a && not (flat g w x y)) (u && not (uniform g w x y)) e

      go : (f : Bool) → first_inter g.inter w x y ≡ f → (b v : Bool) → a ≡ b → u ≡ v → is_kind g w x y (kind_of f b v) ≡ true
      go false e b v p q = intra-is g w x y agree ∙ ap not e
      go true e true v p q = flag_true a (flat g w x y) p o.0
      go true e false true p q = flag_true u (uniform g w x y) q o.1
      go true e false false p q = inter-is g w x y agree ∙ e

  -- so the kind to go by is true where what is said is
  pub known-kind : (known : Known) → untrue_known known g w x y ≡ false → is_kind g w x y (kind_known known (first_inter g.inter w x y)) ≡ true
  known-kind (Stated kind) e = not-false _ e
  known-kind (Flags a u) e = flags-kind a u e
  known-kind NoKind e = absurd (true≢false e)

  -- where the blocks are inter, by whether they were seen to have one motion
  pub found-kind : (seen : Bool) → first_inter g.inter w x y ≡ true → (seen ≡ true → one_motion g w x y ≡ true) → is_kind g w x y (kind_of true false seen) ≡ true
  found-kind true f e = uniform-is g w x y agree ∙ (λ i. f i && e refl i)
  found-kind false f e = inter-is g w x y agree ∙ f
