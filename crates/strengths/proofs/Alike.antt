-- Two inputs that a strength call cannot tell apart, once its checks have passed: they agree on flags and
-- counts, and their blocks compare alike. Kinds, flags and strengths are the same of both, so where the
-- checks are, the three calls do the same with them. Assumes nothing.
use mathlib.Core.Path.{◌≡◌, refl, sym, ap, subst, ◌∙◌}
use mathlib.Core.Bool.{Bool, true, false, cond, not, ◌&&◌, ◌||◌}
use mathlib.Core.List.{List}
use Prim.Native.Nat.{ℕ, ◌+◌, ◌-◌, ◌*◌, ◌<◌}
use native.Mathlib.Decide.{ℕ_discrete}
use native.Mathlib.Omega.{arith}
use borrow.Author.Tests.{ne_eqb}
use lib.Dec.{eqb, ltb, ltb→lt, lit≤}
use lib.ListN.{length, get_or}
use Rattle.laws.specs.Refusal.{refusal}
use Rattle.laws.proofs.Bools.{guarded}
use Rattle.laws.proofs.Some.{some_same, every-same}
use Rattle.motion.specs.Grids.{Grids, counted, blk_at}
use Rattle.motion.specs.Motion.{differ, inter_strength, same_motion}
use Rattle.motion.specs.declared.blocks.Blk.{Blk}
use Rattle.sizes.specs.Entries.{flag_at}
use Rattle.sizes.specs.declared.Size.{Size}
use Rattle.strengths.specs.Blocks.{origin, own_block, in_eight}
use Rattle.strengths.specs.Calls.{derive_checks, answer_of, DeriveOutcome, KindOutcome, FlagsOutcome, PlainOutcome}
use Rattle.strengths.specs.Eights.{transforms_of, across_flag, p_odd, q_odd, eight_from, coded_by}
use Rattle.strengths.specs.Kinds.{every_own, uniform, flat, is_kind}
use Rattle.strengths.specs.Reads.{Beside, own-block, CountRead, near}
use Rattle.strengths.specs.Strength.{q_block, p_block, border, skipped, intra_strength, mode_of, coded, between, strength_at, written}
use Rattle.strengths.specs.declared.eights.Transforms.{Transforms}
use Rattle.strengths.specs.declared.kinds.Flagged.{Flagged}
use Rattle.strengths.specs.declared.kinds.MbKind.{MbKind}
use Rattle.strengths.specs.declared.kinds.MbKind.TheVariants.{Intra, Skip, InterUniform, Inter}
use Rattle.strengths.specs.declared.kinds.Mode.{Mode}
use Rattle.strengths.specs.declared.kinds.Request.{Request}
use Rattle.strengths.proofs.Across.{across, own-beside}
use Rattle.strengths.proofs.CodedBlocks.{p-coded, q-coded}
use Rattle.strengths.proofs.DeriveOutcomes.{answer-cut, passed-derivable, passed-all}
use Rattle.strengths.proofs.OwnBlocks.{q-own, eight-own, eight-from}

-- a test that is made only where there is a neighbour
pub where-there : (n : ℕ) {b c : Bool} → (0 < n → b ≡ c) → (ltb 0 n && b) ≡ (ltb 0 n && c)
where-there n h = guarded (ltb 0 n) (λ t. h (ltb→lt 0 n t))

-- the first own block, by the name that the checks have
pub first-own : (w x y : ℕ) → Beside w x y (origin w x y)
first-own w x y = subst (Beside w x y) (omega arith) (own-block 0 0 (lit≤ tt) (lit≤ tt))

every-own-same : (w x y : ℕ) (f h : ℕ → Bool) → ((i : ℕ) → Beside w x y i → f i ≡ h i) → every_own w x y f ≡ every_own w x y h
every-own-same w x y f h same =
    every-same 4 _ _ (λ r k. every-same 4 _ _ (λ c l. same (own_block w x y r c) (own-block r c k l)))

pub record Alike (w x y : ℕ) (t8s t8s' : List ℕ) (g g' : Grids) : Type 0 where
  pub long : length t8s ≡ length t8s'
  pub flag : get_or t8s (y * w + x) 0 ≡ get_or t8s' (y * w + x) 0
  pub flag-left : 0 < x → get_or t8s (y * w + x - 1) 0 ≡ get_or t8s' (y * w + x - 1) 0
  pub flag-above : 0 < y → get_or t8s (y * w + x - w) 0 ≡ get_or t8s' (y * w + x - w) 0
  pub count : (i : ℕ) → CountRead (flag_at t8s) w x y i → counted g.nnz i ≡ counted g'.nnz i
  pub inter : (i : ℕ) → Beside w x y i → (blk_at g i).inter ≡ (blk_at g' i).inter
  pub same : (i j : ℕ) → Beside w x y i → Beside w x y j → same_motion (blk_at g i) (blk_at g j) ≡ same_motion (blk_at g' i) (blk_at g' j)
  pub apart : (v i j : ℕ) → Beside w x y i → Beside w x y j → differ v (blk_at g i) (blk_at g j) ≡ differ v (blk_at g' i) (blk_at g' j)

-- .. where flags and counts are one and the same: blocks that compare alike, and equal ones
module _ (w x y : ℕ) (t8s : List ℕ) (g g' : Grids) (counts : g.nnz ≡ g'.nnz) where
  pub alike-blocks : ((i : ℕ) → Beside w x y i → (blk_at g i).inter ≡ (blk_at g' i).inter)
      → ((i j : ℕ) → Beside w x y i → Beside w x y j → same_motion (blk_at g i) (blk_at g j) ≡ same_motion (blk_at g' i) (blk_at g' j))
      → ((v i j : ℕ) → Beside w x y i → Beside w x y j → differ v (blk_at g i) (blk_at g j) ≡ differ v (blk_at g' i) (blk_at g' j))
      → Alike w x y t8s t8s g g'
  alike-blocks inter same apart =
      record {
        long = refl;
        flag = refl;
        flag-left = λ h. refl;
        flag-above = λ h. refl;
        count = λ i c. ap (λ (l : List ℕ). counted l i) counts;
        inter = inter;
        same = same;
        apart = apart;
      }

  pub equal-blocks : ((i : ℕ) → Beside w x y i → blk_at g i ≡ blk_at g' i) → Alike w x y t8s t8s g g'
  equal-blocks e =
      alike-blocks
      (λ i b. ap (λ (q : Blk). q.inter) (e i b))
      (λ i j b c k. same_motion (e i b k) (e j c k))
      (λ v i j b c k. differ v (e i b k) (e j c k))

module _ {w x y : ℕ} {t8s t8s' : List ℕ} {g g' : Grids} (alike : Alike w x y t8s t8s' g g') where
  -- ---- kinds and flags
  uniform-same : uniform g w x y ≡ uniform g' w x y
  unfolding uniform
  uniform-same = every-own-same w x y _ _ (λ i b j. alike.inter i b j && alike.same i (origin w x y) b (first-own w x y) j)

  flat-same : flat g w x y ≡ flat g' w x y
  unfolding flat
  flat-same = λ j. uniform-same j && every-own-same w x y _ (λ i. not (counted g'.nnz i)) (λ i b. ap not (alike.count i (near b))) j

  kind-same : (kind : MbKind) → is_kind g w x y kind ≡ is_kind g' w x y kind
  kind-same Intra = every-own-same w x y _ _ (λ i b. ap not (alike.inter i b))
  kind-same Skip = flat-same
  kind-same InterUniform = uniform-same
  kind-same Inter = every-own-same w x y _ _ alike.inter

  -- ---- coefficients, as the code finds them
  flag_same : (i : ℕ) → get_or t8s i 0 ≡ get_or t8s' i 0 → flag_at t8s i ≡ flag_at t8s' i
  unfolding flag_at
  flag_same i e = λ j. cond (eqb (alike.long j) 0) false (not (eqb (e j) 0))

  transforms-same : transforms_of (flag_at t8s) w x y ≡ transforms_of (flag_at t8s') w x y
  transforms-same =
      λ j. record {
        own = flag_same (y * w + x) alike.flag j;
        left = where-there x (λ h. flag_same (y * w + x - 1) (alike.flag-left h)) j;
        above = where-there y (λ h. flag_same (y * w + x - w) (alike.flag-above h)) j;
      }

  coded-by-same : (t : Bool) (odd i : ℕ) → Beside w x y i
      → (t ≡ true → (a b : ℕ) → a < 2 → b < 2 → CountRead (flag_at t8s) w x y (eight_from (4 * w) odd i + a * (4 * w) + b))
      → coded_by g.nnz (4 * w) t odd i ≡ coded_by g'.nnz (4 * w) t odd i
  unfolding coded_by
  coded-by-same true odd i b h = some_same 2 _ _ (λ a l. some_same 2 _ _ (λ b m. alike.count _ (h refl a b l m)))
  coded-by-same false odd i b h = alike.count i (near b)

  -- ---- strengths
  module _ (inside : x < w) (k : ℕ) where
    q-same : coded g w (flag_at t8s) (q_block w x y k) ≡ coded g' w (flag_at t8s') (q_block w x y k)
    q-same =
        let o = q-own w x y k in
        sym (q-coded w (flag_at t8s) x y k inside g)
        ∙ coded-by-same (flag_at t8s (y * w + x)) (q_odd k) (q_block w x y k) (own-beside o)
        (λ e a b l m. subst (CountRead (flag_at t8s) w x y) (sym (eight-from inside o a b)) (near (own-beside (eight-own inside o a b l m))))
        ∙ ap (λ (t : Bool). coded_by g'.nnz (4 * w) t (q_odd k) (q_block w x y k)) (flag_same (y * w + x) alike.flag)
        ∙ q-coded w (flag_at t8s') x y k inside g'

    p-same : border x y k ≡ false → coded g w (flag_at t8s) (p_block w x y k) ≡ coded g' w (flag_at t8s') (p_block w x y k)
    p-same f =
        let c = across w (flag_at t8s) x y k inside f in
        let from : (a b : ℕ) → eight_from (4 * w) (p_odd k) (p_block w x y k) + a * (4 * w) + b ≡ in_eight w (p_block w x y k) a b
        = λ a b. ap (λ (n : ℕ). eight_from (4 * w) n (p_block w x y k) + a * (4 * w) + b) c.odd ∙ eight-from c.inside c.own a b in
        sym (p-coded w (flag_at t8s) x y k inside g f)
        ∙ coded-by-same (across_flag (transforms_of (flag_at t8s) w x y) k) (p_odd k) (p_block w x y k) c.beside
        (λ e a b l m. subst (CountRead (flag_at t8s) w x y) (sym (from a b)) (c.eight e a b l m))
        ∙ ap (λ (t : Transforms). coded_by g'.nnz (4 * w) (across_flag t k) (p_odd k) (p_block w x y k)) transforms-same
        ∙ p-coded w (flag_at t8s') x y k inside g' f

    pub strength-same : (mode : Mode) → strength_at mode g w (flag_at t8s) x y k ≡ strength_at mode g' w (flag_at t8s') x y k
    unfolding strength_at between inter_strength
    strength-same mode = go (border x y k) refl
      where
        q : Beside w x y (q_block w x y k)
        q = own-beside (q-own w x y k)

        go : (b : Bool) → border x y k ≡ b
            → cond (b || skipped (flag_at t8s (y * w + x)) k) 0 (between mode.limit (intra_strength mode k) (coded g w (flag_at t8s) (p_block w x y k) || coded g w (flag_at t8s) (q_block w x y k)) (blk_at g (p_block w x y k)) (blk_at g (q_block w x y k)))
            ≡ cond (b || skipped (flag_at t8s' (y * w + x)) k) 0 (between mode.limit (intra_strength mode k) (coded g' w (flag_at t8s') (p_block w x y k) || coded g' w (flag_at t8s') (q_block w x y k)) (blk_at g' (p_block w x y k)) (blk_at g' (q_block w x y k)))
        go true e = refl
        go false e =
            let p = (across w (flag_at t8s) x y k inside e).beside in
            λ j. cond (skipped (flag_same (y * w + x) alike.flag j) k) 0
            (cond (alike.inter _ p j && alike.inter _ q j)
            (cond (p-same e j || q-same j) 2 (cond (alike.apart mode.limit _ _ p q j) 1 0))
            (intra_strength mode k))

-- ---- what each of the three calls promises of the first input it promises of the second. It promises one
-- outcome only (`unique`), so the calls answer the same and leave the same
abbrev pub by_kind : ℕ → ℕ → MbKind → Request
by_kind x y kind = record { x = x; y = y; kind = kind }

abbrev pub by_flags : ℕ → ℕ → Bool → Bool → Flagged
by_flags x y f u = record { x = x; y = y; flat = f; uniform = u }

pub record SameCalls (size : Size) (field : Bool) (x y : ℕ) (t8s t8s' : List ℕ) (g g' : Grids) (s : List ℕ) : Type 0 where
  pub plain : (n : ℕ) (s' : List ℕ) → PlainOutcome size field x y t8s g s n s' → PlainOutcome size field x y t8s' g' s n s'
  pub kind : (k : MbKind) (n : ℕ) (s' : List ℕ) → KindOutcome size field (by_kind x y k) t8s g s n s' → KindOutcome size field (by_kind x y k) t8s' g' s n s'
  pub flags : (f u : Bool) (n : ℕ) (s' : List ℕ) → FlagsOutcome size field (by_flags x y f u) t8s g s n s' → FlagsOutcome size field (by_flags x y f u) t8s' g' s n s'

-- check 12 is asked where no other applies
abbrev cut : Bool → ℕ → ℕ
cut b c = cond (eqb c 0) (cond b 12 0) c

module _ (size : Size) (field : Bool) (x y : ℕ) {t8s t8s' : List ℕ} {g g' : Grids} (s : List ℕ)
    (checks : refusal (derive_checks size x y t8s g (length s)) ≡ refusal (derive_checks size x y t8s' g' (length s)))
    (alike : refusal (derive_checks size x y t8s g (length s)) ≡ 0 → Alike size.w x y t8s t8s' g g') where
  abbrev passed : Type 0
  passed = refusal (derive_checks size x y t8s g (length s)) ≡ 0

  module _ {untrue untrue' : Bool} (u : passed → untrue ≡ untrue') where
    answer-same : answer_of size x y t8s g untrue (length s) ≡ answer_of size x y t8s' g' untrue' (length s)
    answer-same =
        answer-cut size x y t8s g (length s) untrue
        ∙ go (ℕ_discrete (refusal (derive_checks size x y t8s g (length s))) 0)
        ∙ sym (answer-cut size x y t8s' g' (length s) untrue')
      where
        refused : (b : Bool) {c : ℕ} → (c ≡ 0 → ⊥) → cut b c ≡ c
        refused b {c} h = rw (ne_eqb c 0 h)

        go : Dec passed → cut untrue (refusal (derive_checks size x y t8s g (length s))) ≡ cut untrue' (refusal (derive_checks size x y t8s' g' (length s)))
        go (yes z) = λ j. cut (u z j) (checks j)
        go (no h) = refused untrue h ∙ checks ∙ sym (refused untrue' (λ z. h (checks ∙ z)))

    module _ (n : ℕ) (s' : List ℕ) where
      abbrev left_by : List ℕ → Grids → List ℕ
      left_by t h = cond (eqb n 0) (written (y * size.w + x) (strength_at (mode_of field) h size.w (flag_at t) x y) s) s

      leaves-same : n ≡ answer_of size x y t8s g untrue (length s) → left_by t8s g ≡ left_by t8s' g'
      leaves-same e = go (ℕ_discrete n 0)
        where
          go : Dec (n ≡ 0) → left_by t8s g ≡ left_by t8s' g'
          go (yes z) =
              let p = passed-all size x y t8s g (length s) untrue (sym e ∙ z) in
              let inside = (passed-derivable size x y t8s g (length s) p).index.column in
              λ j. cond (eqb n 0) (written (y * size.w + x) (λ (k : ℕ). strength-same (alike p) inside k (mode_of field) j) s) s
          go (no h) = rw (ne_eqb n 0 h)

      pub outcome-same : DeriveOutcome size field x y t8s g untrue s n s' → DeriveOutcome size field x y t8s' g' untrue' s n s'
      outcome-same r = record { says = r.says ∙ answer-same; leaves = r.leaves ∙ leaves-same r.says }

  pub alike-calls : SameCalls size field x y t8s t8s' g g' s
  alike-calls = record {
    plain = outcome-same (λ p. refl);
    kind = λ k. outcome-same (λ p. ap not (kind-same (alike p) k));
    flags = λ f u. outcome-same (λ p j. (f && not (flat-same (alike p) j)) || (u && not (uniform-same (alike p) j)));
  }
