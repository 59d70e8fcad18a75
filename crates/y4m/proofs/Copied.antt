-- Laws of bytes that are copied, and of texts put at a place of a stream. Assumes nothing.
use Prim.Native.Nat.{ℕ, ◌+◌, ◌<◌, ◌≤◌}
use mathlib.Core.Path.{◌≡◌, sym, ap, ◌∙◌}
use mathlib.Core.List.{List, ◌++◌, append-nil, append_assoc}
use native.Mathlib.Omega.{arith}
use lib.ListN.{length, take, drop, length-append, drop_of_length-le, get_or, set}
use lib.Seq.{take-length, take_at, drop-drop, drop-append-add, length-take-le, paste, paste-suc}
use Rattle.y4m.specs.Places.{Put}
use native.Mathlib.Nat.{zero-add}
use native.Mathlib.Numerals.{add-one}

-- ---- a copy that goes on byte by byte: so many of `from` before the rest of `to`
pub pasted-one : (to from : List ℕ) {t : List ℕ} (i : ℕ) → i < length to → i < length from → t ≡ paste to 0 from i
    → set t i (get_or from i 0) ≡ paste to 0 from (i + 1)
pasted-one to from i h k e =
    ap (λ (l : List ℕ). set l i (get_or from i 0)) e
    ∙ ap (λ (n : ℕ). set (paste to 0 from i) n (get_or from i 0)) (sym (zero-add i))
    ∙ paste-suc to 0 from i 0 (omega arith) k
    ∙ ap (λ (n : ℕ). paste to 0 from n) (sym (add-one i))

pub pasted-all : (to from : List ℕ) {t : List ℕ} (i : ℕ) → i ≡ length from → t ≡ paste to 0 from i → t ≡ from ++ drop (length from) to
pasted-all to from i h e =
    e
    ∙ (λ j. take (h j) from ++ drop (0 + h j) to)
    ∙ ap (λ (n : ℕ). take (length from) from ++ drop n to) (zero-add (length from))
    ∙ ap (λ (l : List ℕ). l ++ drop (length from) to) (take-length from)

-- ---- a text put at a place of a stream, and another one behind it
pub put-more : (s a b : List ℕ) (at : ℕ) {r q : ℕ} {t z : List ℕ} → at + length a + length b ≤ length s → Put s at a r t → Put t r b q z → Put s at (a ++ b) q z
put-more s a b at {r} {q} {t} {z} h p k =
    let d : List ℕ = drop (at + length a) s in
    let e : List ℕ = drop (at + length (a ++ b)) s in
    let lt = length-take-le at s (omega arith) in
    let la = length-append (take at s) a in
    let lb = length-append a b in
    let m = p.end in
    let n : r ≡ length (take at s ++ a) = omega arith in
    let f : t ≡ (take at s ++ a) ++ d = p.stream ∙ sym (append_assoc (take at s) a d) in
    let front : take r t ≡ take at s ++ a = ap (take r) f ∙ take_at (take at s ++ a) d r (sym n) in
    let o : at + length a + length b ≡ at + length (a ++ b) = omega arith in
    let back : drop (r + length b) t ≡ e =
    (λ i. drop (n i + length b) (f i)) ∙ drop-append-add (take at s ++ a) d (length b) ∙ drop-drop (length b) (at + length a) s ∙ ap (λ (x : ℕ). drop x s) o in
    record {
      end = k.end ∙ omega arith;
      stream =
          k.stream
          ∙ (λ i. front i ++ (b ++ back i))
          ∙ append_assoc (take at s) a (b ++ e)
          ∙ ap (λ (l : List ℕ). take at s ++ l) (sym (append_assoc a b e));
    }

-- it fills the stream
pub put_full : (s text : List ℕ) {r : ℕ} {t : List ℕ} → length text ≡ length s → Put s 0 text r t → t ≡ text
put_full s text h p =
    let l : length s ≤ 0 + length text = omega arith in
    p.stream ∙ ap (λ (k : List ℕ). text ++ k) (drop_of_length-le s l) ∙ append-nil text
