use Rattle.std.proofs.Common.{◌≡◌, ℕ, ◌+◌, ◌*◌, ◌<◌, ◌≤◌, List, length, ◌∙◌, arith}
use Rattle.motion.specs.Grids.{Grids}
use Rattle.motion.specs.Lent.{grids_of}
use Rattle.sizes.specs.declared.Size.{Size}
use Rattle.strengths.specs.Calls.{answer_at, answer_of, untrue_known}
use Rattle.strengths.specs.Inner.{stretch_answer}
use Rattle.strengths.specs.Told.{known_of, kinds_of}
use Rattle.strengths.specs.declared.kinds.Known.{Known}
use Rattle.strengths.proofs.Along.{stretch-zero, answer-fits, number-there}
use Rattle.strengths.proofs.GridsFit.{GridsFit, derivable}
use Rattle.strengths.proofs.stretches.write_stretch.Goals as goal

-- each of its macroblocks answers 0
module _ (size : Size) (from to y : ℕ) (known : Known) (kinds t8s : List ℕ) (g : Grids) (n : ℕ) (e : stretch_answer size from to y known kinds t8s g n ≡ 0) (x : ℕ) (h : from ≤ x) (k : x < to) where
  answers : answer_at size y known kinds t8s g n x ≡ 0
  unfolding stretch_answer
  answers = stretch-zero from to (answer_at size y known kinds t8s g n) e x h k

  fit : GridsFit size x y t8s g n
  fit = answer-fits size x y t8s g n _ answers

  small : y * size.w + x < 36864
  small = (derivable size x y t8s g n fit).index.index

pub overflow_mul-y : goal.overflow_mul-y
overflow_mul-y c =
    let a = c.args in
    let s = a.source.now in
    let g = grids_of s.grids in
    let n = length a.strengths.now in
    let e = c.requires.strengths_value in
    let below : c.loop-x.x < a.stretch.last + 1 = omega (arith, c.loop-x-test.true, c.end-end.ensures) in
    record { fits = omega (arith, small s.size a.stretch.first (a.stretch.last + 1) a.stretch.y (known_of a.told) (kinds_of a.told) s.t8s.now g n e c.loop-x.x c.loop-x.auto.x below) }

pub overflow_add-y : goal.overflow_add-y
overflow_add-y c =
    let a = c.args in
    let s = a.source.now in
    let g = grids_of s.grids in
    let n = length a.strengths.now in
    let e = c.requires.strengths_value in
    let below : c.loop-x.x < a.stretch.last + 1 = omega (arith, c.loop-x-test.true, c.end-end.ensures) in
    record { fits = omega (arith, small s.size a.stretch.first (a.stretch.last + 1) a.stretch.y (known_of a.told) (kinds_of a.told) s.t8s.now g n e c.loop-x.x c.loop-x.auto.x below) }

pub at-known-requires : goal.at-known-requires
at-known-requires c =
    let a = c.args in
    let s = a.source.now in
    let g = grids_of s.grids in
    let n = length a.strengths.now in
    let e = c.requires.strengths_value in
    let below : c.loop-x.x < a.stretch.last + 1 = omega (arith, c.loop-x-test.true, c.end-end.ensures) in
    let f = fit s.size a.stretch.first (a.stretch.last + 1) a.stretch.y (known_of a.told) (kinds_of a.told) s.t8s.now g n e c.loop-x.x c.loop-x.auto.x below in
    number-there s.size c.loop-x.x a.stretch.y s.t8s.now g n (length (kinds_of a.told)) f c.requires.told_value

pub derive_at-requires : goal.derive_at-requires
derive_at-requires c =
    let a = c.args in
    let s = a.source.now in
    let g = grids_of s.grids in
    let n = length a.strengths.now in
    let e = c.requires.strengths_value in
    let below : c.loop-x.x < a.stretch.last + 1 = omega (arith, c.loop-x-test.true, c.end-end.ensures) in
    let x = c.loop-x.x in
    (λ i. answer_of s.size x a.stretch.y s.t8s.now g (untrue_known (c.at-known.ensures i) g s.size.w x a.stretch.y) (c.loop-x.auto.strengths i))
    ∙ answers s.size a.stretch.first (a.stretch.last + 1) a.stretch.y (known_of a.told) (kinds_of a.told) s.t8s.now g n e c.loop-x.x c.loop-x.auto.x below
