use Rattle.std.proofs.Common.{ltb, ◌∙◌, arith, le→leb, leb→le, to_z-of_z}
use Rattle.laws.specs.Clip.{dist}
use Rattle.laws.proofs.Equal.{same_test}
use Rattle.motion.proofs.Far.{far-law}
use Rattle.motion.proofs.vectors.far.Goals as goal

pub returns : goal.returns
returns c =
    let x = rw (to_z-of_z c.ranges.a) at c.raised.ensures.0 in
    let y = rw (to_z-of_z c.ranges.b) at c.raised-2.ensures.0 in
    let apart = dist c.raised.result c.raised-2.result in
    same_test _ (ltb c.args.most apart) (λ h. omega (arith, leb→le, le→leb)) (λ h. omega (arith, leb→le, le→leb))
    ∙ far-law c.args.most c.args.a c.args.b x y
