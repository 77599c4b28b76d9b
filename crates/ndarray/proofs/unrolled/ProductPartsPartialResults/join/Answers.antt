use Rattle.std.proofs.Common.{◌∙◌, refl, subst, sym}
use Rattle.ndarray.specs.PartialFolds.{kept_by_either}
use Rattle.ndarray.specs.Products.{products_of}
use Rattle.ndarray.proofs.parts.SummedParts.{sum-joined}
use Rattle.ndarray.proofs.unrolled.ProductPartsPartialResults.join.Goals as goal

pub add-requires-after_bounds : goal.add-requires-after_bounds
add-requires-after_bounds g c κs within =
    let v = g.A.Valued in
    let zs = products_of v.multiplication v.meaning c.args.self.now.left.now c.args.self.now.right.now in
    let (p, (q, (apart, (first, second)))) = c.requires.apart in
    subst v.InRange (sum-joined v.addition (λ z. z) zs p q (kept_by_either p q) (record { apart = apart; union = λ k. refl }) _ _ first second) (c.requires.parts.1 (kept_by_either p q))

pub returns : goal.returns
returns g c =
    let v = g.A.Valued in
    let zs = products_of v.multiplication v.meaning c.args.self.now.left.now c.args.self.now.right.now in
    λ p q both two first second. c.add.ensures ∙ sym (sum-joined v.addition (λ z. z) zs p q both two _ _ first second)
