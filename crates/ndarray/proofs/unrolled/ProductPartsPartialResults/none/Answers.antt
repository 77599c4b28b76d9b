use Rattle.std.proofs.Common.{◌∙◌, ap}
use Rattle.ndarray.specs.Products.{products_of}
use Rattle.ndarray.proofs.parts.SummedParts.{sum-none}
use Rattle.ndarray.proofs.unrolled.ProductPartsPartialResults.none.Goals as goal

pub returns : goal.returns
returns g c =
    let v = g.A.Valued in
    let zs = products_of v.multiplication v.meaning c.args.self.now.left.now c.args.self.now.right.now in
    λ keep none. ap v.meaning c.zero.ensures ∙ (g.met.A.SumElem.zero_meaning ∙ sum-none v.addition (λ z. z) zs keep none)
