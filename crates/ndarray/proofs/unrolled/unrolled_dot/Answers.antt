use Rattle.std.proofs.Common.{◌∙◌, length}
use Rattle.ndarray.specs.Products.{products_of}
use Rattle.ndarray.proofs.parts.SummedParts.{length-products, sum-all}
use Rattle.ndarray.proofs.unrolled.unrolled_dot.Goals as goal

pub returns : goal.returns
returns g c =
    let v = g.A.Valued in
    let xs = c.args.xs.now in
    let ys = c.args.ys.now in
    c.unrolled.ensures ∙ sum-all v.addition (λ z. z) (products_of v.multiplication v.meaning xs ys) (length xs) (length-products v.multiplication v.meaning xs ys c.requires.lengths)
