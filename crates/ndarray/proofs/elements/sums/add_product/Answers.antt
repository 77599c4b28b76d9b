-- The product is that of the values, and so is the sum.
use Rattle.std.proofs.Common.{◌∙◌, ap, subst, sym}
use Rattle.ndarray.proofs.elements.sums.add_product.Goals as goal

pub add-requires : goal.add-requires
add-requires g c =
    let v = g.A.Valued in
    let product = g.met.A.ProductElem.mul_meaning c.args.x c.args.y c.mul.result c.requires.product c.mul.ensures in
    g.met.A.SumElem.add_in_range c.args.sum c.mul.result (subst (λ y. v.InRange (v.addition.op (v.meaning c.args.sum) y)) (sym product) c.requires.added)

pub returns : goal.returns
returns g c =
    let v = g.A.Valued in
    let product = g.met.A.ProductElem.mul_meaning c.args.x c.args.y c.mul.result c.requires.product c.mul.ensures in
    let range = subst (λ y. v.InRange (v.addition.op (v.meaning c.args.sum) y)) (sym product) c.requires.added in
    g.met.A.SumElem.add_meaning c.args.sum c.mul.result c.add.result range c.add.ensures ∙ ap (v.addition.op (v.meaning c.args.sum)) product
