use Rattle.std.proofs.Common.{◌∙◌, ap, get_or, subst, sym}
use Rattle.ndarray.proofs.parts.KeptPlaces.{one_more}
use Rattle.ndarray.proofs.parts.SummedParts.{product-in_range, product-more}
use Rattle.ndarray.proofs.unrolled.ProductPartsPartialResults.with.Goals as goal

pub add_product-requires-clause-product : goal.add_product-requires-clause-product
add_product-requires-clause-product g c κs within =
    let v = g.A.Valued in
    let xs = c.args.self.now.left.now in
    let ys = c.args.self.now.right.now in
    let i = c.args.i in
    let x = get_or xs i c.index-self-i.result in
    let y = get_or ys i c.index-self-i-2.result in
    product-in_range v.multiplication v.meaning v.addition xs ys c.requires.parts.0 i x y c.requires.place (ap (get_or xs i) c.index-self-i.is) (ap (get_or ys i) c.index-self-i-2.is) v.InRange c.requires.parts.1

pub add_product-requires-clause-added : goal.add_product-requires-clause-added
add_product-requires-clause-added g c κs within =
    let v = g.A.Valued in
    let xs = c.args.self.now.left.now in
    let ys = c.args.self.now.right.now in
    let i = c.args.i in
    let x = get_or xs i c.index-self-i.result in
    let y = get_or ys i c.index-self-i-2.result in
    let (keep, (part, ends)) = c.requires.behind in
    let next = one_more keep i in
    subst v.InRange (product-more v.multiplication v.meaning v.addition xs ys c.requires.parts.0 i x y c.requires.place (ap (get_or xs i) c.index-self-i.is) (ap (get_or ys i) c.index-self-i-2.is) keep next.0 (next.1 ends) (v.meaning c.args.part) part) (c.requires.parts.1 next.0)

pub returns : goal.returns
returns g c =
    let v = g.A.Valued in
    let xs = c.args.self.now.left.now in
    let ys = c.args.self.now.right.now in
    let i = c.args.i in
    let x = get_or xs i c.index-self-i.result in
    let y = get_or ys i c.index-self-i-2.result in
    λ keep next more part. c.add_product.ensures ∙ sym (product-more v.multiplication v.meaning v.addition xs ys c.requires.parts.0 i x y c.requires.place (ap (get_or xs i) c.index-self-i.is) (ap (get_or ys i) c.index-self-i-2.is) keep next more (v.meaning c.args.part) part)
