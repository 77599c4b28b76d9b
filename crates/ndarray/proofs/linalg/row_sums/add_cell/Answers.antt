use Rattle.std.proofs.Common.{◌∙◌, ap}
use Rattle.std.proofs.lemmas.List.{get_or_default}
use Rattle.ndarray.proofs.linalg.row_sums.add_cell.Goals as goal

pub add_product-requires-clause-product : goal.add_product-requires-clause-product
add_product-requires-clause-product g c κs within = (c.requires.can c.index-row-j.result).0

pub add_product-requires-clause-added : goal.add_product-requires-clause-added
add_product-requires-clause-added g c κs within = (c.requires.can c.index-row-j.result).1

pub returns : goal.returns
returns g c d =
    let v = g.A.Valued in
    c.add_product.ensures
    ∙ ap (λ y. v.addition.op (v.meaning c.args.sum) (v.multiplication.op (v.meaning c.args.row.now.number) (v.meaning y))) (get_or_default c.args.row.now.cells.now c.args.j c.index-row-j.result d c.requires.place)
