use Rattle.ndarray.proofs.Common.{rules, arith, max, cells-transposed}
use Rattle.ndarray.specs.declared.base.shape.Order.TheVariants.{ColumnMajor}
use Rattle.ndarray_examples.proofs.laws_of_parts.greatest_of_transposed.Goals as goal

pub returns : goal.returns
returns g c =
    let orders = c.fold_orders.ensures.cells max (λ b x y. omega arith) 0 c.args.a.now ColumnMajor c.raw_dim-whole.ensures.whole in
    let turned = cells-transposed c.args.a.now in
    search (rules, orders, turned)
