use Rattle.ndarray.specs.base.Ranks.{row_from}
use Rattle.ndarray.proofs.cells.ProductRows.{row-within}
use Rattle.ndarray.proofs.reduce.cumprod.with_other_row.Goals as goal

pub cells_along-cells-requires-clause-within : goal.cells_along-cells-requires-clause-within
cells_along-cells-requires-clause-within g c = row-within g.A.Mul.mul_gives c.args.array.now c.args.axis c.args.products.cells (row_from (g.D.Lengths.numbers c.args.row.now.first) c.args.row.now.axis c.args.row.now.count) c.requires.next.0 c.requires.next.1
