use Rattle.std.proofs.Common.{◌≡◌, length}
use Rattle.ndarray.specs.base.Ranks.{row_from}
use Rattle.ndarray.proofs.cells.ProductRows.{AcrossRow}
use Rattle.ndarray.proofs.reduce.cumprod.with_cells.Given as goal

abbrev pub invariant-loop-cell : goal.invariant-loop-cell
invariant-loop-cell g l = record {
  lengths : l.products.lengths ≡ l.fn.products.lengths;
  order : l.products.order ≡ l.fn.products.order;
  pushed : AcrossRow g.A.Mul.mul_gives l.array l.axis l.index (row_from (g.D.Lengths.numbers l.row.first) l.row.axis l.row.count) l.fn.products.cells l.products.cells l.cells;
}

abbrev pub decreases-loop-cell : goal.decreases-loop-cell
decreases-loop-cell g l = length l.cells
