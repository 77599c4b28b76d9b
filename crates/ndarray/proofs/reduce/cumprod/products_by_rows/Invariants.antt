use Rattle.std.proofs.Common.{◌≡◌, ◌<◌, All, length}
use Rattle.ndarray.specs.order.Rows.{joined}
use Rattle.ndarray.specs.base.RunningProducts.{RunningProducts}
use Rattle.ndarray.specs.declared.base.shape.Order.TheVariants.{RowMajor}
use Rattle.ndarray.proofs.reduce.cumprod.products_by_rows.Given as goal

abbrev pub invariant-loop-row : goal.invariant-loop-row
invariant-loop-row g l = record {
  lengths : l.products.lengths ≡ l.array.lengths;
  order : l.products.order ≡ RowMajor;
  some : All (λ row. 0 < length row) l.rows;
  pushed : RunningProducts g.A.Mul.mul_gives l.array l.axis.0 l.products.cells (joined l.rows);
}

abbrev pub decreases-loop-row : goal.decreases-loop-row
decreases-loop-row g l = length l.rows
