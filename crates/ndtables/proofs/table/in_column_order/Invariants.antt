use Rattle.std.proofs.Common.{◌≡◌, ◌++◌}
use Rattle.std.specs.Prelude.{filter_map}
use Rattle.ndarray.specs.Grid.{cell, HasCells}
use Rattle.ndarray.specs.Orders.{cells_in}
use Rattle.ndarray.specs.declared.base.shape.Order.TheVariants.{ColumnMajor}
use Rattle.ndtables.proofs.table.in_column_order.Given as goal

-- the cells so far, before those of the index lists to come
abbrev pub invariant-loop-index : goal.invariant-loop-index
invariant-loop-index g l = record {
  within : HasCells l.array l.index-iterator;
  same : l.cells.items ++ filter_map (cell l.array) l.index-iterator ≡ cells_in ColumnMajor l.array;
}
