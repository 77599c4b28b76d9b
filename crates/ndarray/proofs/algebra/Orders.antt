-- Column order and row order.
use Rattle.std.proofs.Common.{◌∙◌, map, ap, sym}
use Rattle.std.proofs.lemmas.List.Sorted.{IsPermutation-map}
use Rattle.ndarray.specs.Algebra.{CommutativeMonoid}
use Rattle.ndarray.specs.Grid.{cell}
use Rattle.ndarray.specs.Index.{column_order, row_order}
use Rattle.ndarray.specs.Sums.{total_by}
use Rattle.ndarray.specs.declared.base.shape.Order.TheVariants.{ColumnMajor}
use Rattle.ndarray.proofs.boxes.Orders.{column_order-is, row_order-is}
use Rattle.ndarray.proofs.callers.RowOrder.{box_in-rearranges}
use Rattle.ndarray.proofs.cells.Cells.{along-row_order}
use Rattle.ndarray.proofs.sums.Rearrangements.{total-rearranged}
use Rattle.ndarray.specs.Laws.{CellsHaveEqualTotals, ColumnOrderRearranges, OrdersHaveEqualTotals}
use Rattle.ndarray.proofs.algebra.Totals.{total_by-filter_map, value_of}

pub column_order-rearranges : ColumnOrderRearranges
column_order-rearranges ns = (row_order-is ns, column_order-is ns, box_in-rearranges ColumnMajor ns)

module _ {C : Type 0} (M : CommutativeMonoid C) where
  pub orders-alike : OrdersHaveEqualTotals M
  orders-alike ns f = total-rearranged M (map f (row_order ns)) (map f (column_order ns)) (IsPermutation-map f (row_order ns) (column_order ns) (box_in-rearranges ColumnMajor ns))

  pub cells-alike : {A : Type 0} (value : A → C) → CellsHaveEqualTotals M value
  cells-alike value g whole =
      total_by-filter_map M value (cell g) (column_order g.lengths)
      ∙ (orders-alike g.lengths (λ is. value_of M value (cell g is))
      ∙ (sym (total_by-filter_map M value (cell g) (row_order g.lengths))
      ∙ ap (total_by M value) (along-row_order g whole)))
