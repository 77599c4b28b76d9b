-- The cells that were pushed, with those of the rows to come, are those that are kept.
use Rattle.std.proofs.Common.{◌≡◌, ◌<◌, ◌-◌, ◌++◌, ◌^◌, ℕ, List, Option, All, length}
use Rattle.std.specs.Prelude.{filter_map, flat_map, int_le, ◌&&◌}
use Rattle.ndarray.specs.Index.{InBox, row_order}
use Rattle.ndarray.specs.base.Ranks.{row_from}
use Rattle.ndarray.specs.declared.base.shape.Order.TheVariants.{RowMajor}
use Rattle.ndarray.proofs.cells.Diagonals.{kept_at}
use Rattle.ndarray.proofs.tri.diagonals_by_rows.Given as goal

abbrev pub invariant-loop-index : goal.invariant-loop-index
invariant-loop-index g l =
    let axis : ℕ = length l.array.lengths - 1 in
    let kept : List ℕ → Option g.row.A.Denot = kept_at (λ d. int_le l.first d && int_le d l.last) g.A.Zero.zero l.array in
    record {
      lengths : l.kept.lengths ≡ l.array.lengths;
      order : l.kept.order ≡ RowMajor;
      cells : l.kept.cells ++ flat_map (λ is. filter_map kept (row_from is axis l.columns)) l.index-iterator ≡ filter_map kept (row_order l.array.lengths);
      within : All (λ is. (0 < l.columns) × All (InBox l.array.lengths) (row_from is axis l.columns)) l.index-iterator;
      fits : l.columns < 2 ^ 63;
    }
