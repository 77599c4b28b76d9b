use Rattle.std.proofs.Common.{◌≡◌, length, sym, ap, ◌∙◌, map, take, Some, arith}
use Rattle.std.proofs.lemmas.List.{take_all}
use Rattle.ndarray.specs.Grid.{IsGrid, cell}
use Rattle.ndarray.specs.Index.{size, row_order}
use Rattle.ndarray.specs.Orders.{cells_in, HasInOrder}
use Rattle.ndarray.specs.declared.base.shape.Order.TheVariants.{RowMajor, ColumnMajor}
use Rattle.ndarray.proofs.callers.IndexLists.{box_in-is}
use Rattle.ndtables.specs.Stored.{stored_array}
use Rattle.ndtables.proofs.StoredCells.{stored_array-is, stored_array-rows, grid-is, cells_in-list, length-cells_in}
use Rattle.ndtables.proofs.table.Table.new.Goals as goal

pub invariant_of-result-in-ColumnMajor : goal.invariant_of-result-in-ColumnMajor
invariant_of-result-in-ColumnMajor g c =
    let rows = c.unwrap-rows.result in
    let lengths : rows.lengths ≡ g.D.Lengths.numbers c.copied.result = rw c.unwrap-rows.ensures at c.from_shape.ensures.lengths in
    let whole : IsGrid rows = rw c.unwrap-rows.ensures at c.from_shape.ensures.whole in
    record {
      limit = c.requires.limit;
      as_many = ap length c.in_ok-cells-in-ColumnMajor.ensures ∙ (length-cells_in ColumnMajor rows whole ∙ ap size (lengths ∙ c.copied.ensures.value));
    }

pub returns-in-RowMajor : goal.returns-in-RowMajor
returns-in-RowMajor g c =
    let ns = g.D.Lengths.numbers c.args.dim in
    ap (λ o. stored_array o ns c.args.cells.items) c.in-RowMajor.is ∙ stored_array-rows ns c.args.cells.items c.requires.as_many

pub returns-in_ok-cells-in-ColumnMajor : goal.returns-in_ok-cells-in-ColumnMajor
returns-in_ok-cells-in-ColumnMajor g c =
    let ns = g.D.Lengths.numbers c.args.dim in
    let xs = c.args.cells.items in
    let rows = c.unwrap-rows.result in
    let lengths : rows.lengths ≡ ns = (rw c.unwrap-rows.ensures at c.from_shape.ensures.lengths) ∙ c.copied.ensures.value in
    let whole : IsGrid rows = rw c.unwrap-rows.ensures at c.from_shape.ensures.whole in
    let told : HasInOrder RowMajor rows (take (size rows.lengths) c.as_slice.result.now) = rw c.unwrap-rows.ensures at c.from_shape.ensures.cells in
    let all : take (size rows.lengths) c.as_slice.result.now ≡ xs =
    ap (take (size rows.lengths)) c.as_slice.ensures.value ∙ take_all (size rows.lengths) xs (let e = ap size lengths in let f = c.requires.as_many in omega arith) in
    let listed : map (cell rows) (row_order rows.lengths) ≡ map Some xs =
    told (row_order rows.lengths) (box_in-is RowMajor rows.lengths) ∙ ap (map Some) all in
    ap (λ o. stored_array o ns c.in_ok-cells-in-ColumnMajor.cells.items) c.in-ColumnMajor.is
    ∙ (ap (stored_array ColumnMajor ns) c.in_ok-cells-in-ColumnMajor.ensures
    ∙ (sym (stored_array-is ColumnMajor rows ns (cells_in ColumnMajor rows) whole lengths (cells_in-list ColumnMajor rows whole))
    ∙ grid-is rows ns xs whole lengths c.requires.as_many listed))
