use Rattle.ndarray.proofs.Common.{rules, ◌≡◌, ◌∙◌, ap, length}
use Rattle.std.specs.Ordering.{int_cmp}
use Rattle.ndarray.specs.Extremes.{less}
use Rattle.ndarray.specs.Views.{transpose_of}
use Rattle.ndarray.proofs.cells.CellsInOrder.{length-transpose_of}
use Rattle.ndarray_examples.proofs.BestCells.{along-rows}
use Rattle.ndarray_examples.proofs.laws_of_parts.least_by_columns.Goals as goal

pub returns : goal.returns
returns g c =
    let t = c.reversed_axes-columns.result in
    let turned : t ≡ transpose_of c.args.a.now = search rules in
    let each = along-rows c.column_order.ensures.rearranges c.fold_orders.ensures.bests (less int_cmp) c.args.a.now t c.raw_dim-whole.ensures.whole turned in
    let many : length t.cells ≡ length c.args.a.now.cells = ap (λ w. length w.cells) turned ∙ length-transpose_of c.args.a.now c.raw_dim-whole.ensures.whole in
    search (rules, each, many)
