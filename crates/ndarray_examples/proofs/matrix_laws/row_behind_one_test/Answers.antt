use Rattle.ndarray.proofs.Common.{rules, ◌<◌, get_or, inr, refl, matrix_of, i64_values}
use Rattle.ndarray_examples.proofs.RowsOfMatrices.{row-made, row-multiplies}
use Rattle.ndarray_examples.proofs.matrix_laws.row_behind_one_test.Goals as goal

pub dot-requires : goal.dot-requires
dot-requires g c =
    let (shapes, sums) = c.if-not-entries_fit.ensures.defined refl in
    let below : c.args.i < get_or c.args.a.now.lengths 0 0 = search rules in
    row-multiplies i64_values c.args.a.now c.args.b.now c.row-row.result c.args.i c.raw_dim.ensures.axes c.raw_dim-2.ensures.axes c.row-row.ensures.value c.row-row.ensures.whole c.raw_dim-limit.ensures.limit c.raw_dim-2.ensures.limit shapes
    (c.product_ranges_pass.ensures.rows (matrix_of i64_values c.args.a.now) (matrix_of i64_values c.args.b.now) c.args.i below sums)

pub returns-clause-row : goal.returns-clause-row
returns-clause-row g c =
    row-made i64_values c.args.a.now c.args.b.now c.row-row.result c.args.i c.raw_dim.ensures.axes c.raw_dim-2.ensures.axes c.row-row.ensures.value c.row-row.ensures.whole
    c.mat_blocks.ensures.row (inr (c.if-not-entries_fit.ensures.exact.0 refl).0) c.in_ok-product.product c.in_ok-product.ensures.made
