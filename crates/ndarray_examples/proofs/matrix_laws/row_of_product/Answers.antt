use Rattle.ndarray.proofs.Common.{inl, refl, i64_values}
use Rattle.ndarray_examples.proofs.RowsOfMatrices.{row-made}
use Rattle.ndarray_examples.proofs.matrix_laws.row_of_product.Goals as goal

pub returns-clause-row : goal.returns-clause-row
returns-clause-row g c =
    row-made i64_values c.args.a.now c.args.b.now c.row-row.result c.args.i c.raw_dim.ensures.axes c.raw_dim-2.ensures.axes c.row-row.ensures.value c.row-row.ensures.whole
    c.mat_blocks.ensures.row (inl (c.if-not-entries_fit.ensures.exact.0 refl).0) c.in_ok-product.product c.in_ok-product.ensures.made
