use Rattle.ndarray.proofs.Common.{refl, inner-matrices}
use Rattle.ndarray_examples.proofs.matrix_laws.product_of_pair.Goals as goal

pub returns : goal.returns
returns c = (inner-matrices c.args.a.now.lengths c.args.b.now.lengths c.raw_dim.ensures.axes c.raw_dim-2.ensures.axes (c.if-not-entries_fit.ensures.exact.0 refl).0.inner, c.in_ok-product.ensures.made)
