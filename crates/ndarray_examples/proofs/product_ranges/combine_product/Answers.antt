use Rattle.ndarray.proofs.Common.{refl}
use Rattle.ndarray_examples.proofs.product_ranges.combine_product.Goals as goal

pub general_mat_mul-requires-clause-scaled : goal.general_mat_mul-requires-clause-scaled
general_mat_mul-requires-clause-scaled g c κs within = c.if-not-mat_mul_fits.ensures.scaled refl
