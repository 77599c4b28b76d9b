use Rattle.ndarray.proofs.Common.{refl}
use Rattle.ndarray_examples.proofs.product_ranges.combine_column.Goals as goal

pub general_mat_vec_mul-requires-clause-scaled : goal.general_mat_vec_mul-requires-clause-scaled
general_mat_vec_mul-requires-clause-scaled g c κs within = c.if-not-mat_vec_fits.ensures.scaled refl
