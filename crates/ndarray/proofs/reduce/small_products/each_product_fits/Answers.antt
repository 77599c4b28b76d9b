use Rattle.ndarray.proofs.reduce.small_products.each_product_fits.Goals as goal

pub returns : goal.returns
returns g c = c.corner_products_fit.ensures _ _ c.extremes_of_array.ensures c.extremes_of_array-2.ensures
