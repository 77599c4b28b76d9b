use Rattle.ndarray.proofs.algebra.RangesOfProducts.{magnitudes-by_sides, magnitudes-of_blocks, magnitudes-of_rows, sums-by_sides, sums-of_blocks, sums-of_rows}
use Rattle.ndarray.proofs.laws.product_ranges_pass.Goals as goal

pub returns : goal.returns
returns g c = record {
  rows = sums-of_rows g.A.Valued;
  blocks = sums-of_blocks g.A.Valued;
  sides = sums-by_sides g.A.Valued;
  row_magnitudes = magnitudes-of_rows g.A.Number.fits;
  block_magnitudes = magnitudes-of_blocks g.A.Number.fits;
  side_magnitudes = magnitudes-by_sides g.A.Number.fits;
}
