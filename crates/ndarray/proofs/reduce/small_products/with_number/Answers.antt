use Rattle.ndarray.proofs.sums.SmallProducts.{extremes-next, of-one}
use Rattle.ndarray.proofs.reduce.small_products.with_number.Goals as goal

pub returns : goal.returns
returns g c =
    let v = g.A.Number.value in
    let (low_x, low, which_low) = c.smaller.ensures in
    let (high_x, high, which_high) = c.larger.ensures in
    λ whole rest h. extremes-next g.A.Number.fits whole rest (v c.args.x) _ _ (v c.smaller.result) (v c.larger.result) c.tell_fits.ensures (low_x, low) (of-one v which_low) (high_x, high) (of-one v which_high) h
