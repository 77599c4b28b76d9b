use Rattle.std.proofs.Common.{◌≡◌, ◌∙◌, ◌*◌, Some, ap, pos}
use Rattle.std.specs.Prelude.{◌*ℤ◌}
use Rattle.ndarray.proofs.sums.SmallProducts.{below-fits}
use Rattle.ndarray.proofs.reduce.small_products.are_small.Goals as goal

pub returns : goal.returns
returns g c =
    let v = g.A.Number.value in
    λ xs ys hx hy yes.
    let (m, is_m, up_to_m) = c.in-Some.ensures xs hx in
    let (n, is_n, up_to_n) = c.in-Some-largest_magnitude.ensures ys hy in
    let product = (g.met.A.CheckedMul.checked_mul_law c.in-Some.left c.in-Some-largest_magnitude.right (Some c.in-Some-checked_mul.product) c.in-Some-checked_mul.ensures).1 in
    let is : v c.in-Some-checked_mul.product ≡ pos (m * n) = product ∙ (ap (λ z. z *ℤ v c.in-Some-largest_magnitude.right) is_m ∙ ap (λ z. pos m *ℤ z) is_n) in
    let times = c.in-Some-times.ensures (m * n) is in
    record {
      left = m;
      left_up_to = up_to_m;
      right = n;
      right_up_to = up_to_n;
      in_range = below-fits g.A.Number.fits (λ x y z. g.A.Number.between_law x y z g.met.A.Integral.exact_law) (g.met.A.Zero.zero_fits_law g.met.A.Integral.exact_law) (c.args.count * (m * n)) (v c.in-Some-times._most) times.1 times.0;
    }
