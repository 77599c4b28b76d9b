use Rattle.std.proofs.Common.{◌≡◌, ◌∙◌, Some, ap, pos}
use Rattle.std.specs.Prelude.{◌-ℤ◌}
use Rattle.ndarray.proofs.sums.SmallProducts.{extremes-all}
use Rattle.ndarray.proofs.reduce.small_products.largest_magnitude.Goals as goal

pub returns : goal.returns
returns g c =
    let v = g.A.Number.value in
    let exact = g.met.A.Integral.exact_law in
    let least = v c.args.extremes.now.least in
    let size = v c.in-Some.size in
    let is : size ≡ pos 0 -ℤ least = (g.met.A.CheckedSub.checked_sub_law c.zero.result c.args.extremes.now.least (Some c.in-Some.size) c.in-Some.ensures).1
    ∙ ap (λ z. z -ℤ least) (ap v c.zero.ensures ∙ g.met.A.Zero.zero_law exact) in
    λ whole h. extremes-all g.A.Number.fits whole least (v c.args.extremes.now.greatest) size (v c.larger.result) is (c.larger.ensures.0, c.larger.ensures.1) h
