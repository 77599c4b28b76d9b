use Rattle.std.proofs.Common.{◌∙◌, ap}
use Rattle.ndarray.proofs.sums.MagnitudeSums.{apart-start}
use Rattle.ndarray.proofs.reduce.range_tests.no_sums.Goals as goal

pub returns : goal.returns
returns g c =
    let v = g.A.Number.value in
    let exact = g.met.A.Integral.exact_law in
    λ whole. apart-start g.A.Number.fits whole _ _ (g.met.A.Zero.zero_fits_law exact) (ap v c.zero.ensures ∙ g.met.A.Zero.zero_law exact) (ap v c.zero-2.ensures ∙ g.met.A.Zero.zero_law exact)
