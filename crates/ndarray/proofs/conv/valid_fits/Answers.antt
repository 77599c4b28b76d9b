use Rattle.std.proofs.Common.{List, subst, sym}
use Rattle.std.specs.Prelude.{ℤ, pos}
use Rattle.ndarray.specs.Index.{InBox}
use Rattle.ndarray.specs.Integers.{int_products, int_sums}
use Rattle.ndarray.specs.Products.{magnitude_sum}
use Rattle.ndarray.specs.Sums.{IsSummable}
use Rattle.ndarray.proofs.convolution.MirroredKernels.{AreSeen, are-seen, counts-seen, products-seen}
use Rattle.ndarray.proofs.conv.valid_fits.Goals as goal
use Rattle.ndarray.proofs.conv.valid_fits.Goals.{After-mirrored_view-2}

seen : (g : _) (c : After-mirrored_view-2 g) → AreSeen c.args.a.now c.args.k.now c.view.result c.mirrored_view-2.result
seen g c = are-seen _ _ _ _ _ c.view.ensures.same c.view.ensures.whole c.view-2.ensures.same c.view-2.ensures.whole c.mirrored_view-2.ensures.lengths c.mirrored_view-2.ensures.cells

pub returns-clause-magnitudes : goal.returns-clause-magnitudes
returns-clause-magnitudes g c =
    let fit = λ (l : List ℤ). g.A.Number.fits (pos (magnitude_sum l)) in
    let counts = counts-seen (seen g (goal.at.returns-clause-magnitudes g c).After-mirrored_view-2) in
    let products = products-seen (seen g (goal.at.returns-clause-magnitudes g c).After-mirrored_view-2) int_sums int_products g.A.Number.value c.requires.as_many in (
      λ on ps here. subst fit (products ps here) (c.windows_fit-3.ensures.magnitudes.0 on ps (subst (λ ns. InBox ns ps) (sym counts) here)),
      λ all. c.windows_fit-3.ensures.magnitudes.1 (λ ps inside. let here = subst (λ ns. InBox ns ps) counts inside in subst fit (sym (products ps here)) (all ps here)),
    )

pub returns-clause-sums : goal.returns-clause-sums
returns-clause-sums g c = λ on ps here.
    let v = g.A.Valued in
    subst (IsSummable v.addition v.InRange) (products-seen (seen g (goal.at.returns-clause-sums g c).After-mirrored_view-2) v.addition v.multiplication v.meaning c.requires.as_many ps here)
    (g.met.A.IntegerScalar.inner_summable _ c.mirrored_view-2.result.cells (c.windows_fit-3.ensures.selections on ps (subst (λ ns. InBox ns ps) (sym (counts-seen (seen g (goal.at.returns-clause-sums g c).After-mirrored_view-2))) here)))
