use Rattle.std.proofs.Common.{ap, subst, sym}
use Rattle.ndarray.specs.Convolution.{valid_counts, valid_products}
use Rattle.ndarray.specs.Index.{InBox}
use Rattle.ndarray.specs.Sums.{IsSummable, total}
use Rattle.ndarray.proofs.convolution.MirroredKernels.{AreSeen, are-seen, counts-seen, products-seen}
use Rattle.ndarray.proofs.convolution.WindowSums.{values-in_box}
use Rattle.ndarray.proofs.conv.conv_valid.Goals as goal
use Rattle.ndarray.proofs.conv.conv_valid.Goals.{After-mirrored_view-2}

seen : (g : _) (c : After-mirrored_view-2 g) → AreSeen c.args.a.now c.args.k.now c.view.result c.mirrored_view-2.result
seen g c = are-seen _ _ _ _ _ c.view.ensures.same c.view.ensures.whole c.view-2.ensures.same c.view-2.ensures.whole c.mirrored_view-2.ensures.lengths c.mirrored_view-2.ensures.cells

pub over_windows-requires-clause-sums : goal.over_windows-requires-clause-sums
over_windows-requires-clause-sums g c κs within = λ ps inside.
    let v = g.A.Valued in
    let here = subst (λ ns. InBox ns ps) (counts-seen (seen g (goal.at.over_windows-requires-clause-sums g c).After-mirrored_view-2)) inside in
    subst (IsSummable v.addition v.InRange) (sym (products-seen (seen g (goal.at.over_windows-requires-clause-sums g c).After-mirrored_view-2) v.addition v.multiplication v.meaning c.requires.shapes.as_many ps here)) (c.requires.sums ps here)

pub returns : goal.returns
returns g c =
    let v = g.A.Valued in
    values-in_box v _ (valid_counts c.args.a.now.lengths c.args.k.now.lengths) _ (λ ps. total v.addition (valid_products v.multiplication v.meaning c.args.a.now c.args.k.now ps)) c.over_windows-3.result (counts-seen (seen g (goal.at.returns g c).After-mirrored_view-2))
    (λ ps here. ap (total v.addition) (products-seen (seen g (goal.at.returns g c).After-mirrored_view-2) v.addition v.multiplication v.meaning c.requires.shapes.as_many ps here)) c.over_windows-3.ensures
