use Rattle.ndarray.proofs.Common.{◌∙◌, ap, int_products, int_sums, one_axis, full-made}
use Rattle.ndarray_examples.proofs.filters.convolution_either_way.Goals as goal

pub returns-clause-one_way : goal.returns-clause-one_way
returns-clause-one_way g c =
    let made = c.in_ok-full.ensures.made in
    full-made int_sums int_products c.args.x.now.cells c.args.y.now.cells c.in_ok-full.full made.lengths made.whole made.cells

pub returns-clause-other_way : goal.returns-clause-other_way
returns-clause-other_way g c =
    let made = c.in_ok-full.ensures.made in
    full-made int_sums int_products c.args.x.now.cells c.args.y.now.cells c.in_ok-full.full made.lengths made.whole made.cells
    ∙ ap one_axis (c.conv_commutes.ensures.commutes c.args.x.now.cells c.args.y.now.cells)
