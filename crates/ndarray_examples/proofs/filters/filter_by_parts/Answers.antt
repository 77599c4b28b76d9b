use Rattle.ndarray.proofs.Common.{◌∙◌, ap, sym, array_by-follows, int_products, int_sums, total, valid_counts, valid_products}
use Rattle.ndarray.specs.Convolution.{valid_convolution_by}
use Rattle.ndarray_examples.proofs.filters.filter_by_parts.Goals as goal

pub returns : goal.returns
returns g c = λ kernel whole positive parts.
    let a = c.args.picture.now in
    let column = c.args.column.now in
    let row = c.args.row.now in
    let first = c.in_ok-once.ensures.made in
    let second = c.in_ok-twice.ensures.made in
    array_by-follows c.in_ok-twice.twice (valid_counts c.in_ok-once.once.lengths row.lengths) (λ ps. total int_sums (valid_products int_products (λ x. x) c.in_ok-once.once row ps)) second.whole second.lengths second.cells
    ∙ (ap (λ w. valid_convolution_by int_sums int_products (λ x. x) w row) (array_by-follows c.in_ok-once.once (valid_counts a.lengths column.lengths) (λ ps. total int_sums (valid_products int_products (λ x. x) a column ps)) first.whole first.lengths first.cells)
    ∙ sym (c.filters_compose.ensures.separate a column row kernel c.raw_dim.ensures.whole c.raw_dim-2.ensures.whole c.raw_dim-3.ensures.whole whole positive parts))
