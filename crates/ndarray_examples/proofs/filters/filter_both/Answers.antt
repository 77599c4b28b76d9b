use Rattle.ndarray.proofs.Common.{rules, ◌≡◌, ◌∙◌, ◌+ℤ◌, ap, subst, sym, int_products, int_sums, InBox, array_by-follows, cell-inside, lengths-same, valid_counts}
use Rattle.ndarray.specs.FilterLaws.{filtered_at}
use Rattle.ndarray_examples.proofs.SumsOfMatrices.{copy-adds}
use Rattle.ndarray_examples.proofs.filters.filter_both.Goals as goal

pub returns : goal.returns
returns g c =
    let a = c.args.a.now in
    let b = c.args.b.now in
    let k = c.args.kernel.now in
    let adds = copy-adds a b c.in_ok-copy.copy c.in_ok-sum.sum (c.in_ok-copy.ensures.same (λ x y h. h)) c.in_ok-copy.ensures.whole c.raw_dim-2.ensures.whole (search rules) c.in_ok-sum.ensures.made in
    let made = c.in_ok-filtered.ensures.made in
    let counts : c.in_ok-filtered.filtered.lengths ≡ valid_counts a.lengths k.lengths = made.lengths ∙ ap (λ ns. valid_counts ns k.lengths) (adds.sums.lengths ∙ lengths-same a b adds.left adds.right adds.same) in
    array_by-follows c.in_ok-filtered.filtered (valid_counts a.lengths k.lengths) (λ ps. filtered_at int_sums int_products (λ x. x) a k ps +ℤ filtered_at int_sums int_products (λ x. x) b k ps) made.whole counts
    (λ ps z here. made.cells ps z here ∙ c.filters_add.ensures.of_sums a b c.in_ok-sum.sum k adds c.raw_dim-3.ensures.whole (c.raw_dim-3.ensures.axes ∙ sym c.raw_dim.ensures.axes) ps (subst (λ ns. InBox ns ps) counts (cell-inside c.in_ok-filtered.filtered ps z here)))
