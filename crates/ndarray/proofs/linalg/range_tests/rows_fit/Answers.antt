use Rattle.std.proofs.Common.{◌≡◌, ◌∙◌, ◌∷◌, [], ◌<◌, ap, arith, get_or, length, lit<, refl, subst}
use Rattle.ndarray.specs.Integers.{int_products}
use Rattle.ndarray.specs.Products.{column_of, matrix_of, products_of}
use Rattle.ndarray.specs.WholeValues.{whole_numbers}
use Rattle.ndarray.proofs.cells.EntryTests.{EntriesFit, EntryFits, below-next, entries-yes, row-by-vector, tested-no, tested-yes}
use Rattle.ndarray.proofs.cells.SmallProducts.{small-products}
use Rattle.ndarray.proofs.lists.Decisions.{says_no}
use Rattle.ndarray.proofs.linalg.range_tests.rows_fit.Goals as goal

small-each : (g : _) (c : goal.Then-have_small_products g) → EntriesFit g.A.Number.fits (matrix_of (whole_numbers g.A.Number.value g.A.Number.fits) c.args.a.now) (column_of (whole_numbers g.A.Number.value g.A.Number.fits) c.args.x.now)
small-each g c =
    let v = g.A.Number.value in
    let e = whole_numbers v g.A.Number.fits in
    let exact = g.met.A.Integral.exact_law in
    let a = c.args.a.now in
    let x = c.args.x.now in
    let columns = ap (λ l. get_or l 1 0) (c.into_pattern-m.ensures ∙ c.raw_dim.ensures.lengths) in
    small-products v g.A.Number.fits (λ y z t. g.A.Number.between_law y z t exact) (g.met.A.Zero.zero_fits_law exact) g.met.A.IntegerElem.negated_fits a x c.raw_dim.ensures.whole c.requires.vector.0 c.into_pattern-m.result.1 (c.have_small_products.ensures c.if-have_small_products.true)
    (matrix_of e a) (column_of e x) (λ i k. i ∷ k ∷ []) (λ k _. k ∷ []) (λ _ _. refl) (λ _ _. refl) columns

pub returns-then-have_small_products-clause-magnitudes : goal.returns-then-have_small_products-clause-magnitudes
returns-then-have_small_products-clause-magnitudes g c =
    let e = whole_numbers g.A.Number.value g.A.Number.fits in
    entries-yes g.A.Number.fits (matrix_of e c.args.a.now) (column_of e c.args.x.now) (small-each g c)

pub returns-then-have_small_products-clause-sums : goal.returns-then-have_small_products-clause-sums
returns-then-have_small_products-clause-sums g c = λ _ i j row column. (small-each g c i j row column).1

pub returns-then-not-inner_stays_in_range-clause-magnitudes : goal.returns-then-not-inner_stays_in_range-clause-magnitudes
returns-then-not-inner_stays_in_range-clause-magnitudes g c =
    let v = g.A.Number.value in
    let fits = g.A.Number.fits in
    let a = c.args.a.now in
    let x = c.args.x.now in
    let r = c.index_axis.result in
    let (x_whole, one) = c.requires.vector in
    let two : length a.lengths ≡ 2 = c.raw_dim.ensures.axes in
    let lists = ap (λ l. products_of int_products v l c.again.result) c.cells_of-row.ensures ∙ ap (products_of int_products v r.cells) (c.again.ensures ∙ (c.cells_of-numbers.ensures ∙ ap (λ w. w.cells) c.view.ensures.same)) in
    let products = lists ∙ row-by-vector (whole_numbers v fits) a r x two one x_whole c.requires.inner c.loop-i.i c.index_axis.ensures.value c.index_axis.ensures.whole in
    let within : c.loop-i.i < get_or a.lengths 0 0 = subst (λ n. c.loop-i.i < n) (ap (λ l. get_or l 0 0) (c.into_pattern-m.ensures ∙ c.raw_dim.ensures.lengths)) c.loop-i-test.true in
    let off = c.if-not-inner_stays_in_range.true in
    says_no _ (λ all. let on = tested-no fits v c.cells_of-row.result c.again.result _ products c.inner_stays_in_range.result c.inner_stays_in_range.ensures.magnitudes c.inner_stays_in_range.ensures.selections (all c.loop-i.i 0 within (lit< tt)) in absurd (cc))

pub loop-i-preserved : goal.loop-i-preserved
loop-i-preserved g c =
    let v = g.A.Number.value in
    let fits = g.A.Number.fits in
    let a = c.args.a.now in
    let x = c.args.x.now in
    let r = c.index_axis.result in
    let (x_whole, one) = c.requires.vector in
    let two : length a.lengths ≡ 2 = c.raw_dim.ensures.axes in
    let lists = ap (λ l. products_of int_products v l c.again.result) c.cells_of-row.ensures ∙ ap (products_of int_products v r.cells) (c.again.ensures ∙ (c.cells_of-numbers.ensures ∙ ap (λ w. w.cells) c.view.ensures.same)) in
    let products = lists ∙ row-by-vector (whole_numbers v fits) a r x two one x_whole c.requires.inner c.loop-i.i c.index_axis.ensures.value c.index_axis.ensures.whole in
    let here = tested-yes fits v c.cells_of-row.result c.again.result _ products c.inner_stays_in_range.result c.inner_stays_in_range.ensures.magnitudes c.inner_stays_in_range.ensures.selections c.if-not-inner_stays_in_range.false in
    λ k lt. below-next (λ n. EntryFits fits (matrix_of (whole_numbers v fits) a) (column_of (whole_numbers v fits) x) n 0) c.loop-i.i c.loop-i.invariant here k (omega (arith, lt))

pub returns-clause-magnitudes : goal.returns-clause-magnitudes
returns-clause-magnitudes g c =
    let e = whole_numbers g.A.Number.value g.A.Number.fits in
    let long = ap (λ l. get_or l 0 0) (c.into_pattern-m.ensures ∙ c.raw_dim.ensures.lengths) in
    entries-yes g.A.Number.fits (matrix_of e c.args.a.now) (column_of e c.args.x.now) (λ i j row column. c.loop-i.invariant i (omega (arith, row, long, c.loop-i-test.false)))

pub returns-clause-sums : goal.returns-clause-sums
returns-clause-sums g c =
    let long = ap (λ l. get_or l 0 0) (c.into_pattern-m.ensures ∙ c.raw_dim.ensures.lengths) in
    λ on i j row column. (c.loop-i.invariant i (omega (arith, row, long, c.loop-i-test.false))).1
