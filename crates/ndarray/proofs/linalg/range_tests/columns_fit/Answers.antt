use Rattle.std.proofs.Common.{◌≡◌, ◌∙◌, ◌∷◌, [], ◌<◌, ap, arith, get_or, length, lit<, refl, subst, sym}
use Rattle.ndarray.specs.Integers.{int_products}
use Rattle.ndarray.specs.Products.{matrix_of, products_of, row_of}
use Rattle.ndarray.specs.WholeValues.{whole_numbers}
use Rattle.ndarray.proofs.cells.EntryTests.{EntriesFit, EntryFits, below-next, entries-yes, tested-no, tested-yes, vector-by-column}
use Rattle.ndarray.proofs.cells.SmallProducts.{small-products}
use Rattle.ndarray.proofs.lists.Decisions.{says_no}
use Rattle.ndarray.proofs.linalg.range_tests.columns_fit.Goals as goal

small-each : (g : _) (c : goal.Then-have_small_products g) → EntriesFit g.A.Number.fits (row_of (whole_numbers g.A.Number.value g.A.Number.fits) c.args.x.now) (matrix_of (whole_numbers g.A.Number.value g.A.Number.fits) c.args.b.now)
small-each g c =
    let v = g.A.Number.value in
    let e = whole_numbers v g.A.Number.fits in
    let exact = g.met.A.Integral.exact_law in
    let x = c.args.x.now in
    let b = c.args.b.now in
    let columns = ap (λ l. get_or l 0 0) (c.into_pattern-k.ensures ∙ c.raw_dim.ensures.lengths) ∙ sym c.requires.inner in
    small-products v g.A.Number.fits (λ y z t. g.A.Number.between_law y z t exact) (g.met.A.Zero.zero_fits_law exact) g.met.A.IntegerElem.negated_fits x b c.requires.vector.0 c.raw_dim.ensures.whole c.into_pattern-k.result.0 (c.have_small_products.ensures c.if-have_small_products.true)
    (row_of e x) (matrix_of e b) (λ _ k. k ∷ []) (λ k j. k ∷ j ∷ []) (λ _ _. refl) (λ _ _. refl) columns

pub returns-then-have_small_products-clause-magnitudes : goal.returns-then-have_small_products-clause-magnitudes
returns-then-have_small_products-clause-magnitudes g c =
    let e = whole_numbers g.A.Number.value g.A.Number.fits in
    entries-yes g.A.Number.fits (row_of e c.args.x.now) (matrix_of e c.args.b.now) (small-each g c)

pub returns-then-have_small_products-clause-sums : goal.returns-then-have_small_products-clause-sums
returns-then-have_small_products-clause-sums g c = λ _ i j row column. (small-each g c i j row column).1

pub returns-then-not-inner_stays_in_range-clause-magnitudes : goal.returns-then-not-inner_stays_in_range-clause-magnitudes
returns-then-not-inner_stays_in_range-clause-magnitudes g c =
    let v = g.A.Number.value in
    let fits = g.A.Number.fits in
    let x = c.args.x.now in
    let b = c.args.b.now in
    let y = c.index_axis.result in
    let (x_whole, one) = c.requires.vector in
    let both : length b.lengths ≡ 2 = c.raw_dim.ensures.axes in
    let lists = ap (λ l. products_of int_products v l c.cells_of-column.result) (c.again.ensures ∙ (c.cells_of-numbers.ensures ∙ ap (λ w. w.cells) c.view.ensures.same)) ∙ ap (products_of int_products v x.cells) c.cells_of-column.ensures in
    let products = lists ∙ vector-by-column (whole_numbers v fits) x b y one x_whole both c.requires.inner c.loop-j.j c.index_axis.ensures.value c.index_axis.ensures.whole in
    let within : c.loop-j.j < get_or b.lengths 1 0 = subst (λ n. c.loop-j.j < n) (ap (λ l. get_or l 1 0) (c.into_pattern-k.ensures ∙ c.raw_dim.ensures.lengths)) c.loop-j-test.true in
    let off = c.if-not-inner_stays_in_range.true in
    says_no _ (λ all. let on = tested-no fits v c.again.result c.cells_of-column.result _ products c.inner_stays_in_range.result c.inner_stays_in_range.ensures.magnitudes c.inner_stays_in_range.ensures.selections (all 0 c.loop-j.j (lit< tt) within) in absurd (cc))

pub loop-j-preserved : goal.loop-j-preserved
loop-j-preserved g c =
    let v = g.A.Number.value in
    let fits = g.A.Number.fits in
    let x = c.args.x.now in
    let b = c.args.b.now in
    let y = c.index_axis.result in
    let (x_whole, one) = c.requires.vector in
    let both : length b.lengths ≡ 2 = c.raw_dim.ensures.axes in
    let lists = ap (λ l. products_of int_products v l c.cells_of-column.result) (c.again.ensures ∙ (c.cells_of-numbers.ensures ∙ ap (λ w. w.cells) c.view.ensures.same)) ∙ ap (products_of int_products v x.cells) c.cells_of-column.ensures in
    let products = lists ∙ vector-by-column (whole_numbers v fits) x b y one x_whole both c.requires.inner c.loop-j.j c.index_axis.ensures.value c.index_axis.ensures.whole in
    let here = tested-yes fits v c.again.result c.cells_of-column.result _ products c.inner_stays_in_range.result c.inner_stays_in_range.ensures.magnitudes c.inner_stays_in_range.ensures.selections c.if-not-inner_stays_in_range.false in
    λ k lt. below-next (EntryFits fits (row_of (whole_numbers v fits) x) (matrix_of (whole_numbers v fits) b) 0) c.loop-j.j c.loop-j.invariant here k (omega (arith, lt))

pub returns-clause-magnitudes : goal.returns-clause-magnitudes
returns-clause-magnitudes g c =
    let e = whole_numbers g.A.Number.value g.A.Number.fits in
    let long = ap (λ l. get_or l 1 0) (c.into_pattern-k.ensures ∙ c.raw_dim.ensures.lengths) in
    entries-yes g.A.Number.fits (row_of e c.args.x.now) (matrix_of e c.args.b.now) (λ i j row column. c.loop-j.invariant j (omega (arith, column, long, c.loop-j-test.false)))

pub returns-clause-sums : goal.returns-clause-sums
returns-clause-sums g c =
    let long = ap (λ l. get_or l 1 0) (c.into_pattern-k.ensures ∙ c.raw_dim.ensures.lengths) in
    λ on i j row column. (c.loop-j.invariant j (omega (arith, column, long, c.loop-j-test.false))).1
