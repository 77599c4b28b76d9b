use Rattle.std.proofs.Common.{◌≡◌, ◌∙◌, ◌∷◌, [], ℕ, ◌<◌, ap, arith, get_or, length, lit<, pos, refl, subst, sym}
use Rattle.ndarray.specs.Products.{magnitude_sum, matrix_of}
use Rattle.ndarray.specs.WholeValues.{whole_numbers}
use Rattle.ndarray.proofs.cells.EntryTests.{EntriesFit, EntryFits, ProductsFit, below-next, entries-yes, row-of_matrix}
use Rattle.ndarray.proofs.cells.SmallProducts.{small-products}
use Rattle.ndarray.proofs.lists.Decisions.{says_no}
use Rattle.ndarray.proofs.linalg.range_tests.rows_and_columns_fit.Goals as goal

small-each : (g : _) (c : goal.Then-have_small_products g) → EntriesFit g.A.Number.fits (matrix_of (whole_numbers g.A.Number.value g.A.Number.fits) c.args.a.now) (matrix_of (whole_numbers g.A.Number.value g.A.Number.fits) c.args.b.now)
small-each g c =
    let v = g.A.Number.value in
    let e = whole_numbers v g.A.Number.fits in
    let exact = g.met.A.Integral.exact_law in
    let a = c.args.a.now in
    let b = c.args.b.now in
    let columns = ap (λ l. get_or l 1 0) (c.into_pattern-m.ensures ∙ c.raw_dim.ensures.lengths) in
    small-products v g.A.Number.fits (λ y z t. g.A.Number.between_law y z t exact) (g.met.A.Zero.zero_fits_law exact) g.met.A.IntegerElem.negated_fits a b c.raw_dim.ensures.whole c.raw_dim-2.ensures.whole c.into_pattern-m.result.1 (c.have_small_products.ensures c.if-have_small_products.true)
    (matrix_of e a) (matrix_of e b) (λ i k. i ∷ k ∷ []) (λ k j. k ∷ j ∷ []) (λ _ _. refl) (λ _ _. refl) columns

pub returns-then-have_small_products-clause-magnitudes : goal.returns-then-have_small_products-clause-magnitudes
returns-then-have_small_products-clause-magnitudes g c =
    let e = whole_numbers g.A.Number.value g.A.Number.fits in
    entries-yes g.A.Number.fits (matrix_of e c.args.a.now) (matrix_of e c.args.b.now) (small-each g c)

pub returns-then-have_small_products-clause-sums : goal.returns-then-have_small_products-clause-sums
returns-then-have_small_products-clause-sums g c = λ _ i j row column. (small-each g c i j row column).1

pub returns-then-not-columns_fit-clause-magnitudes : goal.returns-then-not-columns_fit-clause-magnitudes
returns-then-not-columns_fit-clause-magnitudes g c =
    let fits = g.A.Number.fits in
    let e = whole_numbers g.A.Number.value fits in
    let a = c.args.a.now in
    let i = c.loop-i.i in
    let two : length a.lengths ≡ 2 = c.raw_dim.ensures.axes in
    let within : i < get_or a.lengths 0 0 = subst (λ n. i < n) (ap (λ l. get_or l 0 0) (c.into_pattern-m.ensures ∙ c.raw_dim.ensures.lengths)) c.loop-i-test.true in
    let off = c.if-not-columns_fit.true in
    says_no _ (λ all.
    let on = c.columns_fit.ensures.magnitudes.1
    (λ _ j row column. subst (λ l. fits (pos (magnitude_sum l))) (sym (row-of_matrix e a c.index_axis.result (matrix_of e c.args.b.now) two i j c.index_axis.ensures.value c.index_axis.ensures.whole)) (all i j within column)) in
    absurd (cc))

pub loop-i-preserved : goal.loop-i-preserved
loop-i-preserved g c =
    let fits = g.A.Number.fits in
    let e = whole_numbers g.A.Number.value fits in
    let a = c.args.a.now in
    let b = c.args.b.now in
    let i = c.loop-i.i in
    let two : length a.lengths ≡ 2 = c.raw_dim.ensures.axes in
    let on = c.if-not-columns_fit.false in
    λ k lt. below-next (λ n. (j : ℕ) → j < get_or b.lengths 1 0 → EntryFits fits (matrix_of e a) (matrix_of e b) n j) i c.loop-i.invariant
    (λ j column. subst (ProductsFit fits) (row-of_matrix e a c.index_axis.result (matrix_of e b) two i j c.index_axis.ensures.value c.index_axis.ensures.whole)
    (c.columns_fit.ensures.magnitudes.0 on 0 j (lit< tt) column, c.columns_fit.ensures.sums on 0 j (lit< tt) column))
    k (omega (arith, lt))
