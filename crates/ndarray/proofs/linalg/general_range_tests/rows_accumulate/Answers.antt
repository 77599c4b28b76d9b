use Rattle.std.proofs.Common.{◌≡◌, ◌∙◌, ◌<◌, ap, arith, get_or, pos, subst, sym}
use Rattle.ndarray.specs.Integers.{int_products, int_sums}
use Rattle.ndarray.specs.Matrices.{inner_products}
use Rattle.ndarray.specs.Products.{CanAddScaled, column_of, magnitude_sum, matrix_of, products_of}
use Rattle.ndarray.specs.Sums.{total}
use Rattle.ndarray.specs.WholeValues.{whole_numbers}
use Rattle.ndarray.proofs.cells.AccumulationTests.{RowAccumulates, row-needed, rows-enough, rows-sums}
use Rattle.ndarray.proofs.cells.EntryTests.{ProductsFit, below-next, row-by-vector}
use Rattle.ndarray.proofs.lists.Decisions.{says_no, says_yes}
use Rattle.ndarray.proofs.linalg.general_range_tests.rows_accumulate.Goals as goal
use Rattle.ndarray.proofs.linalg.general_range_tests.rows_accumulate.Goals.{After-entry_accumulates}

-- the products of the row are those of the matrices
same-products : (g : _) (c : After-entry_accumulates g) → products_of int_products g.A.Number.value c.index_axis-row.result.cells c.args.x.now.cells
    ≡ inner_products int_products (matrix_of (whole_numbers g.A.Number.value g.A.Number.fits) c.args.a.now) (column_of (whole_numbers g.A.Number.value g.A.Number.fits) c.args.x.now) c.loop-i.i 0
same-products g c = row-by-vector (whole_numbers g.A.Number.value g.A.Number.fits) c.args.a.now c.index_axis-row.result c.args.x.now c.raw_dim.ensures.axes c.raw_dim-vector.ensures.axes c.raw_dim-vector.ensures.whole c.requires.inner c.loop-i.i c.index_axis-row.ensures.value c.index_axis-row.ensures.whole

pub returns-then-not-entry_accumulates-clause-exact : goal.returns-then-not-entry_accumulates-clause-exact
returns-then-not-entry_accumulates-clause-exact g c =
    let v = g.A.Number.value in
    let fits = g.A.Number.fits in
    let a = c.args.a.now in
    let same = same-products g (goal.at.returns-then-not-entry_accumulates-clause-exact g c).After-entry_accumulates in
    let within : c.loop-i.i < get_or a.lengths 0 0 = subst (λ n. c.loop-i.i < n) (ap (λ l. get_or l 0 0) (c.into_pattern-m.ensures ∙ c.raw_dim.ensures.lengths)) c.loop-i-test.true in
    let off = c.if-not-entry_accumulates.true in
    says_no _ (λ all.
    let asked = row-needed v fits c.args.alpha c.args.beta a c.args.x.now c.args.y.now c.requires.lengths all c.loop-i.i within c.in-Some.entry.now (sym c.in-Some.ensures.value) in
    let on = c.entry_accumulates.ensures.exact.1 (
      subst (λ zs. fits (pos (magnitude_sum zs))) (sym same) asked.0,
      subst (λ zs. CanAddScaled (whole_numbers v fits) (v c.args.alpha) (v c.args.beta) (v c.in-Some.entry.now) (total int_sums zs)) (sym same) asked.1,
    ) in
    absurd (cc))

pub loop-i-preserved : goal.loop-i-preserved
loop-i-preserved g c =
    let v = g.A.Number.value in
    let fits = g.A.Number.fits in
    let same = same-products g (goal.at.loop-i-preserved g c).After-entry_accumulates in
    let on = c.if-not-entry_accumulates.false in
    let yes = c.entry_accumulates.ensures.exact.0 on in
    let can = subst (λ zs. CanAddScaled (whole_numbers v fits) (v c.args.alpha) (v c.args.beta) (v c.in-Some.entry.now) (total int_sums zs)) same yes.1 in
    λ k lt. below-next (RowAccumulates v fits c.args.alpha c.args.beta c.args.a.now c.args.x.now c.args.y.now) c.loop-i.i c.loop-i.invariant (
      subst (ProductsFit fits) same (yes.0, c.entry_accumulates.ensures.sums on),
      λ u at.
          let there = c.in-Some.ensures.value in
          let is : c.in-Some.entry.now ≡ u = cc in
          subst (λ z. CanAddScaled (whole_numbers v fits) (v c.args.alpha) (v c.args.beta) (v z) (total int_sums (inner_products int_products (matrix_of (whole_numbers v fits) c.args.a.now) (column_of (whole_numbers v fits) c.args.x.now) c.loop-i.i 0))) is can,
    )
    k (omega (arith, lt))

pub returns-clause-exact : goal.returns-clause-exact
returns-clause-exact g c =
    let long = ap (λ l. get_or l 0 0) (c.into_pattern-m.ensures ∙ c.raw_dim.ensures.lengths) in
    says_yes _ (rows-enough g.A.Number.value g.A.Number.fits c.args.alpha c.args.beta c.args.a.now c.args.x.now c.args.y.now c.requires.lengths (λ i row. c.loop-i.invariant i (omega (arith, row, long, c.loop-i-test.false))))

pub returns-clause-sums : goal.returns-clause-sums
returns-clause-sums g c =
    let long = ap (λ l. get_or l 0 0) (c.into_pattern-m.ensures ∙ c.raw_dim.ensures.lengths) in
    λ _. rows-sums g.A.Number.value g.A.Number.fits c.args.alpha c.args.beta c.args.a.now c.args.x.now c.args.y.now c.requires.lengths (λ i row. c.loop-i.invariant i (omega (arith, row, long, c.loop-i-test.false)))
