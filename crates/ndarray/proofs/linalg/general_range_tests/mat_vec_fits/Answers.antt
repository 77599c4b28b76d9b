use Rattle.std.proofs.Common.{◌≡◌, ◌∙◌, ◌↔◌, pos, sym}
use Rattle.std.specs.Prelude.{IsTrue}
use Rattle.ndarray.specs.Products.{CanAccumulate, HasSumsInRange, column_entries, column_of, matrix_of, product_of}
use Rattle.ndarray.specs.WholeValues.{HasMagnitudesInRange, whole_numbers}
use Rattle.ndarray.proofs.cells.WholeProducts.{column-accumulates, column-in_range}
use Rattle.ndarray.proofs.linalg.general_range_tests.mat_vec_fits.Goals as goal
use Rattle.ndarray.proofs.linalg.general_range_tests.mat_vec_fits.Goals.{After-rows_accumulate}

-- what the test of the views says of the arrays
tested : (g : _) (c : After-rows_accumulate g) → (let v = whole_numbers g.A.Number.value g.A.Number.fits in IsTrue c.rows_accumulate.result ↔ (HasMagnitudesInRange g.A.Number.fits (matrix_of v c.args.a.now) (column_of v c.args.x.now) × CanAccumulate v c.args.alpha c.args.beta (column_entries (product_of v (matrix_of v c.args.a.now) (column_of v c.args.x.now))) c.args.y.now))
tested g c = rw (c.view.ensures.same, c.view-then-mat_vec_ok.ensures.same, c.view-then-mat_vec_ok-2.ensures.same) at c.rows_accumulate.ensures.exact

-- an element of the number 0 has the value zero
zero-value : (g : _) (c : After-rows_accumulate g) (x : g.row.A.Denot) → g.A.Number.value x ≡ pos 0 → g.A.Valued.meaning x ≡ g.A.Valued.addition.unit
zero-value g c x none = let exact = g.met.A.Integral.exact_law in (g.met.A.SumElem.is_zero_meaning x).0 ((g.met.A.Number.eq_law x g.A.Zero.zero exact).1 (none ∙ sym (g.met.A.Zero.zero_law exact)))

pub returns-then-mat_vec_ok-clause-exact : goal.returns-then-mat_vec_ok-clause-exact
returns-then-mat_vec_ok-clause-exact g c =
    let t = tested g (goal.at.returns-then-mat_vec_ok-clause-exact g c).After-rows_accumulate in
    let shapes = c.mat_vec_ok.ensures.0 c.if-mat_vec_ok.true in
    (λ on. let yes = t.0 on in (shapes, yes.0, yes.1), λ all. t.1 (all.1, all.2))

pub returns-then-mat_vec_ok-clause-sums : goal.returns-then-mat_vec_ok-clause-sums
returns-then-mat_vec_ok-clause-sums g c =
    let a = c.args.a.now in
    let b = c.args.x.now in
    let v = whole_numbers g.A.Number.value g.A.Number.fits in
    let sums : IsTrue c.rows_accumulate.result → HasSumsInRange v (matrix_of v a) (column_of v b) = rw (c.view.ensures.same, c.view-then-mat_vec_ok.ensures.same) at c.rows_accumulate.ensures.sums in
    λ on. column-in_range g.A.Valued g.A.Number.value g.A.Number.fits g.met.A.IntegerScalar.whole_values a b (sums on)

pub returns-then-mat_vec_ok-clause-scaled : goal.returns-then-mat_vec_ok-clause-scaled
returns-then-mat_vec_ok-clause-scaled g c =
    let at = (goal.at.returns-then-mat_vec_ok-clause-scaled g c).After-rows_accumulate in
    let t = tested g at in
    λ on. column-accumulates g.A.Valued g.A.Number.value g.A.Number.fits g.met.A.IntegerScalar.whole_values (zero-value g at) c.args.alpha c.args.beta c.args.a.now c.args.x.now c.args.y.now (t.0 on).1
