use Rattle.std.proofs.Common.{get_or}
use Rattle.std.specs.Prelude.{◌↔◌, ◌≢◌, IsTrue}
use Rattle.ndarray.specs.ChainRanges.{MixedProductHasCells}
use Rattle.ndarray.specs.Products.{HasProductsInRange, matrix_of}
use Rattle.ndarray.specs.WholeValues.{HasMagnitudesInRange, whole_numbers}
use Rattle.ndarray.proofs.cells.ChainRanges.{mixed-numbers, mixed-values, none-mixed, none-mixed_right, none-zero, some-cells}
use Rattle.ndarray.proofs.cells.WholeProducts.{kronecker-in_range, matrices-in_range}
use Rattle.ndarray.proofs.lists.Decisions.{holds_at_error, says_no, says_yes}
use Rattle.ndarray.proofs.linalg.chain_range_tests.mixed_products_fit.Goals as goal
use Rattle.ndarray.proofs.linalg.chain_range_tests.mixed_products_fit.Goals.{After-cell_products_fit}

-- what the test of the two products says of them
tested : (g : _) (c : After-cell_products_fit g) → (let v = whole_numbers g.A.Number.value g.A.Number.fits in IsTrue c.cell_products_fit.result ↔ HasProductsInRange v (matrix_of v c.in_ok-left.left) (matrix_of v c.in_ok-right.right))
tested g c = rw (c.view.ensures.same, c.view-2.ensures.same) at c.cell_products_fit.ensures

pub returns-then-not-has_cells-clause-exact : goal.returns-then-not-has_cells-clause-exact
returns-then-not-has_cells-clause-exact g c =
    let off = c.if-not-has_cells.true in
    let none : (get_or c.args.a.now.lengths 0 0 ≢ 0) × (get_or c.args.c.now.lengths 1 0 ≢ 0) → ⊥ = λ both. (let on = c.has_cells.ensures.1 both in absurd (cc)) in
    let v = whole_numbers g.A.Number.value g.A.Number.fits in
    says_yes _ (((λ some. let all = none-zero _ _ _ _ some in absurd (none (all.0, all.1))), (λ some. let all = none-zero _ _ _ _ some in absurd (none (all.0, all.1))), none-mixed v c.args.a.now c.args.b.now c.args.c.now c.args.d.now none))

pub returns-then-not-has_cells-clause-left_sums : goal.returns-then-not-has_cells-clause-left_sums
returns-then-not-has_cells-clause-left_sums g c =
    let off = c.if-not-has_cells.true in
    let none : (get_or c.args.a.now.lengths 0 0 ≢ 0) × (get_or c.args.c.now.lengths 1 0 ≢ 0) → ⊥ = λ both. (let on = c.has_cells.ensures.1 both in absurd (cc)) in
    λ _ some. let all = none-zero _ _ _ _ some in absurd (none (all.0, all.1))

pub returns-then-not-has_cells-2-clause-exact : goal.returns-then-not-has_cells-2-clause-exact
returns-then-not-has_cells-2-clause-exact g c =
    let off = c.if-not-has_cells-2.true in
    let none : (get_or c.args.b.now.lengths 0 0 ≢ 0) × (get_or c.args.d.now.lengths 1 0 ≢ 0) → ⊥ = λ both. (let on = c.has_cells-2.ensures.1 both in absurd (cc)) in
    let v = whole_numbers g.A.Number.value g.A.Number.fits in
    says_yes _ (((λ some. let all = none-zero _ _ _ _ some in absurd (none (all.2, all.3))), (λ some. let all = none-zero _ _ _ _ some in absurd (none (all.2, all.3))), none-mixed_right v c.args.a.now c.args.b.now c.args.c.now c.args.d.now none))

pub returns-then-not-rows_and_columns_fit-clause-exact : goal.returns-then-not-rows_and_columns_fit-clause-exact
returns-then-not-rows_and_columns_fit-clause-exact g c =
    let left = c.has_cells.ensures.0 c.if-not-has_cells.false in
    let right = c.has_cells-2.ensures.0 c.if-not-has_cells-2.false in
    let off = c.if-not-rows_and_columns_fit.true in
    says_no _ (λ all. let on = c.rows_and_columns_fit.ensures.magnitudes.1 (all.0 (some-cells _ _ _ _ left.0 left.1 right.0 right.1)) in absurd (cc))

pub returns-then-not-rows_and_columns_fit-2-clause-exact : goal.returns-then-not-rows_and_columns_fit-2-clause-exact
returns-then-not-rows_and_columns_fit-2-clause-exact g c =
    let left = c.has_cells.ensures.0 c.if-not-has_cells.false in
    let right = c.has_cells-2.ensures.0 c.if-not-has_cells-2.false in
    let off = c.if-not-rows_and_columns_fit-2.true in
    says_no _ (λ all. let on = c.rows_and_columns_fit-2.ensures.magnitudes.1 (all.1 (some-cells _ _ _ _ left.0 left.1 right.0 right.1)) in absurd (cc))

pub dot-requires-after_bounds : goal.dot-requires-after_bounds
dot-requires-after_bounds g c κs within = (c.requires.left, matrices-in_range g.A.Valued g.A.Number.value g.A.Number.fits g.met.A.IntegerScalar.whole_values c.args.a.now c.args.c.now (c.rows_and_columns_fit.ensures.sums c.if-not-rows_and_columns_fit.false))

pub returns-in_err-left-clause-error : goal.returns-in_err-left-clause-error
returns-in_err-left-clause-error g c =
    let left = c.has_cells.ensures.0 c.if-not-has_cells.false in
    let right = c.has_cells-2.ensures.0 c.if-not-has_cells-2.false in
    let v = whole_numbers g.A.Number.value g.A.Number.fits in
    let why : HasMagnitudesInRange g.A.Number.fits (matrix_of v c.args.a.now) (matrix_of v c.args.c.now) × HasMagnitudesInRange g.A.Number.fits (matrix_of v c.args.b.now) (matrix_of v c.args.d.now)
    × (MixedProductHasCells c.args.a.now c.args.b.now c.args.c.now c.args.d.now)
    = (c.rows_and_columns_fit.ensures.magnitudes.0 c.if-not-rows_and_columns_fit.false, c.rows_and_columns_fit-2.ensures.magnitudes.0 c.if-not-rows_and_columns_fit-2.false, some-cells _ _ _ _ left.0 left.1 right.0 right.1) in
    holds_at_error _ _ why

pub dot-requires-2-after_bounds : goal.dot-requires-2-after_bounds
dot-requires-2-after_bounds g c κs within = (c.requires.right, matrices-in_range g.A.Valued g.A.Number.value g.A.Number.fits g.met.A.IntegerScalar.whole_values c.args.b.now c.args.d.now (c.rows_and_columns_fit-2.ensures.sums c.if-not-rows_and_columns_fit-2.false))

pub returns-in_err-right-clause-error : goal.returns-in_err-right-clause-error
returns-in_err-right-clause-error g c =
    let left = c.has_cells.ensures.0 c.if-not-has_cells.false in
    let right = c.has_cells-2.ensures.0 c.if-not-has_cells-2.false in
    let v = whole_numbers g.A.Number.value g.A.Number.fits in
    let why : HasMagnitudesInRange g.A.Number.fits (matrix_of v c.args.a.now) (matrix_of v c.args.c.now) × HasMagnitudesInRange g.A.Number.fits (matrix_of v c.args.b.now) (matrix_of v c.args.d.now)
    × (MixedProductHasCells c.args.a.now c.args.b.now c.args.c.now c.args.d.now)
    = (c.rows_and_columns_fit.ensures.magnitudes.0 c.if-not-rows_and_columns_fit.false, c.rows_and_columns_fit-2.ensures.magnitudes.0 c.if-not-rows_and_columns_fit-2.false, some-cells _ _ _ _ left.0 left.1 right.0 right.1) in
    holds_at_error _ _ why

pub returns-clause-exact : goal.returns-clause-exact
returns-clause-exact g c =
    let fits = tested g (goal.at.returns-clause-exact g c).After-cell_products_fit in
    let same = mixed-numbers g.A.Valued g.A.Number.value g.A.Number.fits g.met.A.IntegerScalar.whole_values c.args.a.now c.args.b.now c.args.c.now c.args.d.now c.in_ok-left.left c.in_ok-right.right c.in_ok-left.ensures.made c.in_ok-right.ensures.made in
    (λ on. ((λ _. c.rows_and_columns_fit.ensures.magnitudes.0 c.if-not-rows_and_columns_fit.false), (λ _. c.rows_and_columns_fit-2.ensures.magnitudes.0 c.if-not-rows_and_columns_fit-2.false), same.0 (fits.0 on)), λ all. fits.1 (same.1 all.2))

pub returns-clause-left_sums : goal.returns-clause-left_sums
returns-clause-left_sums g c = λ _ _. matrices-in_range g.A.Valued g.A.Number.value g.A.Number.fits g.met.A.IntegerScalar.whole_values c.args.a.now c.args.c.now (c.rows_and_columns_fit.ensures.sums c.if-not-rows_and_columns_fit.false)

pub returns-clause-right_sums : goal.returns-clause-right_sums
returns-clause-right_sums g c = λ _ _. matrices-in_range g.A.Valued g.A.Number.value g.A.Number.fits g.met.A.IntegerScalar.whole_values c.args.b.now c.args.d.now (c.rows_and_columns_fit-2.ensures.sums c.if-not-rows_and_columns_fit-2.false)

pub returns-clause-products : goal.returns-clause-products
returns-clause-products g c =
    let fits = tested g (goal.at.returns-clause-products g c).After-cell_products_fit in
    λ on. mixed-values g.A.Valued g.A.Number.value g.A.Number.fits g.met.A.IntegerScalar.whole_values c.args.a.now c.args.b.now c.args.c.now c.args.d.now c.in_ok-left.left c.in_ok-right.right c.in_ok-left.ensures.made c.in_ok-right.ensures.made (kronecker-in_range g.A.Valued g.A.Number.value g.A.Number.fits g.met.A.IntegerScalar.whole_values c.in_ok-left.left c.in_ok-right.right (fits.0 on))
