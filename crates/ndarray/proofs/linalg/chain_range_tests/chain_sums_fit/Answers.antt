use Rattle.std.proofs.Common.{◌≡◌, ◌∙◌, arith, get_or, sym, true}
use Rattle.std.specs.Prelude.{◌↔◌, ◌≢◌, IsTrue}
use Rattle.ndarray.proofs.algebra.Chains.{matrix-by_vector}
use Rattle.ndarray.proofs.cells.ChainRanges.{chain-magnitudes, chain-outer}
use Rattle.ndarray.proofs.cells.WholeProducts.{column-in_range}
use Rattle.ndarray.proofs.lists.Decisions.{says_no, says_yes}
use Rattle.ndarray.specs.Products.{HasSumsInRange, column_of, matrix_of}
use Rattle.ndarray.specs.WholeValues.{HasMagnitudesInRange, whole_numbers}
use Rattle.ndarray.proofs.linalg.chain_range_tests.chain_sums_fit.Goals as goal
use Rattle.ndarray.proofs.linalg.chain_range_tests.chain_sums_fit.Goals.{After-rows_fit}

-- the sums of Bx, in the values of the elements
inner : (g : _) (c : After-rows_fit g) → c.rows_fit.result ≡ true → HasSumsInRange g.A.Valued (matrix_of g.A.Valued c.args.b.now) (column_of g.A.Valued c.args.x.now)
inner g c on = column-in_range g.A.Valued g.A.Number.value g.A.Number.fits g.met.A.IntegerScalar.whole_values c.args.b.now c.args.x.now (c.rows_fit.ensures.sums on)

pub returns-then-len_of-eq0-clause-exact : goal.returns-then-len_of-eq0-clause-exact
returns-then-len_of-eq0-clause-exact g c =
    let none : get_or c.args.a.now.lengths 0 0 ≡ 0 = sym c.len_of.ensures.value ∙ c.if-len_of-eq0.true in
    says_yes _ ((λ some. absurd (some none)), λ i j row column. absurd (omega (arith, none, row)))

pub returns-then-len_of-eq0-clause-inner_sums : goal.returns-then-len_of-eq0-clause-inner_sums
returns-then-len_of-eq0-clause-inner_sums g c =
    let none : get_or c.args.a.now.lengths 0 0 ≡ 0 = sym c.len_of.ensures.value ∙ c.if-len_of-eq0.true in
    λ _ some. absurd (some none)

pub returns-then-len_of-eq0-clause-outer_sums : goal.returns-then-len_of-eq0-clause-outer_sums
returns-then-len_of-eq0-clause-outer_sums g c =
    let none : get_or c.args.a.now.lengths 0 0 ≡ 0 = sym c.len_of.ensures.value ∙ c.if-len_of-eq0.true in
    λ _ i j row column. absurd (omega (arith, none, row))

pub returns-then-not-rows_fit-clause-exact : goal.returns-then-not-rows_fit-clause-exact
returns-then-not-rows_fit-clause-exact g c =
    let off = c.if-not-rows_fit.true in
    let some : get_or c.args.a.now.lengths 0 0 ≢ 0 = λ none. c.if-len_of-eq0.false (c.len_of.ensures.value ∙ none) in
    says_no _ (λ all. let on = c.rows_fit.ensures.magnitudes.1 (all.0 some) in absurd (cc))

pub dot-requires-after_bounds : goal.dot-requires-after_bounds
dot-requires-after_bounds g c κs within = (
  matrix-by_vector c.args.b.now.lengths c.args.x.now.lengths c.raw_dim-2.ensures.axes c.raw_dim-3.ensures.axes c.requires.second c.raw_dim-2.ensures.limit c.raw_dim-3.ensures.limit,
  inner g (goal.at.dot-requires-after_bounds g c).After-rows_fit c.if-not-rows_fit.false,
)

pub returns-clause-exact : goal.returns-clause-exact
returns-clause-exact g c =
    let v = whole_numbers g.A.Number.value g.A.Number.fits in
    let outer : IsTrue c.rows_fit-2.result ↔ HasMagnitudesInRange g.A.Number.fits (matrix_of v c.args.a.now) (column_of v c.in_ok-y.y) = rw c.view.ensures.same at c.rows_fit-2.ensures.magnitudes in
    let same = chain-magnitudes g.A.Valued g.A.Number.value g.A.Number.fits g.met.A.IntegerScalar.whole_values c.args.a.now c.args.b.now c.args.x.now c.requires.first c.in_ok-y.y c.in_ok-y.ensures.made in
    (λ on. ((λ _. c.rows_fit.ensures.magnitudes.0 c.if-not-rows_fit.false), same.0 (outer.0 on)), λ all. outer.1 (same.1 all.1))

pub returns-clause-inner_sums : goal.returns-clause-inner_sums
returns-clause-inner_sums g c = λ _ _. inner g (goal.at.returns-clause-inner_sums g c).After-rows_fit c.if-not-rows_fit.false

pub returns-clause-outer_sums : goal.returns-clause-outer_sums
returns-clause-outer_sums g c =
    let v = whole_numbers g.A.Number.value g.A.Number.fits in
    let w = g.met.A.IntegerScalar.whole_values in
    let outer : IsTrue c.rows_fit-2.result → HasSumsInRange v (matrix_of v c.args.a.now) (column_of v c.in_ok-y.y) = rw c.view.ensures.same at c.rows_fit-2.ensures.sums in
    λ on. chain-outer g.A.Valued g.A.Number.value g.A.Number.fits w c.args.a.now c.args.b.now c.args.x.now c.requires.first c.in_ok-y.y c.in_ok-y.ensures.made
    (column-in_range g.A.Valued g.A.Number.value g.A.Number.fits w c.args.a.now c.in_ok-y.y (outer on))
