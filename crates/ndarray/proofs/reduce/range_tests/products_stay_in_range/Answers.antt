use Rattle.std.proofs.Common.{[], rules, ◌++◌, ◌∙◌, List, ap, arith, filter_map, map, subst, sym}
use Rattle.std.specs.Prelude.{ℤ}
use Rattle.ndarray.specs.Grid.{cell}
use Rattle.ndarray.specs.Integers.{int_products}
use Rattle.ndarray.specs.reduce.SignedSums.{ProductsApart}
use Rattle.ndarray.specs.Products.{products_of}
use Rattle.ndarray.specs.order.Rows.{HasRows, joined, rows_in}
use Rattle.ndarray.specs.base.Ranks.{row_from}
use Rattle.ndarray.specs.declared.base.shape.Order.TheVariants.{RowMajor}
use Rattle.ndarray.proofs.boxes.RowProducts.{products-by_rows, row_products, rows-next}
use Rattle.ndarray.proofs.lists.Decisions.{says_no}
use Rattle.ndarray.proofs.runs.Rows.{HasRows-rows_in}
use Rattle.ndarray.proofs.strides.Rows.{length-row_from}
use Rattle.ndarray.proofs.reduce.range_tests.products_stay_in_range.Goals.{After-cells_along-right, After-drop-whole-2}
use Rattle.ndarray.proofs.reduce.range_tests.products_stay_in_range.Goals as goal

pub loop-row-init : goal.loop-row-init
loop-row-init g c =
    let v = g.A.Number.value in
    let products = products_of int_products v c.args.x.now.cells c.args.y.now.cells in
    let rows = c.new-rows.ensures ∙ ap (rows_in RowMajor) c.raw_dim.ensures.lengths in (
      subst (HasRows c.args.x.now) (sym rows) (HasRows-rows_in c.args.x.now RowMajor c.raw_dim.ensures.whole),
      (
        subst (HasRows c.args.y.now) (sym (rows ∙ ap (rows_in RowMajor) c.requires.same)) (HasRows-rows_in c.args.y.now RowMajor c.raw_dim-whole.ensures.whole),
        subst (λ l. ProductsApart g.A.Number.fits products l (v c.no_sums-sums.result.up) (v c.no_sums-sums.result.down))
            (products-by_rows int_products v c.args.x.now c.args.y.now c.raw_dim.ensures.whole c.raw_dim-whole.ensures.whole c.requires.same ∙ ap (λ rs. joined (map (row_products int_products v c.args.x.now c.args.y.now) rs)) (sym rows))
            (c.no_sums-sums.ensures products),
      ),
    )

pub cells_along-left-requires-clause-within : goal.cells_along-left-requires-clause-within
cells_along-left-requires-clause-within g c =
    (rows-next c.args.x.now c.loop-row.rows c.next.new.self (row_from (g.D.Lengths.numbers c.in-Some.row.first) c.in-Some.row.axis c.in-Some.row.count) c.in-Some.ensures c.loop-row.invariant.0).0.1.within

pub cells_along-right-requires-clause-some : goal.cells_along-right-requires-clause-some
cells_along-right-requires-clause-some g c =
    let row = row_from (g.D.Lengths.numbers c.in-Some.row.first) c.in-Some.row.axis c.in-Some.row.count in
    let some = (rows-next c.args.y.now c.loop-row.rows c.next.new.self row c.in-Some.ensures c.loop-row.invariant.1.0).0.0 in
    let many = length-row_from (g.D.Lengths.numbers c.in-Some.row.first) c.in-Some.row.axis c.in-Some.row.count in
    omega (arith, some, many)

pub cells_along-right-requires-clause-within : goal.cells_along-right-requires-clause-within
cells_along-right-requires-clause-within g c =
    (rows-next c.args.y.now c.loop-row.rows c.next.new.self (row_from (g.D.Lengths.numbers c.in-Some.row.first) c.in-Some.row.axis c.in-Some.row.count) c.in-Some.ensures c.loop-row.invariant.1.0).0.1.within

module _ (g : _) (c : After-cells_along-right g) where
  abbrev products : List ℤ
  products = products_of int_products g.A.Number.value c.args.x.now.cells c.args.y.now.cells

  -- the products behind the row
  abbrev rest : List ℤ
  rest = joined (map (row_products int_products g.A.Number.value c.args.x.now c.args.y.now) c.next.new.self)

  next : ProductsApart g.A.Number.fits products (products_of int_products g.A.Number.value c.cells_along-left.result c.cells_along-right.result ++ rest) (g.A.Number.value c.loop-row.sums.up) (g.A.Number.value c.loop-row.sums.down)
  next =
      let v = g.A.Number.value in
      let row = row_from (g.D.Lengths.numbers c.in-Some.row.first) c.in-Some.row.axis c.in-Some.row.count in
      subst (λ l. ProductsApart g.A.Number.fits products l (v c.loop-row.sums.up) (v c.loop-row.sums.down))
      (ap (λ rs. joined (map (row_products int_products v c.args.x.now c.args.y.now) rs)) c.in-Some.ensures
      ∙ (ap (λ l. products_of int_products v l (filter_map (cell c.args.y.now) row) ++ rest) (sym c.cells_along-left.ensures)
      ∙ ap (λ l. products_of int_products v c.cells_along-left.result l ++ rest) (sym c.cells_along-right.ensures)))
      c.loop-row.invariant.1.1

pub returns-in_default-add_products-clause-magnitudes : goal.returns-in_default-add_products-clause-magnitudes
returns-in_default-add_products-clause-magnitudes g c =
    let p = (goal.at.returns-in_default-add_products-clause-magnitudes g c).After-cells_along-right in
    says_no _ (c.in_default-add_products.ensures (products g p) (rest g p) (next g p))

pub loop-row-preserved : goal.loop-row-preserved
loop-row-preserved g c =
    let p = (goal.at.loop-row-preserved g c).After-cells_along-right in
    let row = row_from (g.D.Lengths.numbers c.in-Some.row.first) c.in-Some.row.axis c.in-Some.row.count in (
      (rows-next c.args.x.now c.loop-row.rows c.next.new.self row c.in-Some.ensures c.loop-row.invariant.0).1,
      (
        (rows-next c.args.y.now c.loop-row.rows c.next.new.self row c.in-Some.ensures c.loop-row.invariant.1.0).1,
        c.in-Some-add_products.ensures (products g p) (rest g p) (next g p),
      ),
    )

-- all products are added
ended : (g : _) (c : After-drop-whole-2 g) → ProductsApart g.A.Number.fits (products_of int_products g.A.Number.value c.args.x.now.cells c.args.y.now.cells) [] (g.A.Number.value c.loop-row.sums.up) (g.A.Number.value c.loop-row.sums.down)
ended g c =
    let v = g.A.Number.value in
    let x = c.args.x.now in
    let y = c.args.y.now in
    subst (λ rs. ProductsApart g.A.Number.fits (products_of int_products v x.cells y.cells) (joined (map (row_products int_products v x y) rs)) (v c.loop-row.sums.up) (v c.loop-row.sums.down)) c.in_default.ensures.0 c.loop-row.invariant.1.1

pub returns-clause-magnitudes : goal.returns-clause-magnitudes
returns-clause-magnitudes g c =
    let when = c.joined_in_range.ensures.magnitudes _ (ended g c) in
    search (rules, when, c.is_some.ensures)

pub returns-clause-selections : goal.returns-clause-selections
returns-clause-selections g c =
    let summable = c.joined_in_range.ensures.selections _ (ended g c) in
    search (rules, summable, c.is_some.ensures)
