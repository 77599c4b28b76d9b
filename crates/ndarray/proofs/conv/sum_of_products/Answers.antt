use Rattle.std.proofs.Common.{◌∙◌, ap, subst}
use Rattle.std.specs.Prelude.{All}
use Rattle.ndarray.specs.Index.{InBox}
use Rattle.ndarray.specs.order.Rows.{rows_in}
use Rattle.ndarray.specs.declared.base.shape.Order.TheVariants.{RowMajor}
use Rattle.ndarray.specs.base.Ranks.{row_from}
use Rattle.ndarray.proofs.cells.RunProducts.{row-in_range, row-next, row-same, row-some, row-summable, row-within, rows-end, rows-start}
use Rattle.ndarray.proofs.conv.sum_of_products.Goals as goal

pub loop-row-init : goal.loop-row-init
loop-row-init g c =
    let v = g.A.Valued in
    rows-start v.multiplication v.meaning c.args.x.now c.args.y.now c.raw_dim.ensures.whole c.raw_dim-whole.ensures.whole c.requires.same v.addition v.InRange c.new-rows.result (v.meaning c.zero-sum.result)
    (c.new-rows.ensures ∙ ap (rows_in RowMajor) c.raw_dim.ensures.lengths) (ap v.meaning c.zero-sum.ensures ∙ g.met.A.SumElem.zero_meaning) c.requires.sums

pub cells_along-left-requires-clause-some : goal.cells_along-left-requires-clause-some
cells_along-left-requires-clause-some g c =
    let v = g.A.Valued in
    row-some v.multiplication v.meaning c.args.x.now c.args.y.now c.raw_dim.ensures.whole c.raw_dim-whole.ensures.whole c.requires.same v.addition v.InRange (g.D.Lengths.numbers c.in-Some.row.first) c.in-Some.row.axis c.in-Some.row.count c.loop-row.rows c.next.new.self (v.meaning c.loop-row.sum) c.in-Some.ensures c.loop-row.invariant

pub cells_along-left-requires-clause-within : goal.cells_along-left-requires-clause-within
cells_along-left-requires-clause-within g c =
    let v = g.A.Valued in
    row-within v.multiplication v.meaning c.args.x.now c.args.y.now c.raw_dim.ensures.whole c.raw_dim-whole.ensures.whole c.requires.same v.addition v.InRange (g.D.Lengths.numbers c.in-Some.row.first) c.in-Some.row.axis c.in-Some.row.count c.loop-row.rows c.next.new.self (v.meaning c.loop-row.sum) c.in-Some.ensures c.loop-row.invariant

pub cells_along-right-requires-clause-some : goal.cells_along-right-requires-clause-some
cells_along-right-requires-clause-some g c =
    let v = g.A.Valued in
    row-some v.multiplication v.meaning c.args.x.now c.args.y.now c.raw_dim.ensures.whole c.raw_dim-whole.ensures.whole c.requires.same v.addition v.InRange (g.D.Lengths.numbers c.in-Some.row.first) c.in-Some.row.axis c.in-Some.row.count c.loop-row.rows c.next.new.self (v.meaning c.loop-row.sum) c.in-Some.ensures c.loop-row.invariant

pub cells_along-right-requires-clause-within : goal.cells_along-right-requires-clause-within
cells_along-right-requires-clause-within g c =
    let v = g.A.Valued in
    subst (λ ns. All (InBox ns) (row_from (g.D.Lengths.numbers c.in-Some.row.first) c.in-Some.row.axis c.in-Some.row.count)) c.requires.same
    (row-within v.multiplication v.meaning c.args.x.now c.args.y.now c.raw_dim.ensures.whole c.raw_dim-whole.ensures.whole c.requires.same v.addition v.InRange (g.D.Lengths.numbers c.in-Some.row.first) c.in-Some.row.axis c.in-Some.row.count c.loop-row.rows c.next.new.self (v.meaning c.loop-row.sum) c.in-Some.ensures c.loop-row.invariant)

pub inner_of-requires-clause-same : goal.inner_of-requires-clause-same
inner_of-requires-clause-same g c κs lives =
    let v = g.A.Valued in
    row-same v.multiplication v.meaning c.args.x.now c.args.y.now c.raw_dim.ensures.whole c.raw_dim-whole.ensures.whole c.requires.same v.addition v.InRange (g.D.Lengths.numbers c.in-Some.row.first) c.in-Some.row.axis c.in-Some.row.count c.loop-row.rows c.next.new.self (v.meaning c.loop-row.sum) c.in-Some.ensures c.loop-row.invariant
    c.cells_along-left.result c.cells_along-right.result c.cells_along-left.ensures c.cells_along-right.ensures

pub inner_of-requires-clause-sums : goal.inner_of-requires-clause-sums
inner_of-requires-clause-sums g c κs lives =
    let v = g.A.Valued in
    row-summable v.multiplication v.meaning c.args.x.now c.args.y.now c.raw_dim.ensures.whole c.raw_dim-whole.ensures.whole c.requires.same v.addition v.InRange (g.D.Lengths.numbers c.in-Some.row.first) c.in-Some.row.axis c.in-Some.row.count c.loop-row.rows c.next.new.self (v.meaning c.loop-row.sum) c.in-Some.ensures c.loop-row.invariant
    c.cells_along-left.result c.cells_along-right.result c.cells_along-left.ensures c.cells_along-right.ensures

pub add-sum-requires : goal.add-sum-requires
add-sum-requires g c =
    let v = g.A.Valued in
    g.met.A.SumElem.add_in_range c.loop-row.sum c.inner_of.result
    (row-in_range v.multiplication v.meaning c.args.x.now c.args.y.now c.raw_dim.ensures.whole c.raw_dim-whole.ensures.whole c.requires.same v.addition v.InRange (g.D.Lengths.numbers c.in-Some.row.first) c.in-Some.row.axis c.in-Some.row.count c.loop-row.rows c.next.new.self (v.meaning c.loop-row.sum) c.in-Some.ensures c.loop-row.invariant
    c.cells_along-left.result c.cells_along-right.result c.cells_along-left.ensures c.cells_along-right.ensures (v.meaning c.inner_of.result) c.inner_of.ensures)

pub loop-row-preserved : goal.loop-row-preserved
loop-row-preserved g c =
    let v = g.A.Valued in
    let range = row-in_range v.multiplication v.meaning c.args.x.now c.args.y.now c.raw_dim.ensures.whole c.raw_dim-whole.ensures.whole c.requires.same v.addition v.InRange (g.D.Lengths.numbers c.in-Some.row.first) c.in-Some.row.axis c.in-Some.row.count c.loop-row.rows c.next.new.self (v.meaning c.loop-row.sum) c.in-Some.ensures c.loop-row.invariant
    c.cells_along-left.result c.cells_along-right.result c.cells_along-left.ensures c.cells_along-right.ensures (v.meaning c.inner_of.result) c.inner_of.ensures in
    row-next v.multiplication v.meaning c.args.x.now c.args.y.now c.raw_dim.ensures.whole c.raw_dim-whole.ensures.whole c.requires.same v.addition v.InRange (g.D.Lengths.numbers c.in-Some.row.first) c.in-Some.row.axis c.in-Some.row.count c.loop-row.rows c.next.new.self (v.meaning c.loop-row.sum) c.in-Some.ensures c.loop-row.invariant
    c.cells_along-left.result c.cells_along-right.result c.cells_along-left.ensures c.cells_along-right.ensures (v.meaning c.inner_of.result) c.inner_of.ensures (v.meaning c.add-sum.result)
    (g.met.A.SumElem.add_meaning c.loop-row.sum c.inner_of.result c.add-sum.result range c.add-sum.ensures)

pub returns : goal.returns
returns g c =
    let v = g.A.Valued in
    rows-end v.multiplication v.meaning c.args.x.now c.args.y.now v.addition v.InRange c.loop-row.rows (v.meaning c.loop-row.sum) c.in_default.ensures.0 c.loop-row.invariant
