use Rattle.std.proofs.Common.{◌≡◌, ◌∙◌, ◌<◌, All, ap, arith, length, subst, sym}
use Rattle.std.proofs.lemmas.List.Elements.{All-head, All-tail}
use Rattle.ndarray.specs.Index.{size}
use Rattle.ndarray.specs.Orders.{cells_in}
use Rattle.ndarray.specs.order.Rows.{joined, rows_in}
use Rattle.ndarray.specs.base.Ranks.{row_from}
use Rattle.ndarray.specs.base.RunningProducts.{RunningProducts}
use Rattle.ndarray.specs.declared.base.shape.Order.TheVariants.{RowMajor}
use Rattle.ndarray.proofs.boxes.Rows.{rows-joined, rows-within}
use Rattle.ndarray.proofs.cells.RunningProducts.{blocks-of, cumulates-of, products-all, products-start}
use Rattle.ndarray.proofs.strides.Rows.{length-row_from}
use Rattle.ndarray.proofs.reduce.cumprod.products_by_rows.Goals as goal

pub loop-row-init : goal.loop-row-init
loop-row-init g c =
    let made = c.in_ok-products.ensures.room in
    let rows : c.new-rows.result ≡ rows_in RowMajor c.args.array.now.lengths = c.new-rows.ensures ∙ ap (rows_in RowMajor) c.raw_dim-dim.ensures.lengths in
    record {
      lengths = ap (λ p. p.lengths) made ∙ c.raw_dim.ensures.lengths;
      order = ap (λ p. p.order) made;
      some = subst (λ rs. All (λ row. 0 < length row) rs) (sym rows) (λ k d lt. (rows-within RowMajor c.args.array.now.lengths k d lt).0);
      pushed = subst (λ ms. RunningProducts g.A.Mul.mul_gives c.args.array.now c.args.axis.0 ms (joined c.new-rows.result)) (sym (ap (λ p. p.cells) made))
          (products-start g.A.Mul.mul_gives c.args.array.now c.args.axis.0 c.axis-step.result (blocks-of c.args.array.now c.args.axis.0 c.axis-step.result _ _ c.raw_dim-dim.ensures.whole c.requires.axis c.raw_dim-dim.ensures.lengths c.default_strides.ensures.strides c.axis-step.ensures) (joined c.new-rows.result) (ap joined rows ∙ rows-joined RowMajor c.args.array.now.lengths));
    }

pub with_row-products-requires-clause-some : goal.with_row-products-requires-clause-some
with_row-products-requires-clause-some g c =
    let row = row_from (g.D.Lengths.numbers c.in-Some.row.first) c.in-Some.row.axis c.in-Some.row.count in
    let some = All-head (λ r. 0 < length r) row c.next.new.self (subst (λ rs. All (λ r. 0 < length r) rs) c.in-Some.ensures c.loop-row.invariant.some) in
    let long = length-row_from (g.D.Lengths.numbers c.in-Some.row.first) c.in-Some.row.axis c.in-Some.row.count in
    omega (arith, some, long)

pub loop-row-preserved : goal.loop-row-preserved
loop-row-preserved g c =
    let i = c.loop-row.invariant in
    let row = row_from (g.D.Lengths.numbers c.in-Some.row.first) c.in-Some.row.axis c.in-Some.row.count in
    record {
      lengths = c.with_row-products.ensures.lengths ∙ i.lengths;
      order = c.with_row-products.ensures.order ∙ i.order;
      some = All-tail (λ r. 0 < length r) row c.next.new.self (subst (λ rs. All (λ r. 0 < length r) rs) c.in-Some.ensures i.some);
      pushed = c.with_row-products.ensures.pushed (joined c.next.new.self) (subst (λ rs. RunningProducts g.A.Mul.mul_gives c.args.array.now c.args.axis.0 c.loop-row.products.cells (joined rs)) c.in-Some.ensures i.pushed);
    }

pub finish-requires : goal.finish-requires
finish-requires g c =
    let i = c.loop-row.invariant in
    products-all g.A.Mul.mul_gives c.args.array.now c.args.axis.0 c.axis-step.result (blocks-of c.args.array.now c.args.axis.0 c.axis-step.result _ _ c.raw_dim-dim.ensures.whole c.requires.axis c.raw_dim-dim.ensures.lengths c.default_strides.ensures.strides c.axis-step.ensures) _ _ i.pushed (ap joined c.in_default.ensures.0) ∙ ap size (sym i.lengths)

pub returns-clause-products : goal.returns-clause-products
returns-clause-products g c =
    let i = c.loop-row.invariant in
    let all = products-all g.A.Mul.mul_gives c.args.array.now c.args.axis.0 c.axis-step.result (blocks-of c.args.array.now c.args.axis.0 c.axis-step.result _ _ c.raw_dim-dim.ensures.whole c.requires.axis c.raw_dim-dim.ensures.lengths c.default_strides.ensures.strides c.axis-step.ensures) _ _ i.pushed (ap joined c.in_default.ensures.0) in
    cumulates-of g.A.Mul.mul_gives c.args.array.now c.args.axis.0 c.axis-step.result (blocks-of c.args.array.now c.args.axis.0 c.axis-step.result _ _ c.raw_dim-dim.ensures.whole c.requires.axis c.raw_dim-dim.ensures.lengths c.default_strides.ensures.strides c.axis-step.ensures) _ _ c.finish.result i.pushed all c.finish.ensures.whole (c.finish.ensures.lengths ∙ i.lengths) (ap (λ o. cells_in o c.finish.result) (sym i.order) ∙ c.finish.ensures.list)
