use Rattle.std.proofs.Common.{◌<◌, ◌∙◌, ap, length, subst, sym}
use Rattle.ndarray.specs.Index.{size}
use Rattle.ndarray.specs.base.Ranks.{row_from}
use Rattle.ndarray.proofs.cells.ProductRows.{AlongRow, along-can, along-end, along-next, along-room, along-start, first-back, first-can, first-room, row-axis, row-some, row-within}
use Rattle.ndarray.proofs.reduce.cumprod.with_lane.Goals as goal

pub cells_along-cells-requires-clause-within : goal.cells_along-cells-requires-clause-within
cells_along-cells-requires-clause-within g c = row-within g.A.Mul.mul_gives c.args.array.now c.args.row.now.axis c.args.products.cells (row_from (g.D.Lengths.numbers c.args.row.now.first) c.args.row.now.axis c.args.row.now.count) c.requires.next.0 c.requires.next.1

pub unreachable-requires : goal.unreachable-requires
unreachable-requires g c = row-some g.A.Mul.mul_gives c.args.array.now c.args.row.now.axis c.args.step c.requires.step c.args.products.cells (g.D.Lengths.numbers c.args.row.now.first) c.args.row.now.axis c.args.row.now.count c.requires.next.0 c.requires.some c.requires.next.1 (sym c.cells_along-cells.ensures ∙ c.in_default.ensures.0)

pub axis-requires : goal.axis-requires
axis-requires g c = row-axis g.A.Mul.mul_gives c.args.array.now c.args.row.now.axis c.args.step c.requires.step c.args.products.cells (g.D.Lengths.numbers c.args.row.now.first) c.args.row.now.axis c.args.row.now.count c.requires.next.0 c.requires.some c.requires.next.1

pub next_product-product-requires-clause-some : goal.next_product-product-requires-clause-some
next_product-product-requires-clause-some g c = λ some. (first-back g.A.Mul.mul_gives c.args.array.now c.args.row.now.axis c.args.step c.requires.step (g.D.Lengths.numbers c.args.row.now.first) c.args.row.now.count c.args.products.cells c.requires.next.0 c.requires.next.1 c.cells_along-cells.result c.next.new.self c.in-Some.first.now (sym c.cells_along-cells.ensures) c.in-Some.ensures (subst (λ n. 0 < n) c.axis.ensures some)).0

pub next_product-product-requires-clause-within : goal.next_product-product-requires-clause-within
next_product-product-requires-clause-within g c = λ some. (first-back g.A.Mul.mul_gives c.args.array.now c.args.row.now.axis c.args.step c.requires.step (g.D.Lengths.numbers c.args.row.now.first) c.args.row.now.count c.args.products.cells c.requires.next.0 c.requires.next.1 c.cells_along-cells.result c.next.new.self c.in-Some.first.now (sym c.cells_along-cells.ensures) c.in-Some.ensures (subst (λ n. 0 < n) c.axis.ensures some)).1

pub next_product-product-requires-clause-defined : goal.next_product-product-requires-clause-defined
next_product-product-requires-clause-defined g c = λ some. first-can g.A.Mul.mul_gives c.args.array.now c.args.row.now.axis c.args.step c.requires.step (g.D.Lengths.numbers c.args.row.now.first) c.args.row.now.count c.args.products.cells c.requires.next.0 c.requires.next.1 c.cells_along-cells.result c.next.new.self c.in-Some.first.now (sym c.cells_along-cells.ensures) c.in-Some.ensures g.A.Mul.can_mul c.requires.defined (subst (λ n. 0 < n) c.axis.ensures some)

pub push-requires : goal.push-requires
push-requires g c = subst (λ ns. length c.args.products.cells < size ns) (sym c.requires.lengths) (first-room g.A.Mul.mul_gives c.args.array.now c.args.row.now.axis c.args.step c.requires.step (g.D.Lengths.numbers c.args.row.now.first) c.args.row.now.count c.args.products.cells c.requires.next.0 c.requires.next.1 c.cells_along-cells.result c.next.new.self c.in-Some.first.now (sym c.cells_along-cells.ensures) c.in-Some.ensures)

pub loop-cell-init : goal.loop-cell-init
loop-cell-init g c =
    let made = c.next_product-product.ensures in
    record {
      lengths = ap (λ p. p.lengths) c.push.ensures;
      order = ap (λ p. p.order) c.push.ensures;
      pushed = subst (λ ms. AlongRow g.A.Mul.mul_gives c.args.array.now c.args.row.now.axis (row_from (g.D.Lengths.numbers c.args.row.now.first) c.args.row.now.axis c.args.row.now.count) c.args.products.cells ms c.next.new.self c.next_product-product.result) (sym (ap (λ p. p.cells) c.push.ensures))
          (along-start g.A.Mul.mul_gives c.args.array.now c.args.row.now.axis c.args.step c.requires.step (g.D.Lengths.numbers c.args.row.now.first) c.args.row.now.count c.args.products.cells c.requires.next.0 c.requires.next.1 c.cells_along-cells.result c.next.new.self c.in-Some.first.now (sym c.cells_along-cells.ensures) c.in-Some.ensures c.next_product-product.result (λ none. made.first (c.axis.ensures ∙ none)) (λ some. made.next (subst (λ n. 0 < n) (sym c.axis.ensures) some)));
    }

pub mul-product-requires : goal.mul-product-requires
mul-product-requires g c = along-can g.A.Mul.mul_gives c.args.array.now c.args.row.now.axis c.args.step c.requires.step (g.D.Lengths.numbers c.args.row.now.first) c.args.row.now.count c.args.products.cells c.requires.next.0 c.requires.next.1 c.loop-cell.products.cells c.loop-cell.cells c.next-in-loop-cell.new.self c.loop-cell.product c.in-Some-next.cell.now c.loop-cell.invariant.pushed c.in-Some-next.ensures g.A.Mul.can_mul c.requires.defined

pub push-requires-in-Some-next : goal.push-requires-in-Some-next
push-requires-in-Some-next g c = subst (λ ns. length c.loop-cell.products.cells < size ns) (sym (c.loop-cell.invariant.lengths ∙ c.requires.lengths)) (along-room g.A.Mul.mul_gives c.args.array.now c.args.row.now.axis c.args.step c.requires.step (g.D.Lengths.numbers c.args.row.now.first) c.args.row.now.count c.args.products.cells c.requires.next.0 c.requires.next.1 c.loop-cell.products.cells c.loop-cell.cells c.next-in-loop-cell.new.self c.loop-cell.product c.in-Some-next.cell.now c.loop-cell.invariant.pushed c.in-Some-next.ensures)

pub loop-cell-preserved : goal.loop-cell-preserved
loop-cell-preserved g c = record {
  lengths = ap (λ p. p.lengths) c.push-in-Some-next.ensures ∙ c.loop-cell.invariant.lengths;
  order = ap (λ p. p.order) c.push-in-Some-next.ensures ∙ c.loop-cell.invariant.order;
  pushed = subst (λ ms. AlongRow g.A.Mul.mul_gives c.args.array.now c.args.row.now.axis (row_from (g.D.Lengths.numbers c.args.row.now.first) c.args.row.now.axis c.args.row.now.count) c.args.products.cells ms c.next-in-loop-cell.new.self c.mul-product.result) (sym (ap (λ p. p.cells) c.push-in-Some-next.ensures))
      (along-next g.A.Mul.mul_gives c.args.array.now c.args.row.now.axis c.args.step c.requires.step (g.D.Lengths.numbers c.args.row.now.first) c.args.row.now.count c.args.products.cells c.requires.next.0 c.requires.next.1 c.loop-cell.products.cells c.loop-cell.cells c.next-in-loop-cell.new.self c.loop-cell.product c.in-Some-next.cell.now c.loop-cell.invariant.pushed c.in-Some-next.ensures c.mul-product.result c.mul-product.ensures);
}

pub returns-clause-pushed : goal.returns-clause-pushed
returns-clause-pushed g c = λ rest h. along-end g.A.Mul.mul_gives c.args.array.now c.args.row.now.axis c.args.step c.requires.step (g.D.Lengths.numbers c.args.row.now.first) c.args.row.now.count c.args.products.cells rest h c.loop-cell.products.cells c.loop-cell.cells c.loop-cell.product c.in_default-next.ensures.0 c.loop-cell.invariant.pushed
