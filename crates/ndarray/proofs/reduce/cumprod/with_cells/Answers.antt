use Rattle.std.proofs.Common.{◌<◌, ◌∙◌, ap, length, refl, subst, sym}
use Rattle.ndarray.specs.Index.{size}
use Rattle.ndarray.specs.base.Ranks.{row_from}
use Rattle.ndarray.proofs.cells.ProductRows.{AcrossRow, across-back, across-can, across-end, across-next, across-room, across-start, one-index, row-axis}
use Rattle.ndarray.proofs.reduce.cumprod.with_cells.Goals as goal

pub axis-index-requires : goal.axis-index-requires
axis-index-requires g c = row-axis g.A.Mul.mul_gives c.args.array.now c.args.axis c.args.step c.requires.step c.args.products.cells (g.D.Lengths.numbers c.args.row.now.first) c.args.row.now.axis c.args.row.now.count c.requires.next.0 c.requires.some c.requires.next.1

pub loop-cell-init : goal.loop-cell-init
loop-cell-init g c = record {
  lengths = refl;
  order = refl;
  pushed = across-start g.A.Mul.mul_gives c.args.array.now c.args.axis c.args.step c.requires.step (row_from (g.D.Lengths.numbers c.args.row.now.first) c.args.row.now.axis c.args.row.now.count) c.args.products.cells c.axis-index.result c.args.cells (sym c.requires.cells)
      (one-index c.args.axis c.args.row.now.axis c.args.row.now.count c.requires.other c.axis-index.result (g.D.Lengths.numbers c.args.row.now.first) c.axis-index.ensures) c.requires.next.0 c.requires.next.1;
}

pub next_product-product-requires-clause-some : goal.next_product-product-requires-clause-some
next_product-product-requires-clause-some g c = λ some. (across-back g.A.Mul.mul_gives c.args.array.now c.args.axis c.args.step c.requires.step (row_from (g.D.Lengths.numbers c.args.row.now.first) c.args.row.now.axis c.args.row.now.count) c.args.products.cells c.axis-index.result c.loop-cell.products.cells c.loop-cell.cells c.next.new.self c.in-Some.cell.now c.loop-cell.invariant.pushed c.in-Some.ensures c.requires.next.0 c.requires.next.1 some).0

pub next_product-product-requires-clause-within : goal.next_product-product-requires-clause-within
next_product-product-requires-clause-within g c = λ some. (across-back g.A.Mul.mul_gives c.args.array.now c.args.axis c.args.step c.requires.step (row_from (g.D.Lengths.numbers c.args.row.now.first) c.args.row.now.axis c.args.row.now.count) c.args.products.cells c.axis-index.result c.loop-cell.products.cells c.loop-cell.cells c.next.new.self c.in-Some.cell.now c.loop-cell.invariant.pushed c.in-Some.ensures c.requires.next.0 c.requires.next.1 some).1

pub next_product-product-requires-clause-defined : goal.next_product-product-requires-clause-defined
next_product-product-requires-clause-defined g c = across-can g.A.Mul.mul_gives c.args.array.now c.args.axis c.args.step c.requires.step (row_from (g.D.Lengths.numbers c.args.row.now.first) c.args.row.now.axis c.args.row.now.count) c.args.products.cells c.axis-index.result c.loop-cell.products.cells c.loop-cell.cells c.next.new.self c.in-Some.cell.now c.loop-cell.invariant.pushed c.in-Some.ensures c.requires.next.0 c.requires.next.1 g.A.Mul.can_mul c.requires.defined

pub push-requires : goal.push-requires
push-requires g c = subst (λ ns. length c.loop-cell.products.cells < size ns) (sym (c.loop-cell.invariant.lengths ∙ c.requires.lengths)) (across-room g.A.Mul.mul_gives c.args.array.now c.args.axis c.args.step c.requires.step (row_from (g.D.Lengths.numbers c.args.row.now.first) c.args.row.now.axis c.args.row.now.count) c.args.products.cells c.axis-index.result c.loop-cell.products.cells c.loop-cell.cells c.next.new.self c.in-Some.cell.now c.loop-cell.invariant.pushed c.in-Some.ensures c.requires.next.0 c.requires.next.1)

pub loop-cell-preserved : goal.loop-cell-preserved
loop-cell-preserved g c =
    let made = c.next_product-product.ensures in
    record {
      lengths = ap (λ p. p.lengths) c.push.ensures ∙ c.loop-cell.invariant.lengths;
      order = ap (λ p. p.order) c.push.ensures ∙ c.loop-cell.invariant.order;
      pushed = subst (λ ms. AcrossRow g.A.Mul.mul_gives c.args.array.now c.args.axis c.axis-index.result (row_from (g.D.Lengths.numbers c.args.row.now.first) c.args.row.now.axis c.args.row.now.count) c.args.products.cells ms c.next.new.self) (sym (ap (λ p. p.cells) c.push.ensures))
          (across-next g.A.Mul.mul_gives c.args.array.now c.args.axis c.args.step c.requires.step (row_from (g.D.Lengths.numbers c.args.row.now.first) c.args.row.now.axis c.args.row.now.count) c.args.products.cells c.axis-index.result c.loop-cell.products.cells c.loop-cell.cells c.next.new.self c.in-Some.cell.now c.loop-cell.invariant.pushed c.in-Some.ensures c.requires.next.0 c.requires.next.1 c.next_product-product.result made.first made.next);
    }

pub returns-clause-pushed : goal.returns-clause-pushed
returns-clause-pushed g c = λ rest h. across-end g.A.Mul.mul_gives c.args.array.now c.args.axis c.args.step c.requires.step (row_from (g.D.Lengths.numbers c.args.row.now.first) c.args.row.now.axis c.args.row.now.count) c.args.products.cells c.axis-index.result c.loop-cell.products.cells c.loop-cell.cells c.in_default.ensures.0 c.loop-cell.invariant.pushed rest h
