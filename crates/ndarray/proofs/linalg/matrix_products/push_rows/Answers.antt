use Rattle.std.proofs.Common.{◌∙◌, ◌++◌, ◌<◌, ap, arith, get_or, map, sym}
use Rattle.ndarray.specs.Matrices.{values_below}
use Rattle.ndarray.specs.Products.{matrix_entries, matrix_of, product_of}
use Rattle.ndarray.proofs.cells.RowProducts.{no-rows, row-can_sum, row-is, rows-room, values-row}
use Rattle.ndarray.proofs.linalg.matrix_products.push_rows.Goals as goal

pub loop-i-init : goal.loop-i-init
loop-i-init g c =
    let v = g.A.Valued in
    record {
      values = ap (map v.meaning) c.requires.none ∙ sym (no-rows (matrix_entries (product_of v (matrix_of v c.args.left.now) (matrix_of v c.args.right.now))) (get_or c.args.right.now.lengths 1 0));
      capacity = omega arith;
    }

pub push_row-requires-clause-can : goal.push_row-requires-clause-can
push_row-requires-clause-can g c κs within =
    let rows = ap (λ k. get_or k 0 0) (c.into_pattern-rows.ensures ∙ c.raw_dim.ensures.lengths) in
    let lt = c.loop-i-test.true in
    row-can_sum g.A.Valued c.args.left.now c.index_axis.result c.args.right.now c.raw_dim.ensures.axes c.index_axis.ensures.whole c.loop-i.i c.index_axis.ensures.value c.requires.inner (omega (arith, rows, lt)) c.requires.sums

pub push_row-requires-clause-room : goal.push_row-requires-clause-room
push_row-requires-clause-room g c κs within =
    let v = g.A.Valued in
    let rows = ap (λ k. get_or k 0 0) (c.into_pattern-rows.ensures ∙ c.raw_dim.ensures.lengths) in
    let lt : c.loop-i.i < get_or c.args.left.now.lengths 0 0 = let below = c.loop-i-test.true in omega (arith, rows, below) in
    let room = rows-room v.meaning (matrix_entries (product_of v (matrix_of v c.args.left.now) (matrix_of v c.args.right.now))) c.loop-i.sums.items (get_or c.args.right.now.lengths 1 0) c.loop-i.i (get_or c.args.left.now.lengths 0 0) c.loop-i.invariant.values lt in
    let all = c.requires.room in
    let capacity = c.loop-i.invariant.capacity in
    omega (arith, room, all, capacity)

pub loop-i-preserved : goal.loop-i-preserved
loop-i-preserved g c =
    let v = g.A.Valued in
    let p = product_of v (matrix_of v c.args.left.now) (matrix_of v c.args.right.now) in
    let n = get_or c.args.right.now.lengths 1 0 in
    let i = c.loop-i in
    let before = i.invariant.capacity in
    let after = c.push_row.ensures.capacity in
    let row = row-is v c.args.left.now c.index_axis.result c.args.right.now c.raw_dim.ensures.axes c.index_axis.ensures.whole i.i c.index_axis.ensures.value c.requires.inner in
    record {
      values =
          c.push_row.ensures.values
          ∙ (ap (λ l. map v.meaning i.sums.items ++ l) row
          ∙ (ap (λ l. l ++ values_below n (p.cell i.i)) i.invariant.values ∙ sym (values-row p n i.i)));
      capacity = omega (arith, before, after);
    }
