use Rattle.std.proofs.Common.{◌∙◌, ◌++◌, [], ◌∷◌, add-one, ap, append_assoc, arith, get_or, length, map, subst, sym}
use Rattle.std.proofs.lemmas.List.{length-append, length-map, map-append}
use Rattle.ndarray.specs.Matrices.{values_below}
use Rattle.ndarray.specs.Products.{matrix_of, product_of, row_of}
use Rattle.ndarray.specs.Sums.{IsSummable, total}
use Rattle.ndarray.proofs.cells.RowProducts.{column-meets}
use Rattle.ndarray.proofs.sums.InnerSums.{length-below}
use Rattle.ndarray.proofs.sums.RowSums.{below-more}
use Rattle.ndarray.proofs.linalg.row_sums.push_by_columns.Goals as goal

pub inner_of-requires-clause-same : goal.inner_of-requires-clause-same
inner_of-requires-clause-same g c κs within =
    let v = g.A.Valued in
    let meets = column-meets v c.args.x.now c.args.right.now c.raw_dim.ensures.axes c.requires.can c.again.result c.cells_of-column.result (c.again.ensures ∙ (c.cells_of-numbers.ensures ∙ ap (λ w. w.cells) c.view.ensures.same)) c.loop-j.j c.index_axis.result c.index_axis.ensures.whole c.index_axis.ensures.value c.cells_of-column.ensures in
    meets.1

pub inner_of-requires-clause-sums : goal.inner_of-requires-clause-sums
inner_of-requires-clause-sums g c κs within =
    let v = g.A.Valued in
    let columns = ap (λ k. get_or k 1 0) (c.into_pattern-columns.ensures ∙ c.raw_dim.ensures.lengths) in
    let lt = c.loop-j-test.true in
    let meets = column-meets v c.args.x.now c.args.right.now c.raw_dim.ensures.axes c.requires.can c.again.result c.cells_of-column.result (c.again.ensures ∙ (c.cells_of-numbers.ensures ∙ ap (λ w. w.cells) c.view.ensures.same)) c.loop-j.j c.index_axis.result c.index_axis.ensures.whole c.index_axis.ensures.value c.cells_of-column.ensures in
    subst (IsSummable v.addition v.InRange) (sym meets.0) (c.requires.can.sums 0 c.loop-j.j (omega arith) (omega (arith, lt, columns)))

pub push_reserved-requires : goal.push_reserved-requires
push_reserved-requires g c =
    let v = g.A.Valued in
    let x = c.args.x.now in
    let b = c.args.right.now in
    let old = map v.meaning c.args.sums.now.items in
    let sums = values_below c.loop-j.j ((product_of v (row_of v x) (matrix_of v b)).cell 0) in
    let all = ap length c.loop-j.invariant.values in
    let both = length-append old sums in
    let now = length-map c.loop-j.sums.items v.meaning in
    let before = length-map c.args.sums.now.items v.meaning in
    let so_far = length-below c.loop-j.j ((product_of v (row_of v x) (matrix_of v b)).cell 0) in
    let columns = ap (λ k. get_or k 1 0) (c.into_pattern-columns.ensures ∙ c.raw_dim.ensures.lengths) in
    let lt = c.loop-j-test.true in
    let room = c.requires.room in
    let capacity = c.loop-j.invariant.capacity in
    let len = c.loop-j.sums.ok.0 in
    omega (arith, all, both, now, before, so_far, columns, lt, room, capacity, len)

pub loop-j-preserved : goal.loop-j-preserved
loop-j-preserved g c =
    let v = g.A.Valued in
    let x = c.args.x.now in
    let b = c.args.right.now in
    let sum = (product_of v (row_of v x) (matrix_of v b)).cell 0 in
    let old = map v.meaning c.args.sums.now.items in
    let meets = column-meets v c.args.x.now c.args.right.now c.raw_dim.ensures.axes c.requires.can c.again.result c.cells_of-column.result (c.again.ensures ∙ (c.cells_of-numbers.ensures ∙ ap (λ w. w.cells) c.view.ensures.same)) c.loop-j.j c.index_axis.result c.index_axis.ensures.whole c.index_axis.ensures.value c.cells_of-column.ensures in
    let next = c.inner_of.ensures ∙ ap (total v.addition) meets.0 in
    record {
      values =
          ap (map v.meaning) c.push_reserved.ensures.items
          ∙ (map-append v.meaning c.loop-j.sums.items (c.inner_of.result ∷ [])
          ∙ (ap (λ l. l ++ v.meaning c.inner_of.result ∷ []) c.loop-j.invariant.values
          ∙ (append_assoc old (values_below c.loop-j.j sum) (v.meaning c.inner_of.result ∷ [])
          ∙ ap (λ l. old ++ l) (ap (λ t. values_below c.loop-j.j sum ++ t ∷ []) next ∙ sym (rw add-one (below-more c.loop-j.j sum))))));
      capacity = c.push_reserved.ensures.capacity ∙ c.loop-j.invariant.capacity;
    }
