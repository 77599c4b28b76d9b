use Rattle.std.proofs.Common.{◌≡◌, ◌∙◌, ap, refl, subst, sym}
use Rattle.ndarray.specs.Index.{InBox}
use Rattle.ndarray.specs.declared.base.shape.Order.TheVariants.{RowMajor, ColumnMajor}
use Rattle.ndarray.proofs.callers.Collecting.{array_by-at, if_ok-both, may-gather}
use Rattle.ndarray.proofs.cells.Cells.{cell-inside}
use Rattle.ndarray.proofs.cells.CollectedCells.{Collects-at}
use Rattle.ndarray.proofs.linalg.entries.array_of.Goals as goal

pub collect_in_either_order-requires-clause-by_rows : goal.collect_in_either_order-requires-clause-by_rows
collect_in_either_order-requires-clause-by_rows g c = may-gather _ _ _ _ (λ i x r k s h. h.1) _ RowMajor
    (λ i x b s.
    let at = array_by-at _ (λ is. is) c.of.result i _ c.of.ensures b s in
    c.requires.can x (subst (InBox (g.D.Lengths.numbers c.args.dim)) (sym at) (subst (λ w. InBox w.lengths i) c.of.ensures b)))

pub collect_in_either_order-requires-clause-by_columns : goal.collect_in_either_order-requires-clause-by_columns
collect_in_either_order-requires-clause-by_columns g c = may-gather _ _ _ _ (λ i x r k s h. h.1) _ ColumnMajor
    (λ i x b s.
    let at = array_by-at _ (λ is. is) c.of.result i _ c.of.ensures b s in
    c.requires.can x (subst (InBox (g.D.Lengths.numbers c.args.dim)) (sym at) (subst (λ w. InBox w.lengths i) c.of.ensures b)))

pub returns-clause-made : goal.returns-clause-made
returns-clause-made g c =
    if_ok-both c.collect_in_either_order.result _ _ _
    (λ r either whole.
    let (o, ran) = either in
    record {
      lengths = ran.lengths ∙ ap (λ w. w.lengths) c.of.ensures;
      whole = whole;
      cells = λ is z e.
          let b = subst (λ ms. InBox ms is) ran.lengths (cell-inside r is z e) in
          let k = Collects-at _ _ (λ f. f.0 ≡ c.args.entries) _ (λ i f x z h b y n k. ap (λ f. f.0) k.1 ∙ n) o _ r refl ran is b z e in
          (k.item, array_by-at _ (λ js. js) c.of.result is _ c.of.ensures b k.yielded, subst (λ f. g.C.Entries.computes f k.item z) k.known k.given.0);
    })
    c.collect_in_either_order.ensures.ran c.collect_in_either_order.ensures.whole
