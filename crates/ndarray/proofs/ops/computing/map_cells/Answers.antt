use Rattle.std.proofs.Common.{◌≡◌, ◌∙◌, ap, refl, subst, sym}
use Rattle.ndarray.specs.Grid.{cell}
use Rattle.ndarray.specs.Index.{size}
use Rattle.ndarray.specs.declared.base.shape.Order.TheVariants.{RowMajor, ColumnMajor}
use Rattle.ndarray.proofs.callers.Collecting.{if_ok-both, may-gather}
use Rattle.ndarray.proofs.cells.Elementwise.{maps-of}
use Rattle.ndarray.proofs.ops.computing.map_cells.Goals as goal

pub try_collect_in_either_order-requires-clause-by_rows : goal.try_collect_in_either_order-requires-clause-by_rows
try_collect_in_either_order-requires-clause-by_rows g c = may-gather _ _ _ _ (λ i x r k s h. h.1) _ RowMajor (λ i x b s. c.requires i x.now (ap (λ v. cell v i) (sym c.view.ensures.same) ∙ s))

pub try_collect_in_either_order-requires-clause-by_columns : goal.try_collect_in_either_order-requires-clause-by_columns
try_collect_in_either_order-requires-clause-by_columns g c = may-gather _ _ _ _ (λ i x r k s h. h.1) _ ColumnMajor (λ i x b s. c.requires i x.now (ap (λ v. cell v i) (sym c.view.ensures.same) ∙ s))

pub returns : goal.returns
returns g c =
    let same = c.view.ensures.same in
    record {
      made = if_ok-both c.try_collect_in_either_order.result _ _ _
          (λ r ran whole. maps-of _ _ (λ f. f.0 ≡ c.args.operation) (λ f x z h n k. ap (λ f. f.0) k.1 ∙ n) ran.0 _ refl r whole c.args.array.now (λ x. x.now) _
          (λ i x s. ap (λ v. cell v i) (sym same) ∙ s) (λ f x z h n k. subst (λ f. g.C.CellOperation.apply_gives f x.now z) n k.0) _ (ap (λ v. v.lengths) same) ran.1)
          c.try_collect_in_either_order.ensures.ran c.try_collect_in_either_order.ensures.whole;
      axes = c.try_collect_in_either_order.ensures.axes;
      empty = λ none. c.try_collect_in_either_order.ensures.empty (ap (λ v. size v.lengths) same ∙ none);
    }
