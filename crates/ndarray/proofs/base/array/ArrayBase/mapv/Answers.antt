use Rattle.std.proofs.Common.{◌≡◌, ◌∙◌, ap, refl, subst, sym}
use Rattle.std.proofs.lemmas.Result.{IfOk-weaker}
use Rattle.ndarray.specs.Elementwise.{Maps}
use Rattle.ndarray.specs.Grid.{cell}
use Rattle.ndarray.specs.declared.base.shape.Order.TheVariants.{RowMajor, ColumnMajor}
use Rattle.ndarray.proofs.callers.Collecting.{may-gather, if_ok-both}
use Rattle.ndarray.proofs.cells.Elementwise.{maps-of}
use Rattle.ndarray.proofs.cells.Mapped.{maps-mapped}
use Rattle.ndarray.proofs.base.array.ArrayBase.mapv.Goals as goal

pub collect_in_either_order-requires-clause-by_rows : goal.collect_in_either_order-requires-clause-by_rows
collect_in_either_order-requires-clause-by_rows g c =
    may-gather _ _ _ _ (λ i x r k s h. h.1) _ RowMajor (λ i x b s. c.requires.callable i x.now (ap (λ v. cell v i) (sym c.view.ensures.same) ∙ s))

pub collect_in_either_order-requires-clause-by_columns : goal.collect_in_either_order-requires-clause-by_columns
collect_in_either_order-requires-clause-by_columns g c =
    may-gather _ _ _ _ (λ i x r k s h. h.1) _ ColumnMajor (λ i x b s. c.requires.callable i x.now (ap (λ v. cell v i) (sym c.view.ensures.same) ∙ s))

pub returns-clause-cells : goal.returns-clause-cells
returns-clause-cells g c =
    let a = c.args.self.now in
    let same = c.view.ensures.same in
    if_ok-both c.collect_in_either_order.result _ _ (Maps (λ x r. g.F.Fn.post c.args.f (x, tt) r) a)
    (λ b ran whole. maps-of _ _ (λ d. d.0 ≡ c.args.f) (λ d x z e n k. ap (λ d. d.0) k.1 ∙ n) ran.0 _ refl b whole a (λ x. x.now) _
    (λ i x s. ap (λ v. cell v i) (sym same) ∙ s) (λ d x z e n k. subst (λ f. g.F.Fn.post f (x.now, tt) z) n k.0) _ (ap (λ v. v.lengths) same) ran.1)
    c.collect_in_either_order.ensures.ran c.collect_in_either_order.ensures.whole

pub returns-clause-values : goal.returns-clause-values
returns-clause-values g c h acts =
    IfOk-weaker c.collect_in_either_order.result _ _
    (λ b made. maps-mapped c.args.self.now b _ h c.raw_dim-whole.ensures.whole acts made)
    (returns-clause-cells g c)
