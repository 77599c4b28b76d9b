use Rattle.std.proofs.Common.{◌≡◌, ◌∙◌, All, ap, arith, refl, remove, subst, sym}
use Rattle.std.specs.List.{FoldsTo, fold}
use Rattle.std.proofs.lemmas.Result.{IfOk-weaker}
use Rattle.ndarray.specs.Everyday.{ReturnsAtBoth, TakesAtBoth}
use Rattle.ndarray.specs.Grid.{array_by, cell}
use Rattle.ndarray.specs.Index.{size}
use Rattle.ndarray.specs.Subviews.{lane, lanes_of}
use Rattle.ndarray.specs.declared.base.shape.Order.TheVariants.{RowMajor, ColumnMajor}
use Rattle.ndarray.proofs.callers.Collecting.{array_by-at, if_ok-both, lanes_of-some, may-gather}
use Rattle.ndarray.proofs.callers.Lanes.{lanes-follow}
use Rattle.ndarray.proofs.cells.Elementwise.{maps-of}
use Rattle.ndarray.proofs.cells.FoldedLanes.{folds-follow, lane-has}
use Rattle.ndarray.proofs.base.array.ArrayBase.fold_axis.Goals as goal

pub collect_in_either_order-requires-clause-by_rows : goal.collect_in_either_order-requires-clause-by_rows
collect_in_either_order-requires-clause-by_rows g c =
    let a = c.args.self.now in
    let k = c.args.axis.0 in
    let made : c.lanes.result ≡ array_by (remove a.lengths k) (lane a k) = c.lanes.ensures ∙ lanes_of-some a.lengths a k (omega (arith, c.requires.axis)) in
    may-gather _ _ _ _ (λ i x r d s h. h.1) _ RowMajor
    (λ i x inside shown b. subst (λ v. All (TakesAtBoth g.F.Fn c.args.f b) v.cells) (sym (array_by-at (remove a.lengths k) (lane a k) c.lanes.result i x made inside shown)) (lane-has a (TakesAtBoth g.F.Fn c.args.f b) (c.requires.callable b) k i))

pub collect_in_either_order-requires-clause-by_columns : goal.collect_in_either_order-requires-clause-by_columns
collect_in_either_order-requires-clause-by_columns g c =
    let a = c.args.self.now in
    let k = c.args.axis.0 in
    let made : c.lanes.result ≡ array_by (remove a.lengths k) (lane a k) = c.lanes.ensures ∙ lanes_of-some a.lengths a k (omega (arith, c.requires.axis)) in
    may-gather _ _ _ _ (λ i x r d s h. h.1) _ ColumnMajor
    (λ i x inside shown b. subst (λ v. All (TakesAtBoth g.F.Fn c.args.f b) v.cells) (sym (array_by-at (remove a.lengths k) (lane a k) c.lanes.result i x made inside shown)) (lane-has a (TakesAtBoth g.F.Fn c.args.f b) (c.requires.callable b) k i))

pub returns-clause-cells : goal.returns-clause-cells
returns-clause-cells g c =
    let a = c.args.self.now in
    let same = c.lanes.ensures in
    if_ok-both c.collect_in_either_order.result _ _ _
    (λ r ran whole. maps-of _ _ (λ d. (d.f ≡ c.args.f) × (d.init ≡ c.args.init)) (λ d x z e n k. (ap (λ d. d.f) k.1 ∙ n.0, ap (λ d. d.init) k.1 ∙ n.1)) ran.0 _ (refl, refl) r whole
    (lanes_of a c.args.axis.0) (λ x. x) (λ l t. FoldsTo (ReturnsAtBoth g.F.Fn c.args.f) c.args.init l.cells t)
    (λ i x s. ap (λ v. cell v i) (sym same) ∙ s)
    (λ d x z e n k. subst (λ f. FoldsTo (ReturnsAtBoth g.F.Fn f) c.args.init x.cells z) n.0 (subst (λ b. FoldsTo (ReturnsAtBoth g.F.Fn d.f) b x.cells z) n.1 k.0))
    _ (ap (λ v. v.lengths) same) ran.1)
    c.collect_in_either_order.ensures.ran c.collect_in_either_order.ensures.whole

pub returns-clause-values : goal.returns-clause-values
returns-clause-values g c h acts =
    IfOk-weaker c.collect_in_either_order.result _ _
    (λ r made. lanes-follow c.args.self.now c.args.axis.0 (omega (arith, c.requires.axis)) _ (λ l. fold h c.args.init l.cells)
    (λ l z ran. folds-follow (ReturnsAtBoth g.F.Fn c.args.f) h (λ b x t k. acts k.first k.second t k.met ∙ (ap (λ u. h u k.second.now) k.shows.0 ∙ ap (h b) k.shows.1)) c.args.init l.cells z ran)
    r made)
    (returns-clause-cells g c)

pub returns-clause-empty : goal.returns-clause-empty
returns-clause-empty g c none =
    let a = c.args.self.now in
    let made : c.lanes.result ≡ array_by (remove a.lengths c.args.axis.0) (lane a c.args.axis.0) = c.lanes.ensures ∙ lanes_of-some a.lengths a c.args.axis.0 (omega (arith, c.requires.axis)) in
    c.collect_in_either_order.ensures.empty (ap (λ v. size v.lengths) made ∙ none)
