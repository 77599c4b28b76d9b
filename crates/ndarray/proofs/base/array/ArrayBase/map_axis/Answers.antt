use Rattle.std.proofs.Common.{◌≡◌, ◌∙◌, ap, arith, refl, subst, sym}
use Rattle.std.proofs.lemmas.Result.{IfOk-weaker}
use Rattle.ndarray.specs.Grid.{cell}
use Rattle.ndarray.specs.Index.{size}
use Rattle.ndarray.specs.Subviews.{lanes_of}
use Rattle.ndarray.specs.contracts.base.array.ArrayBase.map_axis.F-Fn.{words}
use Rattle.ndarray.specs.declared.base.shape.Order.TheVariants.{RowMajor, ColumnMajor}
use Rattle.ndarray.proofs.callers.Collecting.{if_ok-both, lanes_of-some, may-gather}
use Rattle.ndarray.proofs.callers.Lanes.{lanes-follow}
use Rattle.ndarray.proofs.cells.Elementwise.{maps-of}
use Rattle.ndarray.proofs.base.array.ArrayBase.map_axis.Goals as goal

-- what a closure gives, the same closure gives
moved : {F X R : Type 0} (gives : F → X → R → Type 0) (d f : F) (x : X) (z : R) → d ≡ f → gives d x z → gives f x z
moved gives d f x z e given = subst (λ h. gives h x z) e given

pub collect_in_either_order-requires-clause-by_rows : goal.collect_in_either_order-requires-clause-by_rows
collect_in_either_order-requires-clause-by_rows g c =
    may-gather _ _ _ _ (λ i x r k s h. h.1) _ RowMajor (λ i x b s. c.requires.callable i x (ap (λ v. cell v i) (sym c.lanes.ensures) ∙ s))

pub collect_in_either_order-requires-clause-by_columns : goal.collect_in_either_order-requires-clause-by_columns
collect_in_either_order-requires-clause-by_columns g c =
    may-gather _ _ _ _ (λ i x r k s h. h.1) _ ColumnMajor (λ i x b s. c.requires.callable i x (ap (λ v. cell v i) (sym c.lanes.ensures) ∙ s))

pub returns-clause-cells : goal.returns-clause-cells
returns-clause-cells g c =
    let a = c.args.self.now in
    let same = c.lanes.ensures in
    if_ok-both c.collect_in_either_order.result _ _ _
    (λ r ran whole. maps-of _ _ (λ d. d.0 ≡ c.args.f) (λ d x z e n k. ap (λ d. d.0) k.1 ∙ n) ran.0 _ refl r whole (lanes_of a c.args.axis.0) (λ x. x) _
    (λ i x s. ap (λ v. cell v i) (sym same) ∙ s) (λ d x z e n k. moved (words g.row.A g.row.S g.row.D g.row.D-Pattern g.row.D-Smaller g.row.D-Larger g.row.R g.row.F g.F.Fn).post d.0 c.args.f x.cells z n k.0) _ (ap (λ v. v.lengths) same) ran.1)
    c.collect_in_either_order.ensures.ran c.collect_in_either_order.ensures.whole

pub returns-clause-values : goal.returns-clause-values
returns-clause-values g c h acts =
    IfOk-weaker c.collect_in_either_order.result _ _
    (λ r made. lanes-follow c.args.self.now c.args.axis.0 (omega (arith, c.requires.axis)) _ (λ l. h l.cells) (λ l z ran. acts l.cells z ran) r made)
    (returns-clause-cells g c)

pub returns-clause-empty : goal.returns-clause-empty
returns-clause-empty g c none =
    let a = c.args.self.now in
    let made = c.lanes.ensures ∙ lanes_of-some a.lengths a c.args.axis.0 (omega (arith, c.requires.axis)) in
    c.collect_in_either_order.ensures.empty (ap (λ v. size v.lengths) made ∙ none)
