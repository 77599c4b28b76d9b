use Rattle.std.proofs.Common.{◌≡◌, ◌∙◌, ap, sym}
use Rattle.std.specs.Prelude.{⊤}
use Rattle.ndarray.specs.Grid.{cell}
use Rattle.ndarray.specs.Index.{size}
use Rattle.ndarray.specs.Subviews.{lanes_of}
use Rattle.ndarray.specs.declared.base.shape.Order.TheVariants.{RowMajor}
use Rattle.ndarray.proofs.callers.Collecting.{if_ok-both}
use Rattle.ndarray.proofs.cells.Elementwise.{maps-of}
use Rattle.ndarray.proofs.reduce.totals.totals_by_lanes.Goals as goal

pub returns : goal.returns
returns g c =
    let same : c.lanes.result ≡ lanes_of c.args.array.now c.args.axis.0 = c.lanes.ensures in
    record {
      made = if_ok-both c.collect_items.result _ _ _
          (λ r ran whole. maps-of _ _ (λ _. ⊤) (λ f x z h n k. tt) RowMajor _ tt r whole (lanes_of c.args.array.now c.args.axis.0) (λ x. x) _
          (λ i x s. ap (λ v. cell v i) (sym same) ∙ s) (λ f x z h n k. k) _ (ap (λ v. v.lengths) same) ran)
          c.collect_items.ensures.ran c.collect_items.ensures.whole;
      axes = c.collect_items.ensures.axes;
      empty = λ none. c.collect_items.ensures.empty (ap (λ v. size v.lengths) same ∙ none);
    }
