use Rattle.std.proofs.Common.{◌<◌, ◌∙◌, ap, arith, length, refl, remove, subst, sym}
use Rattle.ndarray.specs.Grid.{array_by}
use Rattle.ndarray.specs.Limits.{IsWithinLimit}
use Rattle.ndarray.specs.Views.{axis_item}
use Rattle.ndarray.proofs.cells.LaneTotals.{item-fits, items-end, items-next, items-none, items-start}
use Rattle.ndarray.proofs.views.Items.{nonzero-remove}
use Rattle.ndarray.proofs.reduce.totals.totals_by_items.Goals as goal

pub filled-requires : goal.filled-requires
filled-requires g c =
    let less = nonzero-remove c.args.array.now.lengths c.args.axis.0 in
    let removed = c.try_remove_axis-dim.ensures ∙ ap (λ ns. remove ns c.args.axis.0) c.raw_dim.ensures.lengths in
    subst IsWithinLimit (sym removed) (omega (arith, less, c.raw_dim.ensures.limit))

pub returns-then-len-eq0 : goal.returns-then-len-eq0
returns-then-len-eq0 g c =
    let v = g.T.TotalOperation in
    let removed = c.try_remove_axis-dim.ensures ∙ ap (λ ns. remove ns c.args.axis.0) c.raw_dim.ensures.lengths in
    record {
      made = items-none v.operation v.InRange v.meaning c.args.array.now c.args.axis.0 c.raw_dim.ensures.whole c.requires.axis 0 c.in_ok-totals.totals (omega (arith, c.len.ensures.size, c.if-len-eq0.true))
          (items-start v.operation v.InRange v.meaning c.args.array.now c.args.axis.0 c.raw_dim.ensures.whole c.requires.axis c.requires.lanes c.in_ok-totals.totals c.of_none.result c.of_none.ensures
          (c.in_ok-totals.ensures.cells ∙ ap (λ ns. array_by ns (λ _. c.of_none.result)) removed));
      axes = c.in_ok-totals.ensures.axes;
      empty = λ none. refl;
    }

pub loop-k-init : goal.loop-k-init
loop-k-init g c =
    let v = g.T.TotalOperation in
    let removed = c.try_remove_axis-dim.ensures ∙ ap (λ ns. remove ns c.args.axis.0) c.raw_dim.ensures.lengths in
    items-start v.operation v.InRange v.meaning c.args.array.now c.args.axis.0 c.raw_dim.ensures.whole c.requires.axis c.requires.lanes c.in_ok-totals.totals c.of_none.result c.of_none.ensures
    (c.in_ok-totals.ensures.cells ∙ ap (λ ns. array_by ns (λ _. c.of_none.result)) removed)

pub assign-requires : goal.assign-requires
assign-requires g c =
    let v = g.T.TotalOperation in
    let below = subst (λ n. c.loop-k.k < n) c.len_of-k-end.ensures.value c.loop-k-test.true in
    let is_item = c.into_item-item.ensures.value ∙ ap (λ w. axis_item w c.args.axis.0 c.loop-k.k) c.view.ensures.same in
    item-fits v.operation v.InRange v.meaning c.args.array.now c.args.axis.0 c.raw_dim.ensures.whole c.requires.axis c.loop-k.k below c.into_item-item.result c.into_item-item.ensures.whole is_item c.loop-k.totals c.loop-k.invariant

pub loop-k-preserved : goal.loop-k-preserved
loop-k-preserved g c =
    let v = g.T.TotalOperation in
    let below = subst (λ n. c.loop-k.k < n) c.len_of-k-end.ensures.value c.loop-k-test.true in
    let is_item = c.into_item-item.ensures.value ∙ ap (λ w. axis_item w c.args.axis.0 c.loop-k.k) c.view.ensures.same in
    items-next v.operation v.InRange v.meaning c.args.array.now c.args.axis.0 c.raw_dim.ensures.whole c.requires.axis c.loop-k.k below c.into_item-item.result c.into_item-item.ensures.whole is_item c.loop-k.totals c.loop-k.invariant c.assign.new.array c.assign.ensures

pub returns : goal.returns
returns g c =
    let v = g.T.TotalOperation in
    let r = c.loop-k.invariant in
    let removed = c.try_remove_axis-dim.ensures ∙ ap (λ ns. remove ns c.args.axis.0) c.raw_dim.ensures.lengths in
    record {
      made = items-end v.operation v.InRange v.meaning c.args.array.now c.args.axis.0 c.raw_dim.ensures.whole c.requires.axis c.loop-k.k (omega (arith, c.loop-k.auto.k-end, c.loop-k-test.false, c.len_of-k-end.ensures.value)) c.loop-k.totals r;
      axes = subst (λ ns. g.D.Smaller.Lengths.has_axes (length ns)) (ap (λ w. w.lengths) c.in_ok-totals.ensures.cells ∙ (removed ∙ sym r.lengths)) c.in_ok-totals.ensures.axes;
      empty = λ none. refl;
    }
