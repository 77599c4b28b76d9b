use Rattle.std.proofs.Common.{◌∙◌, ◌+◌, ◌<◌, ℕ, List, None, ap, arith, drop, get_or, length, pos, subst, sym}
use Rattle.std.proofs.lemmas.List.{get_or_default}
use Rattle.ndarray.specs.AxisSlices.{AreSlicesOf, axes_sliced}
use Rattle.ndarray.specs.Grid.{Grid}
use Rattle.ndarray.specs.declared.base.slice.Slice.{Slice}
use Rattle.ndarray.proofs.views.AxisSlices.{IsNextSlice, all-sliced, next-slice}
use Rattle.ndarray.proofs.base.array.ArrayBase.slice_inplace.Goals as goal

abbrev slice_at : List Slice → ℕ → Slice
slice_at ss k = get_or ss k (record { start = pos 0; end = None; step = pos 0 })

next : {A : Type 0} (g : Grid A) (k : ℕ) (ss : List Slice) → k < length ss → AreSlicesOf (drop k g.lengths) (drop k ss) → IsNextSlice g k ss (slice_at ss k)
next g k ss lt rest = next-slice g k ss (slice_at ss k) lt (get_or_default ss k (record { start = pos 0; end = None; step = pos 0 }) (slice_at ss k) lt) rest

pub slice_axis_inplace-requires-clause-axis : goal.slice_axis_inplace-requires-clause-axis
slice_axis_inplace-requires-clause-axis g c = (next c.loop-axis.self c.loop-axis.axis c.args.slices.now c.loop-axis-test.true c.loop-axis.invariant.rest).axis

pub slice_axis_inplace-requires-clause-within : goal.slice_axis_inplace-requires-clause-within
slice_axis_inplace-requires-clause-within g c = (next c.loop-axis.self c.loop-axis.axis c.args.slices.now c.loop-axis-test.true c.loop-axis.invariant.rest).within

pub loop-axis-preserved : goal.loop-axis-preserved
loop-axis-preserved g c =
    let k = c.loop-axis.axis in
    let ss = c.args.slices.now in
    let value = c.slice_axis_inplace.ensures.value in
    let n = next c.loop-axis.self k ss c.loop-axis-test.true c.loop-axis.invariant.rest in
    record {
      rest = subst (λ v. AreSlicesOf (drop (k + 1) v.lengths) (drop (k + 1) ss)) (sym value) n.rest;
      same = c.loop-axis.invariant.same ∙ (n.same ∙ ap (λ v. axes_sliced (k + 1) v (drop (k + 1) ss)) (sym value));
    }

pub returns-clause-value : goal.returns-clause-value
returns-clause-value g c = sym (c.loop-axis.invariant.same ∙ all-sliced c.loop-axis.self c.loop-axis.axis c.args.slices.now (omega (arith, c.loop-axis-test.false)))
