use Rattle.std.proofs.Common.{◌^◌, ◌-◌, ◌∙◌, ap, arith, length, min}
use Rattle.std.proofs.lemmas.List.{take_all, take_min}
use Rattle.ndarray.specs.Grid.{one_axis}
use Rattle.ndarray.specs.base.Storage.{seen_at}
use Rattle.ndarray.proofs.strides.OneAxisSlices.{Reaches-one_axis, grid-one_axis}
use Rattle.ndarray.proofs.strides.Reach.{length-cells_at}
use Rattle.ndarray.proofs.base.constructors.ArrayView1FromRefSlice.from.Goals as goal

pub invariant_of-result : goal.invariant_of-result
invariant_of-result g c =
    let xs = c.args.slice.now in
    rw (c.one_axis_layout.ensures.start, c.one_axis_layout.ensures.dim, c.one_axis_layout.ensures.strides) (Reaches-one_axis (seen_at c.new.result) xs c.new.ensures (min (2 ^ 63 - 1) (length xs)) (omega arith) (omega arith) ⊥)

pub returns-clause-whole : goal.returns-clause-whole
returns-clause-whole g c = length-cells_at _ _ _ _ (invariant_of-result g c)

pub returns-clause-limited : goal.returns-clause-limited
returns-clause-limited g c =
    let xs = c.args.slice.now in
    rw (c.one_axis_layout.ensures.start, c.one_axis_layout.ensures.dim, c.one_axis_layout.ensures.strides) (grid-one_axis (seen_at c.new.result) xs c.new.ensures (min (2 ^ 63 - 1) (length xs)) (omega arith) (omega arith) ∙ ap one_axis (take_min (2 ^ 63 - 1) xs))

pub returns-clause-cells : goal.returns-clause-cells
returns-clause-cells g c = λ few. returns-clause-limited g c ∙ ap one_axis (take_all (2 ^ 63 - 1) c.args.slice.now (omega arith))
