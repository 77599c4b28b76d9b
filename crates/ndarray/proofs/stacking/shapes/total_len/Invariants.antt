-- The sum so far, with the lengths to come, is the whole.
use Rattle.std.proofs.Common.{◌≡◌, ◌+◌, drop}
use Rattle.std.specs.Prelude.{slice_index, sum_by}
use Rattle.ndarray.specs.Joining.{shapes_of}
use Rattle.ndarray.proofs.stacking.shapes.total_len.Given as goal

abbrev pub invariant-loop-array : goal.invariant-loop-array
invariant-loop-array g l =
    l.total + sum_by (λ ns. slice_index ns l.axis.0) (shapes_of (drop l.array-index l.arrays)) ≡ sum_by (λ ns. slice_index ns l.axis.0) (shapes_of l.arrays)
