-- What is still to be sliced makes of the array what all slices make of the array as it was.
use Rattle.std.proofs.Common.{◌≡◌, drop}
use Rattle.ndarray.specs.AxisSlices.{AreSlicesOf, axes_sliced}
use Rattle.ndarray.proofs.base.array.ArrayBase.slice_inplace.Given as goal

abbrev pub invariant-loop-axis : goal.invariant-loop-axis
invariant-loop-axis g l = record {
  rest : AreSlicesOf (drop l.axis l.self.lengths) (drop l.axis l.slices);
  same : axes_sliced 0 l.fn.self l.slices ≡ axes_sliced l.axis l.self (drop l.axis l.slices);
}
