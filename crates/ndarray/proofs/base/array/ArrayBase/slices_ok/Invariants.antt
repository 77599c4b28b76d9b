-- The first slices are within their axes.
use Rattle.std.proofs.Common.{◌≡◌, ◌<◌, ℕ, get_or}
use Rattle.ndarray.specs.Slices.{IsSliceOf}
use Rattle.ndarray.specs.declared.base.slice.Slice.{Slice}
use Rattle.ndarray.proofs.base.array.ArrayBase.slices_ok.Given as goal

abbrev pub invariant-loop-axis : goal.invariant-loop-axis
invariant-loop-axis g l = (k : ℕ) (s : Slice) → k < l.axis → s ≡ get_or l.slices k s → IsSliceOf (get_or l.self.lengths k 0) s
