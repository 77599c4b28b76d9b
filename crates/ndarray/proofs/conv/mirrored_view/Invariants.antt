-- The axes so far are turned round.
use Rattle.ndarray.proofs.convolution.MirroredViews.{IsMirroredFirst}
use Rattle.ndarray.proofs.conv.mirrored_view.Given as goal

abbrev pub invariant-loop-axis : goal.invariant-loop-axis
invariant-loop-axis g l = IsMirroredFirst l.axis l.array l.mirrored
