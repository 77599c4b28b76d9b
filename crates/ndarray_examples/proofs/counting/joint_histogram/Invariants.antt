-- The counts are those of the pixels so far.
use Rattle.ndarray.proofs.Common.{◌∷◌, [], zip, HasNamedSums}
use Rattle.ndarray_examples.proofs.counting.joint_histogram.Given as goal

abbrev pub invariant-loop-x : goal.invariant-loop-x
invariant-loop-x g l = HasNamedSums (256 ∷ 256 ∷ []) (λ pixels. pixels.0 ∷ pixels.1 ∷ []) (λ _. 1) (zip l.first.cells l.second.cells) l.counts (zip l.x-iterator.a l.x-iterator.b)
