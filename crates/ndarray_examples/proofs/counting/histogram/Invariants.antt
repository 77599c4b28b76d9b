-- The counts are those of the pixels so far.
use Rattle.ndarray.proofs.Common.{◌∷◌, [], HasNamedSums}
use Rattle.ndarray_examples.proofs.counting.histogram.Given as goal

abbrev pub invariant-loop-pixel : goal.invariant-loop-pixel
invariant-loop-pixel g l = HasNamedSums (256 ∷ []) (λ pixel. pixel ∷ []) (λ _. 1) l.image.cells l.counts l.pixel-iterator
