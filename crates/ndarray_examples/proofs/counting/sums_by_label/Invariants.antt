-- The sums are those of the values so far.
use Rattle.ndarray.proofs.Common.{◌∷◌, [], zip, HasNamedSums}
use Rattle.ndarray_examples.proofs.counting.sums_by_label.Given as goal

abbrev pub invariant-loop-label : goal.invariant-loop-label
invariant-loop-label g l = HasNamedSums (256 ∷ []) (λ item. item.0 ∷ []) (λ item. item.1) (zip l.labels.cells l.values.cells) l.sums (zip l.label-iterator.a l.label-iterator.b)
