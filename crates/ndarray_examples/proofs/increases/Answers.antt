use Rattle.ndarray.proofs.Common.{differ-once}
use Rattle.ndarray_examples.proofs.increases.Goals as goal

pub diff-requires-clause-defined : goal.diff-requires-clause-defined
diff-requires-clause-defined g c = differ-once _ _ _ _ c.requires.fits
