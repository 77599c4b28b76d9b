use Rattle.ndarray.proofs.callers.Lanes.{cumulate-always}
use Rattle.ndarray_tests.proofs.rows.along.along.Goals as goal

pub cumprod-requires-clause-defined : goal.cumprod-requires-clause-defined
cumprod-requires-clause-defined c = λ is l e. cumulate-always _ _ (λ x p. tt) l.cells
