use Rattle.ndarray.proofs.Common.{cumulate-always}
use Rattle.ndarray_examples.proofs.residue_running_products.Goals as goal

pub cumprod-requires-clause-defined : goal.cumprod-requires-clause-defined
cumprod-requires-clause-defined g c = λ is lane e. cumulate-always _ _ (λ x p. tt) lane.cells
