use Rattle.ndarray.proofs.strides.Reach.{length-cells_at}
use Rattle.ndarray.proofs.base.array.ArrayBase.into_dimensionality.Goals as goal

pub returns-clause-whole : goal.returns-clause-whole
returns-clause-whole g c = rw (c.into_dimensionality.ensures.start, c.into_dimensionality.ensures.dim, c.into_dimensionality.ensures.strides) (length-cells_at _ _ _ _ c.self.invariant)
