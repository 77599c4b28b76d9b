use Rattle.ndarray.proofs.strides.Reach.{length-cells_at}
use Rattle.ndarray.proofs.base.array.ArrayView+A+D.again.Goals as goal

pub returns-clause-whole : goal.returns-clause-whole
returns-clause-whole g c = rw (c.copied.ensures.dim, c.copied.ensures.start, c.copied.ensures.strides) (length-cells_at _ _ _ _ c.self.invariant)
