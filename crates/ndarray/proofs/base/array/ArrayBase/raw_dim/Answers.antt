use Rattle.std.proofs.Common.{subst}
use Rattle.ndarray.specs.Grid.{IsGrid}
use Rattle.ndarray.proofs.strides.Reach.{length-cells_at}
use Rattle.ndarray.proofs.base.array.ArrayBase.raw_dim.Goals as goal

pub returns-clause-whole : goal.returns-clause-whole
returns-clause-whole g c = subst IsGrid c.self.view_is (length-cells_at _ _ _ _ c.self.invariant)
