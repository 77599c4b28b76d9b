use Rattle.std.proofs.Common.{subst}
use Rattle.ndarray.specs.Grid.{IsGrid}
use Rattle.ndarray.proofs.strides.Reach.{length-cells_at}
use Rattle.ndarray.proofs.strides.SeenCells.{cell-seen}
use Rattle.ndarray.proofs.base.place_map.ArrayViewMut+A+D.into_region.Goals as goal

pub returns-clause-cells : goal.returns-clause-cells
returns-clause-cells g c = cell-seen _ _ _ _ _ c.self.invariant c.self.view_is

pub returns-clause-whole : goal.returns-clause-whole
returns-clause-whole g c = subst IsGrid c.self.view_is (length-cells_at _ _ _ _ c.self.invariant)
