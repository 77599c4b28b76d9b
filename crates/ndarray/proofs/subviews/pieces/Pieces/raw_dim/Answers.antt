use Rattle.std.proofs.Common.{subst}
use Rattle.ndarray.specs.Grid.{IsGrid}
use Rattle.ndarray.proofs.cells.Cells.{array_by-whole}
use Rattle.ndarray.proofs.subviews.pieces.Pieces.raw_dim.Goals as goal

pub returns-clause-whole : goal.returns-clause-whole
returns-clause-whole g c = subst IsGrid c.self.view_is (array_by-whole _ _)
