use Rattle.ndarray.specs.Extremes.{greater}
use Rattle.ndarray.proofs.cells.BestCells.{best-bounds}
use Rattle.ndarray.proofs.base.array.ArrayBase.max.Goals as goal

pub returns-clause-bounds : goal.returns-clause-bounds
returns-clause-bounds g c = best-bounds _ (greater g.A.Ord.cmp) c.args.self.now c.raw_dim-whole.ensures.whole c.first_best.result c.first_best.ensures
