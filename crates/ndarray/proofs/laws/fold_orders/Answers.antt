use Rattle.ndarray.proofs.algebra.FoldOrders.{bests-along, folds-along, folds-over_boxes, folds-over_cells}
use Rattle.ndarray.proofs.laws.fold_orders.Goals as goal

pub returns : goal.returns
returns g c = record { boxes = folds-over_boxes; cells = folds-over_cells; along = folds-along; bests = bests-along }
