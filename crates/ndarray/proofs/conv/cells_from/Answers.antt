use Rattle.ndarray.proofs.convolution.Overlaps.{cells-from}
use Rattle.ndarray.proofs.conv.cells_from.Goals as goal

pub returns : goal.returns
returns g c = cells-from c.args.x.now c.view.result c.split_at-rest.result.1 c.args.first c.view.ensures.same c.view.ensures.axes c.view.ensures.whole c.requires c.split_at-rest.ensures.second
