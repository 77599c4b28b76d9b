use Rattle.std.proofs.Common.{refl}
use Rattle.ndarray.proofs.linalg.general.AccumulationCellCall.call.Goals as goal

pub scaled_sum-requires-after_bounds : goal.scaled_sum-requires-after_bounds
scaled_sum-requires-after_bounds g c κs within = c.requires.1 c.entry-sum.result c.entry-sum.ensures

pub returns : goal.returns
returns g c = ((c.entry-sum.result, c.entry-sum.ensures, c.scaled_sum.ensures), refl)
