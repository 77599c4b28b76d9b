use Rattle.std.proofs.Common.{refl}
use Rattle.ndarray.proofs.linalg.scaled_addition.ScaledAdditionCellCallRef.call.Goals as goal

pub returns : goal.returns
returns g c = (c.add_product.ensures, refl)
