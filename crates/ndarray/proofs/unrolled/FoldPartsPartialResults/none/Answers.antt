use Rattle.ndarray.proofs.parts.FoldedParts.{fold-none}
use Rattle.ndarray.proofs.unrolled.FoldPartsPartialResults.none.Goals as goal

pub returns : goal.returns
returns g c = fold-none _ _ c.args.self.now.elements.now c.init.result c.init.ensures
