use Rattle.ndarray.proofs.parts.FoldedParts.{fold-all}
use Rattle.ndarray.proofs.unrolled.unrolled_fold.Goals as goal

pub returns : goal.returns
returns g c = fold-all _ _ c.args.xs.now c.unrolled.result c.unrolled.ensures
