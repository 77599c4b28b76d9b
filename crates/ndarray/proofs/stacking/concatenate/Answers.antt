use Rattle.ndarray.proofs.joining.Joined.{concatenation-is, may-concatenate}
use Rattle.ndarray.proofs.stacking.concatenate.Goals as goal

pub joined_blocks-requires-clause-may : goal.joined_blocks-requires-clause-may
joined_blocks-requires-clause-may g c = may-concatenate c.args.axis.0 c.args.arrays.now _ _ c.in_ok-shape.ensures

pub returns-clause-cells : goal.returns-clause-cells
returns-clause-cells g c = concatenation-is c.args.axis.0 c.args.arrays.now _ _ c.in_ok-shape.ensures c.in_ok-joined.joined c.in_ok-joined.ensures.whole c.in_ok-joined.ensures.lengths c.in_ok-joined.ensures.cells
