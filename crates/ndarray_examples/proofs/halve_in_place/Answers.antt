use Rattle.ndarray.proofs.Common.{refitted-whole}
use Rattle.ndarray_examples.proofs.halve_in_place.Goals as goal

pub returns-clause-whole : goal.returns-clause-whole
returns-clause-whole g c = refitted-whole c.args.a.now _
