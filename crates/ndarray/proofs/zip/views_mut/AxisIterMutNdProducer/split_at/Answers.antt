use Rattle.std.proofs.Common.{refl}
use Rattle.ndarray.proofs.runs.OneAxisProducers.{IsPart-first, IsPart-rest}
use Rattle.ndarray.proofs.zip.views_mut.AxisIterMutNdProducer.split_at.Goals as goal

pub returns-clause-first : goal.returns-clause-first
returns-clause-first g c = IsPart-first _ _ _ _ _ _ refl c.requires.axis_below c.requires.index_at_most c.split_at.ensures.first

pub returns-clause-second : goal.returns-clause-second
returns-clause-second g c = IsPart-rest _ _ _ _ _ _ refl c.requires.axis_below c.requires.index_at_most c.split_at.ensures.second
