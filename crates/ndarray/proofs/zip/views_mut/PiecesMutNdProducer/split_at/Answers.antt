use Rattle.ndarray.proofs.runs.Producers.{IsPart-axis_part}
use Rattle.ndarray.proofs.zip.views_mut.PiecesMutNdProducer.split_at.Goals as goal

pub returns-clause-first : goal.returns-clause-first
returns-clause-first g c = IsPart-axis_part _ _ _ _ _ _ c.split_at.ensures.first_whole c.split_at.ensures.first

pub returns-clause-second : goal.returns-clause-second
returns-clause-second g c = IsPart-axis_part _ _ _ _ _ _ c.split_at.ensures.second_whole c.split_at.ensures.second
