use Rattle.std.proofs.Common.{min, ap, ◌∙◌}
use Rattle.ndarray.proofs.lists.Elements.{nth-from_next}
use Rattle.ndarray.proofs.subviews.axis_chunks.AxisChunksIter.nth.Goals as goal

pub returns-clause-taken : goal.returns-clause-taken
returns-clause-taken g c = (nth-from_next c.args.self.now c.take_first.new.self c.next.new.self c.args.n c.min-left_out.result c.next.result (c.min-left_out.ensures ∙ ap (min c.args.n) c.len.ensures.value) c.take_first.ensures.rest c.next.ensures.steps).0

pub returns-clause-rest : goal.returns-clause-rest
returns-clause-rest g c = (nth-from_next c.args.self.now c.take_first.new.self c.next.new.self c.args.n c.min-left_out.result c.next.result (c.min-left_out.ensures ∙ ap (min c.args.n) c.len.ensures.value) c.take_first.ensures.rest c.next.ensures.steps).1
