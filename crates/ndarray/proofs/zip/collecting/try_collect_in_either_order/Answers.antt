use Rattle.std.proofs.lemmas.Result.{IfOk-weaker}
use Rattle.ndarray.proofs.zip.collecting.try_collect_in_either_order.Goals as goal

pub returns-clause-ran : goal.returns-clause-ran
returns-clause-ran g c = IfOk-weaker c.try_collect_items.result _ _ (λ r k. (c.preferred_order-order.result, k)) c.try_collect_items.ensures.ran
