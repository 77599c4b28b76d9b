use Rattle.std.proofs.lemmas.Result.{IfOk-weaker}
use Rattle.ndarray.proofs.callers.Computing.{array-computed}
use Rattle.ndarray.proofs.zip.all_items.Zip+Parts+N+K+D.collect_items.Goals as goal

pub returns-clause-ran : goal.returns-clause-ran
returns-clause-ran g c = IfOk-weaker c.collect_items.result _ _ (λ a ran. (c.preferred_order-order.result, rw c.self.view_is at ran)) c.collect_items.ensures.ran

pub returns-clause-follows : goal.returns-clause-follows
returns-clause-follows g c = λ ns h own computes. array-computed _ _ _ ns _ own h computes _ (returns-clause-ran g c) c.collect_items.ensures.whole
