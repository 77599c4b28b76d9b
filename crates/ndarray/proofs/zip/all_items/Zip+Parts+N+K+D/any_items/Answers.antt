use Rattle.ndarray.proofs.callers.Computing.{any-computed}
use Rattle.ndarray.proofs.zip.all_items.Zip+Parts+N+K+D.any_items.Goals as goal

pub returns-clause-ran : goal.returns-clause-ran
returns-clause-ran g c = (c.preferred_order-order.result, rw c.self.view_is at c.any_items.ensures.ran)

pub returns-clause-follows : goal.returns-clause-follows
returns-clause-follows g c = λ ns h own computes.
    let (o, ran) = returns-clause-ran g c in
    any-computed _ _ ns _ own o g.C.ItemCall.call_gives h computes _ ran
