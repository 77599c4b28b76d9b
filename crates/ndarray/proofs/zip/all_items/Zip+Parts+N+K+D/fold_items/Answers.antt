use Rattle.ndarray.proofs.callers.Computing.{totals-computed}
use Rattle.ndarray.proofs.zip.all_items.Zip+Parts+N+K+D.fold_items.Goals as goal

pub returns-clause-ran : goal.returns-clause-ran
returns-clause-ran g c = (c.preferred_order-order.result, rw c.self.view_is at c.fold_items.ensures.ran)

pub returns-clause-follows : goal.returns-clause-follows
returns-clause-follows g c = λ ns h own computes.
    let (o, ran) = returns-clause-ran g c in
    totals-computed _ _ ns _ own o _ h computes _ _ ran
