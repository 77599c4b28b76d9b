use Rattle.ndarray.proofs.zip.all_items.Zip+Parts+N+K+D.fold_items_while.Goals as goal

pub returns : goal.returns
returns g c = record { ran = (c.preferred_order-order.result, rw c.self.view_is at c.fold_items_while.ensures.ran) }
