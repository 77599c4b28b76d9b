use Rattle.ndarray.proofs.zip.updating.try_update.Goals as goal

pub returns-clause-ran : goal.returns-clause-ran
returns-clause-ran g c = (c.assigning_order-order.result, c.try_update_in.ensures.ran)
