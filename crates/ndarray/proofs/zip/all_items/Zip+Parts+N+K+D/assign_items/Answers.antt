use Rattle.ndarray.proofs.callers.Computing.{cells-computed}
use Rattle.ndarray.proofs.zip.all_items.Zip+Parts+N+K+D.assign_items.Goals as goal

pub returns-clause-ran : goal.returns-clause-ran
returns-clause-ran g c = rw c.self.view_is at c.assign_items.ensures.ran

pub returns-clause-follows : goal.returns-clause-follows
returns-clause-follows g c = λ ns h own computes.
    let (o, ran) = returns-clause-ran g c in
    cells-computed _ _ _ ns _ own h computes o _ c.assign_items.ensures.whole ran
