use Rattle.std.proofs.Common.{refl}
use Rattle.ndarray.proofs.runs.Producers.{YieldsInTurn-pairs}
use Rattle.ndarray.proofs.runs.Rows.{AsLong-same}
use Rattle.ndarray.proofs.zip.pair.PairNdProducer.run_row.Goals as goal

pub returns-clause-can : goal.returns-clause-can
returns-clause-can g c =
    let r = c.requires in
    (c.run_row.ensures.can, (c.run_row-2.ensures.can, AsLong-same _ _ _ _ (c.run_row.ensures.gives r.0.first r.1.0 r.1.1.0) (c.run_row-2.ensures.gives r.0.second r.1.0 r.1.1.1)))

pub returns-clause-gives : goal.returns-clause-gives
returns-clause-gives g c = λ p is form. YieldsInTurn-pairs _ _ _ _ _ _ _ refl (c.run_row.ensures.gives p.first is form.0) (c.run_row-2.ensures.gives p.second is form.1)
