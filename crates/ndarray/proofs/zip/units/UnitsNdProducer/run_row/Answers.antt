use Rattle.std.specs.Iterator.Adapters.{repeat_n_count}
use Rattle.ndarray.proofs.runs.Producers.{YieldsInTurn-counted}
use Rattle.ndarray.proofs.zip.units.UnitsNdProducer.run_row.Goals as goal

pub returns-clause-gives : goal.returns-clause-gives
returns-clause-gives g c = λ p is form. YieldsInTurn-counted _ _ repeat_n_count (λ s t st. st.1.0) (λ s x t st. st.1.1) (λ i x. tt) form
