use Rattle.std.proofs.Common.{◌∙◌, ap, subst, sym, IsSome}
use Rattle.ndarray.proofs.runs.OneRows.{one-mapped}
use Rattle.ndarray.proofs.zip.views.ArrayViewNdProducer.is_one_row.Goals as goal

pub returns : goal.returns
returns g c = λ yes. subst IsSome (ap (λ r. r.one) c.rows.view_is) (one-mapped (λ s. s.now) c.rows.inside.one (sym c.is_some.ensures ∙ yes))
