use Rattle.std.proofs.Common.{◌∙◌, ap, filter_map, subst, sym, IsSome}
use Rattle.ndarray.specs.base.Slots.{held_at}
use Rattle.ndarray.proofs.runs.OneRows.{one-mapped}
use Rattle.ndarray.proofs.zip.views_mut.ArrayViewMutNdProducer.is_one_row.Goals as goal

pub returns : goal.returns
returns g c = λ yes. subst IsSome (ap (λ r. r.one) c.rows.view_is) (one-mapped (filter_map (held_at c.rows.inside.region.slots)) c.rows.inside.one (sym c.is_some.ensures ∙ yes))
