use Rattle.std.proofs.Common.{◌≡◌, ◌∙◌, ap, filter_map, option_map, subst, sym, IfSome}
use Rattle.ndarray.specs.Orders.{cells_in}
use Rattle.ndarray.specs.base.Slots.{held_at}
use Rattle.ndarray.specs.places.ElementPlaces.{AreDistinctPlaces}
use Rattle.ndarray.proofs.cells.Cells.{HasCells-box_in}
use Rattle.ndarray.proofs.runs.OneRows.{one-missing}
use Rattle.ndarray.proofs.zip.views_mut.ArrayViewMutNdProducer.one_row.Goals as goal

pub taken_from-cells-requires : goal.taken_from-cells-requires
taken_from-cells-requires g c = subst (λ o. IfSome o (AreDistinctPlaces (held_at c.rows.inside.region.slots))) c.in-Some.is c.rows.invariant.1

pub returns : goal.returns
returns g c = λ _ p o form.
    let found = filter_map (held_at c.rows.inside.region.slots) in
    (c.of.ensures ∙ (c.taken_from-cells.ensures.value ∙ subst (λ r. IfSome r (λ l. l ≡ cells_in o p)) (ap (λ r. r.one) (sym c.rows.view_is) ∙ ap (option_map found) c.in-Some.is) form.0.1), HasCells-box_in o p form.1)

pub returns-in_default : goal.returns-in_default
returns-in_default g c = λ one. absurd (one-missing (ap (λ r. r.one) (sym c.rows.view_is) ∙ ap (option_map (filter_map (held_at c.rows.inside.region.slots))) c.in_default.is) one)
