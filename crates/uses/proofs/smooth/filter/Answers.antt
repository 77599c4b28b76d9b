use Rattle.ndarray.proofs.Common.{◌≡◌, ◌∙◌, ap, subst, IfOk, IfSome, axis_inserted, if_ok-both}
use Rattle.uses.specs.Smooth.{CanFilterImage, filtered_image}
use Rattle.uses.proofs.ColumnsTimesRows.{by-kernel, in-turn}
use Rattle.uses.proofs.Filtered.{fits-from_some}
use Rattle.uses.proofs.smooth.filter.Goals as goal

pub returns-clause-pixels : goal.returns-clause-pixels
returns-clause-pixels g c =
    let image = c.args.image.now in
    let first = fits-from_some c.in_ok-once.field-0 c.in-Some.once c.in-Some.is c.in_ok-once.ensures.when in
    let once : c.in-Some.once ≡ filtered_image image c.insert_axis-column.result = subst (λ made. IfSome made (λ r. r ≡ filtered_image image c.insert_axis-column.result)) c.in-Some.is c.in_ok-once.ensures.pixels in
    if_ok-both c.filtered-2.result _ _ _
    (by-kernel c.args.column.now c.args.row.now c.raw_dim-2.ensures.axes c.raw_dim-3.ensures.axes c.raw_dim-2.ensures.whole c.raw_dim-3.ensures.whole
    image c.insert_axis-column.result c.insert_axis-row.result c.in-Some.once c.raw_dim.ensures.axes c.raw_dim.ensures.whole
    (c.insert_axis-column.ensures.value ∙ ap (λ v. axis_inserted v 1) c.view.ensures.same) (c.insert_axis-row.ensures.value ∙ ap (λ v. axis_inserted v 0) c.view-2.ensures.same)
    first once c.filters_compose.ensures.separate)
    c.filtered-2.ensures.when c.filtered-2.ensures.pixels
