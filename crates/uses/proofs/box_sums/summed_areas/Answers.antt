use Rattle.ndarray.proofs.Common.{◌≡◌, ◌∙◌, ◌<◌, FitsSigned, w64, ap, arith, length, slice_index, subst, sym, CanMap, Grid, HasRunningTotals, IsSummableArray, int_sums, lanes_of, row-lanes}
use Rattle.uses.proofs.box_sums.summed_areas.Goals as goal

pub add_up-requires-2-clause-fits : goal.add_up-requires-2-clause-fits
add_up-requires-2-clause-fits g c =
    let table = c.args.table.now in
    let two = c.raw_dim-whole.ensures.axes in
    let down = c.add_up.new.table in
    let same : c.in_ok-areas.areas ≡ table = c.in_ok-areas.ensures.same (λ x y e. e) in
    let totals = subst (λ w. HasRunningTotals int_sums (λ x. x) 0 w down) same c.add_up.ensures in
    row-lanes down (ap length totals.lengths ∙ two) (IsSummableArray int_sums (FitsSigned w64) (λ x. x))
    (λ i below. c.running_totals.ensures.ranges 0 i table down c.raw_dim-whole.ensures.whole (omega (arith, two)) (subst (λ ns. i < slice_index ns 0) totals.lengths below) totals c.requires)

pub returns : goal.returns
returns g c =
    let table = c.args.table.now in
    let same : c.in_ok-areas.areas ≡ table = c.in_ok-areas.ensures.same (λ x y e. e) in
    let down = subst (λ w. HasRunningTotals int_sums (λ x. x) 0 w c.add_up.new.table) same c.add_up.ensures in
    let across = c.add_up-2.ensures in
    record {
      lengths = across.lengths ∙ down.lengths;
      whole = across.whole;
      sums = c.running_totals.ensures.areas table c.add_up.new.table c.add_up-2.new.table c.raw_dim-whole.ensures.whole c.raw_dim-whole.ensures.axes down across;
    }
