use Rattle.ndarray.proofs.Common.{◌∙◌, ◌-◌, ap, arith, refl, int_products}
use Rattle.ndarray.specs.Views.{axis_item}
use Rattle.ndarray_examples.proofs.SameValues.{same-arrays}
use Rattle.ndarray_examples.proofs.scan_laws.products_by_running.Goals as goal

pub returns-clause-when : goal.returns-clause-when
returns-clause-when g c = (λ _. (c.if-not-cumprod_fits.ensures.axis refl, omega (arith, c.if-len-eq0.false, c.len_of-len.ensures.value), (c.if-not-cumprod_fits.ensures.exact.0 refl).1), λ _. refl)

pub returns-clause-products : goal.returns-clause-products
returns-clause-products g c = λ s made.
    let k = c.args.axis.0 in
    let axis = c.if-not-cumprod_fits.ensures.axis refl in
    let totals = c.cumprod_totals.ensures (λ x p z e. e) k c.args.a.now c.in_ok-running.running c.raw_dim-whole.ensures.whole axis c.in_ok-running.ensures.products in
    let last = c.running_totals.ensures.last_products k c.args.a.now c.in_ok-running.running s c.raw_dim-whole.ensures.whole axis (omega (arith, c.if-len-eq0.false, c.len_of-len.ensures.value)) totals made in
    same-arrays int_products c.index_axis_move.result _ s (c.index_axis_move.ensures.value ∙ ap (λ n. axis_item c.in_ok-running.running k (n - 1)) c.len_of-len.ensures.value) c.index_axis_move.ensures.whole made.whole last
