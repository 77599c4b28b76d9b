use Rattle.std.proofs.Common.{◌↔◌, ◌<◌, [], length, map, refl, subst, sym}
use Rattle.std.specs.Prelude.{IsTrue, pos}
use Rattle.std.specs.List.{AllByRecursion}
use Rattle.ndarray.specs.AlongAxis.{IsSummableArray}
use Rattle.ndarray.specs.Elementwise.{CanMap}
use Rattle.ndarray.specs.Integers.{int_products, magnitude_product}
use Rattle.ndarray.specs.Subviews.{axis_items, lanes_of}
use Rattle.ndarray.specs.Sums.{IsSummableBy}
use Rattle.ndarray.proofs.callers.Lanes.{lanes-summable}
use Rattle.ndarray.proofs.callers.SummableParts.{items-summable}
use Rattle.ndarray.proofs.lists.Decisions.{from_some, says_some}
use Rattle.ndarray.proofs.sums.NonzeroProducts.{multiplied-end, products-summable}
use Rattle.ndarray.proofs.sums.Selections.{IsSummableBy-map}
use Rattle.ndarray.proofs.base.array.ArrayBase.products_fit.Goals as goal

pub returns-clause-magnitudes : goal.returns-clause-magnitudes
returns-clause-magnitudes g c =
    let v = g.A.Number.value in
    let fits = g.A.Number.fits in
    let cells = c.view.result.cells in
    subst (λ a. IsTrue c.is_some.result ↔ fits (pos (magnitude_product (map v a.cells)))) c.view.ensures.same
    (subst (λ b. IsTrue b ↔ fits (pos (magnitude_product (map v cells)))) (sym c.is_some.ensures)
    (says_some (fits (pos (magnitude_product (map v cells)))) _ (λ p h. (multiplied-end fits (map v cells) [] (v p) refl h).0) c.magnitudes_multiplied-2.result c.magnitudes_multiplied-2.ensures))

pub returns-clause-selections : goal.returns-clause-selections
returns-clause-selections g c =
    let v = g.A.Number.value in
    let fits = g.A.Number.fits in
    let exact = g.met.A.Integral.exact_law in
    let cells = c.view.result.cells in
    subst (λ a. IsTrue c.is_some.result → IsSummableBy int_products fits v a.cells) c.view.ensures.same
    (subst (λ b. IsTrue b → IsSummableBy int_products fits v cells) (sym c.is_some.ensures)
    (from_some _ _ (IsSummableBy int_products fits v cells)
    (λ p h.
    let (fit, each) = multiplied-end fits (map v cells) [] (v p) refl h in
    (IsSummableBy-map int_products v fits cells).1
    (products-summable fits (λ x y z. g.A.Number.between_law x y z exact) g.met.A.IntegerElem.negated_fits (g.met.A.Zero.zero_fits_law exact) (map v cells) each fit))
    c.magnitudes_multiplied-2.result c.magnitudes_multiplied-2.ensures))

pub returns-clause-lanes : goal.returns-clause-lanes
returns-clause-lanes g c =
    let same = c.view.ensures.same in
    λ yes axis below. subst (λ a. CanMap (IsSummableArray int_products g.A.Number.fits g.A.Number.value) (lanes_of a axis)) same
    (lanes-summable c.view.result c.view.ensures.whole axis (subst (λ a. axis < length a.lengths) (sym same) below) int_products g.A.Number.fits g.A.Number.value
    (subst (λ a. IsSummableBy int_products g.A.Number.fits g.A.Number.value a.cells) (sym same) (returns-clause-selections g c yes)))

pub returns-clause-items : goal.returns-clause-items
returns-clause-items g c =
    let same = c.view.ensures.same in
    λ yes axis below. subst (λ a. AllByRecursion (IsSummableArray int_products g.A.Number.fits g.A.Number.value) (axis_items a axis)) same
    (items-summable int_products g.A.Number.fits g.A.Number.value c.view.result c.view.ensures.whole (subst (λ a. IsSummableBy int_products g.A.Number.fits g.A.Number.value a.cells) (sym same) (returns-clause-selections g c yes)) axis
    (subst (λ a. axis < length a.lengths) (sym same) below))
