use Rattle.std.proofs.Common.{◌↔◌, ◌<◌, [], length, map, refl, subst, sym}
use Rattle.std.specs.Prelude.{IsTrue}
use Rattle.std.specs.List.{AllByRecursion}
use Rattle.ndarray.specs.AlongAxis.{IsSummableArray}
use Rattle.ndarray.specs.Elementwise.{CanMap}
use Rattle.ndarray.specs.Integers.{int_sums, negative_sum, positive_sum}
use Rattle.ndarray.specs.Subviews.{axis_items, lanes_of}
use Rattle.ndarray.specs.Sums.{IsSummableBy}
use Rattle.ndarray.proofs.callers.Lanes.{lanes-summable}
use Rattle.ndarray.proofs.callers.SummableParts.{items-summable}
use Rattle.ndarray.proofs.lists.Decisions.{says_some}
use Rattle.ndarray.proofs.sums.IntegerSelections.{tells_summable_by}
use Rattle.ndarray.proofs.sums.SignedSums.{AddedApart-end}
use Rattle.ndarray.proofs.base.array.ArrayBase.sums_fit.Goals as goal

pub returns-clause-selections : goal.returns-clause-selections
returns-clause-selections g c =
    let v = g.A.Number.value in
    let fits = g.A.Number.fits in
    let cells = c.view.result.cells in
    let exact = g.met.A.Integral.exact_law in
    let both = says_some (fits (positive_sum (map v cells)) × fits (negative_sum (map v cells))) _ (λ s h. AddedApart-end fits (map v cells) [] (v s.up) (v s.down) refl h) c.signed_sums-2.result c.signed_sums-2.ensures in
    subst (λ a. IsTrue c.is_some.result ↔ IsSummableBy int_sums fits v a.cells) c.view.ensures.same
    (tells_summable_by fits (λ x y z. g.A.Number.between_law x y z exact) v cells c.is_some.result
    (subst (λ b. IsTrue b ↔ (fits (positive_sum (map v cells)) × fits (negative_sum (map v cells)))) (sym c.is_some.ensures) both))

pub returns-clause-lanes : goal.returns-clause-lanes
returns-clause-lanes g c =
    let same = c.view.ensures.same in
    λ yes axis below. subst (λ a. CanMap (IsSummableArray int_sums g.A.Number.fits g.A.Number.value) (lanes_of a axis)) same
    (lanes-summable c.view.result c.view.ensures.whole axis (subst (λ a. axis < length a.lengths) (sym same) below) int_sums g.A.Number.fits g.A.Number.value
    (subst (λ a. IsSummableBy int_sums g.A.Number.fits g.A.Number.value a.cells) (sym same) ((returns-clause-selections g c).0 yes)))

pub returns-clause-items : goal.returns-clause-items
returns-clause-items g c =
    let same = c.view.ensures.same in
    λ yes axis below. subst (λ a. AllByRecursion (IsSummableArray int_sums g.A.Number.fits g.A.Number.value) (axis_items a axis)) same
    (items-summable int_sums g.A.Number.fits g.A.Number.value c.view.result c.view.ensures.whole (subst (λ a. IsSummableBy int_sums g.A.Number.fits g.A.Number.value a.cells) (sym same) ((returns-clause-selections g c).0 yes)) axis
    (subst (λ a. axis < length a.lengths) (sym same) below))
