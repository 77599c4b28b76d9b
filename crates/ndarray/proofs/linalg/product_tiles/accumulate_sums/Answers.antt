use Rattle.std.proofs.Common.{◌∙◌, ◌<◌, ◌+◌, ap, arith, length, set, subst, sym}
use Rattle.std.proofs.lemmas.List.{get_or-set_same}
use Rattle.ndarray.specs.Grid.{cell}
use Rattle.ndarray.specs.Index.{InBox}
use Rattle.ndarray.specs.linalg.ProductTiles.{list_along}
use Rattle.ndarray.specs.Products.{AddsScaled, CanAddScaled}
use Rattle.ndarray.specs.Writes.{with_cell}
use Rattle.ndarray.proofs.cells.ProductTiles.{in-run, run-next, sum-at, tile-one, tile-start}
use Rattle.ndarray.proofs.linalg.product_tiles.accumulate_sums.Goals as goal

pub sums-init : goal.sums-init
sums-init g c = record {
  in_range = omega arith;
  done = tile-start g.A.Valued c.args.alpha c.args.beta _ _ c.args.array.now c.raw_dim.ensures.whole (λ is d. let from = d.from_column in let to = d.to_column in absurd (omega (arith, from, to)));
}

pub set_axis-requires : goal.set_axis-requires
set_axis-requires g c = let long = ap length c.copied-at.ensures.value in let axes = c.requires.axes in let axis = c.requires.axis in omega (arith, long, axes, axis)

pub accumulate_cell-requires-clause-within : goal.accumulate_cell-requires-clause-within
accumulate_cell-requires-clause-within g c κs within =
    let ks = g.D.Lengths.numbers c.args.index.now in
    let j = c.args.first + c.sums.t in
    let inside : c.args.axis < length ks = (let axes = c.requires.axes in let axis = c.requires.axis in omega (arith, axes, axis)) in
    let at = c.set_axis.ensures ∙ ap (λ l. set l c.args.axis j) c.copied-at.ensures.value in
    let lt = c.sums-test.true in
    subst (InBox c.sums.array.lengths) (sym at) (subst (λ ns. InBox ns (set ks c.args.axis j)) (sym c.sums.invariant.done.lengths) (c.requires.within (set ks c.args.axis j) (in-run ks c.args.axis c.args.first (c.args.first + length c.args.sums.now) j inside (omega arith) (omega (arith, lt)))))

pub accumulate_cell-requires-clause-scaled : goal.accumulate_cell-requires-clause-scaled
accumulate_cell-requires-clause-scaled g c κs within = λ x there.
    let v = g.A.Valued in
    let ks = g.D.Lengths.numbers c.args.index.now in
    let j = c.args.first + c.sums.t in
    let inside : c.args.axis < length ks = (let axes = c.requires.axes in let axis = c.requires.axis in omega (arith, axes, axis)) in
    let at = c.set_axis.ensures ∙ ap (λ l. set l c.args.axis j) c.copied-at.ensures.value in
    let lt = c.sums-test.true in
    let run = in-run ks c.args.axis c.args.first (c.args.first + length c.args.sums.now) j inside (omega arith) (omega (arith, lt)) in
    let same = sum-at v c.args.axis c.args.first c.args.sums.now c.sums.t ks c.index-sums-t.result inside lt c.index-sums-t.is in
    let place = get_or-set_same ks c.args.axis j 0 inside in
    let here = sym (c.sums.invariant.done.left (set ks c.args.axis j) (λ d. let to = d.to_column in absurd (omega (arith, to, place)))) ∙ (ap (cell c.sums.array) (sym at) ∙ there) in
    subst (CanAddScaled v (v.meaning c.args.alpha) (v.meaning c.args.beta) (v.meaning x)) same (c.requires.scaled (set ks c.args.axis j) x run here)

pub sums-preserved : goal.sums-preserved
sums-preserved g c =
    let v = g.A.Valued in
    let ks = g.D.Lengths.numbers c.args.index.now in
    let j = c.args.first + c.sums.t in
    let inside : c.args.axis < length ks = (let axes = c.requires.axes in let axis = c.requires.axis in omega (arith, axes, axis)) in
    let at = c.set_axis.ensures ∙ ap (λ l. set l c.args.axis j) c.copied-at.ensures.value in
    let lt = c.sums-test.true in
    let mid = c.sums.array in
    let (x, z, there, added, written) = c.accumulate_cell.ensures in
    let same = sum-at v c.args.axis c.args.first c.args.sums.now c.sums.t ks c.index-sums-t.result inside lt c.index-sums-t.is in
    let one = tile-one v c.args.alpha c.args.beta (list_along v c.args.axis c.args.first c.args.sums.now) mid c.accumulate_cell.new.array (set ks c.args.axis j) x z c.sums.invariant.done.whole (ap (cell mid) (sym at) ∙ there)
    (subst (λ s. AddsScaled v (v.meaning c.args.alpha) (v.meaning c.args.beta) (v.meaning x) s (v.meaning z)) (sym same) added) (written ∙ ap (λ is. with_cell mid is z) at) in
    record {
      in_range = omega (arith, lt);
      done = run-next v c.args.alpha c.args.beta (list_along v c.args.axis c.args.first c.args.sums.now) c.args.array.now mid c.accumulate_cell.new.array ks c.args.axis c.args.first c.sums.t inside c.sums.invariant.done one;
    }
