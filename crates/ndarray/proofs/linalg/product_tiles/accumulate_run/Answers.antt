use Rattle.std.proofs.Common.{◌+◌, ◌∙◌, ap, arith, get_or, map, subst, sym}
use Rattle.std.proofs.lemmas.List.{take-replicate}
use Rattle.ndarray.specs.Matrices.{values_below}
use Rattle.ndarray.specs.linalg.ProductTiles.{AccumulatesIn, InRun, list_along, row_along}
use Rattle.ndarray.specs.Products.{CanAddScaled, matrix_of, product_of, row_of}
use Rattle.ndarray.proofs.cells.ProductTiles.{sums-known, tile-sums}
use Rattle.ndarray.proofs.sums.RowSums.{values-alike, values-length}
use Rattle.ndarray.proofs.linalg.product_tiles.accumulate_run.Goals as goal

pub add_rows-requires-clause-zeros : goal.add_rows-requires-clause-zeros
add_rows-requires-clause-zeros g c κs within =
    let v = g.A.Valued in
    let columns = ap (λ k. get_or k 1 0) (c.into_pattern-columns.ensures ∙ c.raw_dim.ensures.lengths) in
    let zero_meaning = ap v.meaning c.zero-tile.ensures ∙ g.met.A.SumElem.zero_meaning in
    ap (map v.meaning) (take-replicate c.into_pattern-columns.result.1 256 c.zero-tile.result (omega (arith, columns, c.requires.width)))
    ∙ (values-alike v.meaning c.zero-tile.result v.addition.unit c.into_pattern-columns.result.1 zero_meaning
    ∙ ap (λ n. values_below n (λ _. v.addition.unit)) columns)

pub accumulate_sums-requires-clause-scaled : goal.accumulate_sums-requires-clause-scaled
accumulate_sums-requires-clause-scaled g c κs within = λ is y d s.
    let v = g.A.Valued in
    let n = get_or c.args.part.now.lengths 1 0 in
    let f = (product_of v (row_of v c.args.x.now) (matrix_of v c.args.part.now)).cell 0 in
    let long = values-length v.meaning c.add_rows.new.sums n f c.add_rows.ensures in
    let inside = subst (λ k. InRun (g.D.Lengths.numbers c.args.index.now) c.args.axis c.args.first (c.args.first + k) is) long d in
    let same = sums-known v c.args.axis c.args.first n c.add_rows.new.sums f c.zero-tile.result c.add_rows.ensures is inside.from_column inside.to_column in
    subst (CanAddScaled v (v.meaning c.args.alpha) (v.meaning c.args.beta) (v.meaning y)) (sym same) (c.requires.scaled is y inside s)

pub returns : goal.returns
returns g c =
    let v = g.A.Valued in
    let n = get_or c.args.part.now.lengths 1 0 in
    let p = product_of v (row_of v c.args.x.now) (matrix_of v c.args.part.now) in
    let ks = g.D.Lengths.numbers c.args.index.now in
    let sums = c.add_rows.new.sums in
    let long = values-length v.meaning sums n (p.cell 0) c.add_rows.ensures in
    let all = subst (λ k. AccumulatesIn v (InRun ks c.args.axis c.args.first (c.args.first + k)) c.args.alpha c.args.beta (list_along v c.args.axis c.args.first sums) c.args.array.now c.accumulate_sums.new.array) long c.accumulate_sums.ensures in
    tile-sums v c.args.alpha c.args.beta (InRun ks c.args.axis c.args.first (c.args.first + n)) (list_along v c.args.axis c.args.first sums) (row_along c.args.axis c.args.first p) c.args.array.now c.accumulate_sums.new.array
    (λ is d. sums-known v c.args.axis c.args.first n sums (p.cell 0) c.zero-tile.result c.add_rows.ensures is d.from_column d.to_column) all
