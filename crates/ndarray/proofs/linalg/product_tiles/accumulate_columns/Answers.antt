use Rattle.std.proofs.Common.{◌≡◌, ◌≤◌, ◌+◌, ◌-◌, ◌∙◌, ℕ, List, [], ◌∷◌, ap, arith, get_or, length, subst, sym}
use Rattle.ndarray.specs.Index.{InBox}
use Rattle.ndarray.specs.linalg.ProductTiles.{AccumulatesIn, InRun, InTile, entries_along, other_index, row_along}
use Rattle.ndarray.specs.Products.{CanAddScaled, matrix_of, product_of, row_of}
use Rattle.ndarray.specs.Sums.{total}
use Rattle.ndarray.proofs.boxes.Boxes.{InBox-length}
use Rattle.ndarray.proofs.cells.EntryTests.{row-of_matrix}
use Rattle.ndarray.proofs.cells.ProductTiles.{rows-next, run-in_tile, run-inside, tile-in_run, tile-same, tile-start}
use Rattle.ndarray.proofs.cells.RowProducts.{row-can_sum}
use Rattle.ndarray.proofs.linalg.product_tiles.accumulate_columns.Goals as goal

pub loop-i-init : goal.loop-i-init
loop-i-init g c = tile-start g.A.Valued c.args.alpha c.args.beta _ _ c.args.array.now c.raw_dim-whole.ensures.whole (λ is d. let to = d.to_row in absurd (omega (arith, to)))

pub accumulate_run-requires-clause-can : goal.accumulate_run-requires-clause-can
accumulate_run-requires-clause-can g c κs within =
    let rows = ap (λ k. get_or k 0 0) (c.into_pattern-rows.ensures ∙ c.raw_dim.ensures.lengths) in
    let lt = c.loop-i-test.true in
    row-can_sum g.A.Valued c.args.left.now c.index_axis-x.result c.args.part.now c.raw_dim.ensures.axes c.index_axis-x.ensures.whole c.loop-i.i c.index_axis-x.ensures.value c.requires.inner (omega (arith, rows, lt)) c.requires.sums

pub accumulate_run-requires-clause-axis : goal.accumulate_run-requires-clause-axis
accumulate_run-requires-clause-axis g c κs within =
    let two = ap length c.loop-i.invariant.lengths ∙ c.raw_dim-whole.ensures.axes in
    let lt = c.requires.axis in
    omega (arith, two, lt)

pub accumulate_run-requires-clause-axes : goal.accumulate_run-requires-clause-axes
accumulate_run-requires-clause-axes g c κs within = ap length c.Ix2.ensures ∙ sym (ap length c.loop-i.invariant.lengths ∙ c.raw_dim-whole.ensures.axes)

pub accumulate_run-requires-clause-columns : goal.accumulate_run-requires-clause-columns
accumulate_run-requires-clause-columns g c κs within = subst (λ ns. c.args.first + get_or c.args.part.now.lengths 1 0 ≤ get_or ns c.args.axis 0) (sym c.loop-i.invariant.lengths) c.requires.columns

pub accumulate_run-requires-clause-within : goal.accumulate_run-requires-clause-within
accumulate_run-requires-clause-within g c κs within = λ is d.
    let n = get_or c.args.part.now.lengths 1 0 in
    let rows = ap (λ k. get_or k 0 0) (c.into_pattern-rows.ensures ∙ c.raw_dim.ensures.lengths) in
    let same = c.requires.rows in
    let lt = c.loop-i-test.true in
    subst (λ ns. InBox ns is) (sym c.loop-i.invariant.lengths)
    (run-inside c.args.array.now.lengths c.args.axis c.loop-i.i c.args.first (c.args.first + n) c.raw_dim-whole.ensures.axes c.requires.axis (omega (arith, rows, same, lt)) c.requires.columns is
    (subst (λ ks. InRun ks c.args.axis c.args.first (c.args.first + n) is) c.Ix2.ensures d))

pub accumulate_run-requires-clause-scaled : goal.accumulate_run-requires-clause-scaled
accumulate_run-requires-clause-scaled g c κs within = λ is y d s.
    let v = g.A.Valued in
    let n = get_or c.args.part.now.lengths 1 0 in
    let p = product_of v (matrix_of v c.args.left.now) (matrix_of v c.args.part.now) in
    let i = c.loop-i in
    let rows = ap (λ k. get_or k 0 0) (c.into_pattern-rows.ensures ∙ c.raw_dim.ensures.lengths) in
    let lt = c.loop-i-test.true in
    let tile = run-in_tile c.args.axis i.i c.args.first (c.args.first + n) is c.requires.axis (subst (λ ks. InRun ks c.args.axis c.args.first (c.args.first + n) is) c.Ix2.ensures d) in
    let from = tile.from_row in
    let to = tile.to_row in
    let here : i.i ≡ other_index c.args.axis is = omega (arith, from, to) in
    let j = get_or is c.args.axis 0 - c.args.first in
    let same = ap (total v.addition) (row-of_matrix v c.args.left.now c.index_axis-x.result (matrix_of v c.args.part.now) c.raw_dim.ensures.axes i.i j c.index_axis-x.ensures.value c.index_axis-x.ensures.whole) ∙ ap (λ k. p.cell k j) here in
    let inside : InTile c.args.axis 0 (get_or c.args.left.now.lengths 0 0) c.args.first (c.args.first + n) is = record { from_row = omega arith; to_row = omega (arith, rows, lt, to); from_column = tile.from_column; to_column = tile.to_column } in
    subst (CanAddScaled v (v.meaning c.args.alpha) (v.meaning c.args.beta) (v.meaning y)) (sym same)
    (c.requires.scaled is y inside (sym (i.invariant.left is (λ before. let less = before.to_row in absurd (omega (arith, less, from)))) ∙ s))

pub loop-i-preserved : goal.loop-i-preserved
loop-i-preserved g c =
    let v = g.A.Valued in
    let n = get_or c.args.part.now.lengths 1 0 in
    let first = c.args.first in
    let last = c.args.first + n in
    let p = product_of v (matrix_of v c.args.left.now) (matrix_of v c.args.part.now) in
    let i = c.loop-i in
    let x = c.index_axis-x.result in
    let q = product_of v (row_of v x) (matrix_of v c.args.part.now) in
    let two = ap length i.invariant.lengths ∙ c.raw_dim-whole.ensures.axes in
    let same = λ (is : List ℕ) (d : InTile c.args.axis i.i (i.i + 1) first last is). (
    let from = d.from_row in
    let to = d.to_row in
    let here : i.i ≡ other_index c.args.axis is = omega (arith, from, to) in
    let j = get_or is c.args.axis 0 - first in
    ap (total v.addition) (row-of_matrix v c.args.left.now x (matrix_of v c.args.part.now) c.raw_dim.ensures.axes i.i j c.index_axis-x.ensures.value c.index_axis-x.ensures.whole) ∙ ap (λ k. p.cell k j) here) in
    let run = subst (λ ks. AccumulatesIn v (InRun ks c.args.axis first last) c.args.alpha c.args.beta (row_along c.args.axis first q) i.array c.accumulate_run.new.array) c.Ix2.ensures c.accumulate_run.ensures in
    rows-next v c.args.alpha c.args.beta (entries_along c.args.axis first p) c.args.array.now i.array c.accumulate_run.new.array c.args.axis i.i first last i.invariant
    (tile-same v c.args.alpha c.args.beta (InRun (i.i ∷ i.i ∷ []) c.args.axis first last) (InTile c.args.axis i.i (i.i + 1) first last) (row_along c.args.axis first q) (entries_along c.args.axis first p) i.array c.accumulate_run.new.array
    (λ is b d. tile-in_run c.args.axis i.i first last is (InBox-length i.array.lengths is b ∙ two) c.requires.axis d)
    (λ is d. run-in_tile c.args.axis i.i first last is c.requires.axis d)
    same run)

pub returns : goal.returns
returns g c =
    let v = g.A.Valued in
    let n = get_or c.args.part.now.lengths 1 0 in
    let p = product_of v (matrix_of v c.args.left.now) (matrix_of v c.args.part.now) in
    let rows = ap (λ k. get_or k 0 0) (c.into_pattern-rows.ensures ∙ c.raw_dim.ensures.lengths) in
    let off = c.loop-i-test.false in
    let le = c.loop-i.auto.i-end in
    let all : c.loop-i.i ≡ get_or c.args.left.now.lengths 0 0 = omega (arith, rows, off, le) in
    subst (λ m. AccumulatesIn v (InTile c.args.axis 0 m c.args.first (c.args.first + n)) c.args.alpha c.args.beta (entries_along c.args.axis c.args.first p) c.args.array.now c.loop-i.array) all c.loop-i.invariant
