use Rattle.std.proofs.Common.{◌≡◌, ◌≤◌, ◌+◌, ◌∙◌, List, ℕ, ap, arith, get_or, subst, sym}
use Rattle.ndarray.specs.linalg.ProductTiles.{AccumulatesIn, InTile, entries_along, other_index}
use Rattle.ndarray.specs.Products.{CanAddScaled, matrix_of, product_of}
use Rattle.ndarray.proofs.cells.ColumnParts.{part-columns, part-inner, part-product, part-sums}
use Rattle.ndarray.proofs.cells.ProductTiles.{all-in_tile, columns-next, tile-all, tile-start, tile-sums}
use Rattle.ndarray.proofs.linalg.product_tiles.accumulate_matrix.Goals.{After-min-width, After-part-part}
use Rattle.ndarray.proofs.linalg.product_tiles.accumulate_matrix.Goals as goal

pub tiles-init : goal.tiles-init
tiles-init g c = record {
  in_range = omega arith;
  done = tile-start g.A.Valued c.args.alpha c.args.beta _ _ c.args.array.now c.raw_dim-whole.ensures.whole (λ is d. let to = d.to_column in absurd (omega (arith, to)));
}

pub returns-then-rows-eq0 : goal.returns-then-rows-eq0
returns-then-rows-eq0 g c =
    let v = g.A.Valued in
    let old = c.args.array.now in
    let p = product_of v (matrix_of v c.args.left.now) (matrix_of v c.args.right.now) in
    let none : other_index c.args.axis old.lengths ≡ 0 = c.requires.rows ∙ (sym (ap (λ k. get_or k 0 0) (c.into_pattern-rows.ensures ∙ c.raw_dim.ensures.lengths)) ∙ c.if-rows-eq0.true) in
    let all = InTile c.args.axis 0 (other_index c.args.axis old.lengths) 0 (get_or old.lengths c.args.axis 0) in
    tile-all v c.args.alpha c.args.beta all (entries_along c.args.axis 0 p) old old (λ is inside. all-in_tile old.lengths is c.args.axis c.raw_dim-whole.ensures.axes c.requires.axis inside)
    (tile-start v c.args.alpha c.args.beta all (entries_along c.args.axis 0 p) old c.raw_dim-whole.ensures.whole (λ is d. let to = d.to_row in absurd (omega (arith, none, to))))

-- the part ends within the columns
fits : (g : _) (c : After-min-width g) → c.tiles.first + c.min-width.result ≤ get_or c.args.right.now.lengths 1 0
fits g c =
    let columns = ap (λ k. get_or k 1 0) (c.into_pattern-columns.ensures ∙ c.raw_dim-2.ensures.lengths) in
    let lt = c.tiles-test.true in
    let width = c.min-width.ensures in
    omega (arith, columns, lt, width)

-- how many it has
many : (g : _) (c : After-part-part g) → get_or c.part-part.result.lengths 1 0 ≡ c.min-width.result
many g c = part-columns g.A.Valued c.args.right.now c.part-part.result c.tiles.first c.min-width.result c.raw_dim-2.ensures.axes c.part-part.ensures.value c.part-part.ensures.whole

-- the product by it is that by the whole matrix
same : (g : _) (c : After-part-part g) (is : List ℕ) → InTile c.args.axis 0 (get_or c.args.left.now.lengths 0 0) c.tiles.first (c.tiles.first + c.min-width.result) is
    → entries_along c.args.axis c.tiles.first (product_of g.A.Valued (matrix_of g.A.Valued c.args.left.now) (matrix_of g.A.Valued c.part-part.result)) is
    ≡ entries_along c.args.axis 0 (product_of g.A.Valued (matrix_of g.A.Valued c.args.left.now) (matrix_of g.A.Valued c.args.right.now)) is
same g c is d =
    let v = g.A.Valued in
    part-product v c.args.right.now c.part-part.result c.tiles.first c.min-width.result c.raw_dim-2.ensures.axes c.part-part.ensures.value c.part-part.ensures.whole (matrix_of v c.args.left.now) c.requires.inner
    (other_index c.args.axis is) (get_or is c.args.axis 0) d.to_row d.from_column d.to_column
    ∙ ap ((product_of v (matrix_of v c.args.left.now) (matrix_of v c.args.right.now)).cell (other_index c.args.axis is)) (omega arith)

pub part-part-requires-clause-within : goal.part-part-requires-clause-within
part-part-requires-clause-within g c = fits g (goal.at.part-part-requires-clause-within g c).After-min-width

pub accumulate_columns-requires-clause-inner : goal.accumulate_columns-requires-clause-inner
accumulate_columns-requires-clause-inner g c κs within =
    part-inner g.A.Valued c.args.right.now c.part-part.result c.tiles.first c.min-width.result c.raw_dim-2.ensures.axes c.part-part.ensures.value c.part-part.ensures.whole (matrix_of g.A.Valued c.args.left.now) c.requires.inner

pub accumulate_columns-requires-clause-sums : goal.accumulate_columns-requires-clause-sums
accumulate_columns-requires-clause-sums g c κs within =
    part-sums g.A.Valued c.args.right.now c.part-part.result c.tiles.first c.min-width.result c.raw_dim-2.ensures.axes c.part-part.ensures.value c.part-part.ensures.whole (matrix_of g.A.Valued c.args.left.now) c.requires.inner
    (fits g (goal.at.accumulate_columns-requires-clause-sums g c).After-min-width) c.requires.sums

pub accumulate_columns-requires-clause-rows : goal.accumulate_columns-requires-clause-rows
accumulate_columns-requires-clause-rows g c κs within = ap (other_index c.args.axis) c.tiles.invariant.done.lengths ∙ c.requires.rows

pub accumulate_columns-requires-clause-width : goal.accumulate_columns-requires-clause-width
accumulate_columns-requires-clause-width g c κs within =
    let n = many g (goal.at.accumulate_columns-requires-clause-width g c).After-part-part in
    let width = c.min-width.ensures in
    omega (arith, n, width)

pub accumulate_columns-requires-clause-columns : goal.accumulate_columns-requires-clause-columns
accumulate_columns-requires-clause-columns g c κs within =
    let at = goal.at.accumulate_columns-requires-clause-columns g c in
    let n = many g at.After-part-part in
    let le = fits g at.After-min-width in
    let long = ap (λ ns. get_or ns c.args.axis 0) c.tiles.invariant.done.lengths ∙ c.requires.columns in
    omega (arith, n, le, long)

pub accumulate_columns-requires-clause-scaled : goal.accumulate_columns-requires-clause-scaled
accumulate_columns-requires-clause-scaled g c κs within = λ is y d s.
    let v = g.A.Valued in
    let at = (goal.at.accumulate_columns-requires-clause-scaled g c).After-part-part in
    let from = d.from_column in
    let inside = subst (λ k. InTile c.args.axis 0 (get_or c.args.left.now.lengths 0 0) c.tiles.first (c.tiles.first + k) is) (many g at) d in
    subst (CanAddScaled v (v.meaning c.args.alpha) (v.meaning c.args.beta) (v.meaning y)) (sym (same g at is inside))
    (c.requires.scaled is y (sym (c.tiles.invariant.done.left is (λ before. let less = before.to_column in absurd (omega (arith, less, from)))) ∙ s))

pub overflow_add-first : goal.overflow_add-first
overflow_add-first g c = let le = fits g (goal.at.overflow_add-first g c).After-min-width in let columns = ap (λ k. get_or k 1 0) (c.into_pattern-columns.ensures ∙ c.raw_dim-2.ensures.lengths) in omega (arith, le, columns)

pub tiles-preserved : goal.tiles-preserved
tiles-preserved g c =
    let v = g.A.Valued in
    let at = (goal.at.tiles-preserved g c).After-part-part in
    let p = product_of v (matrix_of v c.args.left.now) (matrix_of v c.args.right.now) in
    let q = product_of v (matrix_of v c.args.left.now) (matrix_of v c.part-part.result) in
    let rows = get_or c.args.left.now.lengths 0 0 in
    let first = c.tiles.first in
    let width = c.min-width.result in
    let new = c.accumulate_columns.new.array in
    let done = subst (λ k. AccumulatesIn v (InTile c.args.axis 0 rows first (first + k)) c.args.alpha c.args.beta (entries_along c.args.axis first q) c.tiles.array new) (many g at) c.accumulate_columns.ensures in
    record {
      in_range = (let lt = c.tiles-test.true in let least = c.min-width.ensures in omega (arith, lt, least));
      done = columns-next v c.args.alpha c.args.beta (entries_along c.args.axis 0 p) c.args.array.now c.tiles.array new c.args.axis rows first width c.tiles.invariant.done
          (tile-sums v c.args.alpha c.args.beta (InTile c.args.axis 0 rows first (first + width)) (entries_along c.args.axis first q) (entries_along c.args.axis 0 p) c.tiles.array new (same g at) done);
    }

pub returns : goal.returns
returns g c =
    let v = g.A.Valued in
    let old = c.args.array.now in
    let p = product_of v (matrix_of v c.args.left.now) (matrix_of v c.args.right.now) in
    let columns = ap (λ k. get_or k 1 0) (c.into_pattern-columns.ensures ∙ c.raw_dim-2.ensures.lengths) in
    let off = c.tiles-test.false in
    let le = c.tiles.invariant.in_range in
    let long = c.requires.columns in
    let end : c.tiles.first ≡ get_or old.lengths c.args.axis 0 = omega (arith, columns, off, le, long) in
    tile-all v c.args.alpha c.args.beta (InTile c.args.axis 0 (get_or c.args.left.now.lengths 0 0) 0 c.tiles.first) (entries_along c.args.axis 0 p) old c.tiles.array
    (λ is inside.
    subst (λ m. InTile c.args.axis 0 m 0 c.tiles.first is) c.requires.rows
    (subst (λ n. InTile c.args.axis 0 (other_index c.args.axis old.lengths) 0 n is) (sym end) (all-in_tile old.lengths is c.args.axis c.raw_dim-whole.ensures.axes c.requires.axis inside)))
    c.tiles.invariant.done
