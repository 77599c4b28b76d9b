use Rattle.std.proofs.Common.{◌≡◌, ◌≤◌, ◌+◌, ◌∙◌, List, ℕ, [], ◌∷◌, ap, arith, get_or, length, subst, sym}
use Rattle.ndarray.specs.Index.{InBox}
use Rattle.ndarray.specs.linalg.ProductTiles.{AccumulatesIn, InRun, row_along}
use Rattle.ndarray.specs.Products.{CanAddScaled, matrix_of, product_of, row_of}
use Rattle.ndarray.proofs.cells.ColumnParts.{part-can_sum, part-columns, part-product}
use Rattle.ndarray.proofs.cells.ProductTiles.{all-in_run, run-in_vector, runs-next, tile-all, tile-start, tile-sums}
use Rattle.ndarray.proofs.linalg.product_tiles.accumulate_vector.Goals.{After-min-width, After-part-part}
use Rattle.ndarray.proofs.linalg.product_tiles.accumulate_vector.Goals as goal

pub runs-init : goal.runs-init
runs-init g c = record {
  in_range = omega arith;
  done = tile-start g.A.Valued c.args.alpha c.args.beta _ _ c.args.array.now c.raw_dim-whole.ensures.whole (λ is d. let to = d.to_column in absurd (omega (arith, to)));
}

-- the part ends within the columns
fits : (g : _) (c : After-min-width g) → c.runs.first + c.min-width.result ≤ get_or c.args.right.now.lengths 1 0
fits g c =
    let columns = ap (λ k. get_or k 1 0) (c.into_pattern-columns.ensures ∙ c.raw_dim.ensures.lengths) in
    let lt = c.runs-test.true in
    let width = c.min-width.ensures in
    omega (arith, columns, lt, width)

-- how many it has
many : (g : _) (c : After-part-part g) → get_or c.part-part.result.lengths 1 0 ≡ c.min-width.result
many g c = part-columns g.A.Valued c.args.right.now c.part-part.result c.runs.first c.min-width.result c.raw_dim.ensures.axes c.part-part.ensures.value c.part-part.ensures.whole

-- the product by it is that by the whole matrix
same : (g : _) (c : After-part-part g) (is : List ℕ) → InRun (0 ∷ []) 0 c.runs.first (c.runs.first + c.min-width.result) is
    → row_along 0 c.runs.first (product_of g.A.Valued (row_of g.A.Valued c.args.x.now) (matrix_of g.A.Valued c.part-part.result)) is
    ≡ row_along 0 0 (product_of g.A.Valued (row_of g.A.Valued c.args.x.now) (matrix_of g.A.Valued c.args.right.now)) is
same g c is d =
    let v = g.A.Valued in
    part-product v c.args.right.now c.part-part.result c.runs.first c.min-width.result c.raw_dim.ensures.axes c.part-part.ensures.value c.part-part.ensures.whole (row_of v c.args.x.now) c.requires.can.inner
    0 (get_or is 0 0) (omega arith) d.from_column d.to_column
    ∙ ap ((product_of v (row_of v c.args.x.now) (matrix_of v c.args.right.now)).cell 0) (omega arith)

pub part-part-requires-clause-within : goal.part-part-requires-clause-within
part-part-requires-clause-within g c = fits g (goal.at.part-part-requires-clause-within g c).After-min-width

pub accumulate_run-requires-clause-can : goal.accumulate_run-requires-clause-can
accumulate_run-requires-clause-can g c κs within =
    part-can_sum g.A.Valued c.args.right.now c.part-part.result c.runs.first c.min-width.result c.raw_dim.ensures.axes c.part-part.ensures.value c.part-part.ensures.whole c.args.x.now
    (fits g (goal.at.accumulate_run-requires-clause-can g c).After-min-width) c.requires.can

pub accumulate_run-requires-clause-axis : goal.accumulate_run-requires-clause-axis
accumulate_run-requires-clause-axis g c κs within = let one = ap length c.runs.invariant.done.lengths ∙ c.raw_dim-whole.ensures.axes in omega (arith, one)

pub accumulate_run-requires-clause-axes : goal.accumulate_run-requires-clause-axes
accumulate_run-requires-clause-axes g c κs within = ap length c.Ix1.ensures ∙ sym (ap length c.runs.invariant.done.lengths ∙ c.raw_dim-whole.ensures.axes)

pub accumulate_run-requires-clause-within : goal.accumulate_run-requires-clause-within
accumulate_run-requires-clause-within g c κs within = λ is d.
    let at = goal.at.accumulate_run-requires-clause-within g c in
    let n = many g at.After-part-part in
    let le = fits g at.After-min-width in
    let long = c.requires.columns in
    let last = c.runs.first + get_or c.part-part.result.lengths 1 0 in
    subst (λ ns. InBox ns is) (sym c.runs.invariant.done.lengths)
    (run-in_vector c.args.array.now.lengths c.runs.first last c.raw_dim-whole.ensures.axes (omega (arith, n, le, long)) is (subst (λ ks. InRun ks 0 c.runs.first last is) c.Ix1.ensures d))

pub accumulate_run-requires-clause-width : goal.accumulate_run-requires-clause-width
accumulate_run-requires-clause-width g c κs within =
    let n = many g (goal.at.accumulate_run-requires-clause-width g c).After-part-part in
    let width = c.min-width.ensures in
    omega (arith, n, width)

pub accumulate_run-requires-clause-columns : goal.accumulate_run-requires-clause-columns
accumulate_run-requires-clause-columns g c κs within =
    let at = goal.at.accumulate_run-requires-clause-columns g c in
    let n = many g at.After-part-part in
    let le = fits g at.After-min-width in
    let long = ap (λ ns. get_or ns 0 0) c.runs.invariant.done.lengths ∙ c.requires.columns in
    omega (arith, n, le, long)

pub accumulate_run-requires-clause-scaled : goal.accumulate_run-requires-clause-scaled
accumulate_run-requires-clause-scaled g c κs within = λ is y d s.
    let v = g.A.Valued in
    let at = (goal.at.accumulate_run-requires-clause-scaled g c).After-part-part in
    let from = d.from_column in
    let first = c.runs.first in
    let inside = subst (λ k. InRun (0 ∷ []) 0 first (first + k) is) (many g at) (subst (λ ks. InRun ks 0 first (first + get_or c.part-part.result.lengths 1 0) is) c.Ix1.ensures d) in
    subst (CanAddScaled v (v.meaning c.args.alpha) (v.meaning c.args.beta) (v.meaning y)) (sym (same g at is inside))
    (c.requires.scaled is y (sym (c.runs.invariant.done.left is (λ before. let less = before.to_column in absurd (omega (arith, less, from)))) ∙ s))

pub overflow_add-first : goal.overflow_add-first
overflow_add-first g c = let le = fits g (goal.at.overflow_add-first g c).After-min-width in let columns = ap (λ k. get_or k 1 0) (c.into_pattern-columns.ensures ∙ c.raw_dim.ensures.lengths) in omega (arith, le, columns)

pub runs-preserved : goal.runs-preserved
runs-preserved g c =
    let v = g.A.Valued in
    let at = (goal.at.runs-preserved g c).After-part-part in
    let p = product_of v (row_of v c.args.x.now) (matrix_of v c.args.right.now) in
    let q = product_of v (row_of v c.args.x.now) (matrix_of v c.part-part.result) in
    let first = c.runs.first in
    let width = c.min-width.result in
    let new = c.accumulate_run.new.array in
    let run = subst (λ ks. AccumulatesIn v (InRun ks 0 first (first + get_or c.part-part.result.lengths 1 0)) c.args.alpha c.args.beta (row_along 0 first q) c.runs.array new) c.Ix1.ensures c.accumulate_run.ensures in
    let done = subst (λ k. AccumulatesIn v (InRun (0 ∷ []) 0 first (first + k)) c.args.alpha c.args.beta (row_along 0 first q) c.runs.array new) (many g at) run in
    record {
      in_range = (let lt = c.runs-test.true in let least = c.min-width.ensures in omega (arith, lt, least));
      done = runs-next v c.args.alpha c.args.beta (row_along 0 0 p) c.args.array.now c.runs.array new (0 ∷ []) 0 first width c.runs.invariant.done
          (tile-sums v c.args.alpha c.args.beta (InRun (0 ∷ []) 0 first (first + width)) (row_along 0 first q) (row_along 0 0 p) c.runs.array new (same g at) done);
    }

pub returns : goal.returns
returns g c =
    let v = g.A.Valued in
    let old = c.args.array.now in
    let p = product_of v (row_of v c.args.x.now) (matrix_of v c.args.right.now) in
    let columns = ap (λ k. get_or k 1 0) (c.into_pattern-columns.ensures ∙ c.raw_dim.ensures.lengths) in
    let off = c.runs-test.false in
    let le = c.runs.invariant.in_range in
    let long = c.requires.columns in
    let end : c.runs.first ≡ get_or old.lengths 0 0 = omega (arith, columns, off, le, long) in
    tile-all v c.args.alpha c.args.beta (InRun (0 ∷ []) 0 0 c.runs.first) (row_along 0 0 p) old c.runs.array
    (λ is inside. subst (λ n. InRun (0 ∷ []) 0 0 n is) (sym end) (all-in_run old.lengths is c.raw_dim-whole.ensures.axes inside))
    c.runs.invariant.done
