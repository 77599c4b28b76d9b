use Rattle.std.proofs.Common.{◌≡◌, ◌∙◌, ◌-◌, ◌++◌, List, ℕ, All, ap, arith, get_or, length, map, refl, subst, sym}
use Rattle.std.specs.Prelude.{flat_map}
use Rattle.std.proofs.lemmas.List.{length-map}
use Rattle.std.proofs.lemmas.List.Elements.{All-head, All-tail}
use Rattle.ndarray.specs.Grid.{Grid}
use Rattle.ndarray.specs.Index.{row_order, size}
use Rattle.ndarray.specs.linalg.LaneSums.{CanSumLanes, lane_sum}
use Rattle.ndarray.specs.Products.{dot_entries, matrix_of, product_lengths, product_of, row_of}
use Rattle.ndarray.specs.declared.base.shape.Order.TheVariants.{RowMajor}
use Rattle.ndarray.proofs.boxes.Orders.{length-row_order}
use Rattle.ndarray.proofs.cells.Cells.{cells-row_major}
use Rattle.ndarray.proofs.cells.LanePairs.{EachColumn, columns_of, rows_of}
use Rattle.ndarray.proofs.cells.LaneSums.{lanes-can_sum, sums-in_row_order}
use Rattle.ndarray.proofs.cells.Products.{values-in_row_order, values-none}
use Rattle.ndarray.proofs.cells.RowsByLanes.{IsRow, can-by_lanes, rows-are, sums-by_lanes}
use Rattle.ndarray.proofs.sums.InnerSums.{length-below}
use Rattle.ndarray.proofs.lists.Pushes.{all-pushed, some-pushed, some-room}
use Rattle.ndarray.proofs.linalg.dynamic.product_by_matrix.Goals as goal

lengths-of : (ks ns ms ls rs : List ℕ) → ks ≡ product_lengths ns ms → ns ≡ ls → ms ≡ rs → ks ≡ product_lengths ls rs
lengths-of ks ns ms ls rs made left right = made ∙ (ap (λ l. product_lengths l ms) left ∙ ap (product_lengths ls) right)

pub loop-row-init : goal.loop-row-init
loop-row-init g c =
    let e = g.A.Valued in
    let x = c.args.x.now in
    let y = c.args.y.now in
    let sums = λ (row : Grid g.row.A.Denot). map (lane_sum e row) (columns_of y).cells in
    let all = c.into_iter-row-iterator.ensures.into_iter_gives.0 ∙ ap (λ w. w.cells) c.rows-row-items.ensures in
    let two = c.raw_dim-right.ensures.axes in
    let inner = c.requires.shapes.inner ∙ ap (λ k. get_or y.lengths (k - 2) 0) two in
    let dim = lengths-of _ _ _ _ _ c.product_dim-dim.ensures (c.slice.ensures.value ∙ c.raw_dim-left.ensures.lengths) (c.slice-2.ensures.value ∙ c.raw_dim-right.ensures.lengths) in
    let many = c.size-size.ensures ∙ ap size dim in
    let room = c.in_ok-sums.ensures.capacity in
    record {
      values = ap (λ l. map e.meaning l ++ flat_map sums c.into_iter-row-iterator.result) c.in_ok-sums.ensures.items ∙ (ap (flat_map sums) all ∙ sums-in_row_order e x y c.requires.shapes);
      can = subst (All (EachColumn (CanSumLanes e) y)) (sym all) (lanes-can_sum e x y c.requires.shapes c.raw_dim-left.ensures.whole c.raw_dim-right.ensures.whole c.requires.sums);
      rows = subst (All (IsRow (get_or y.lengths 0 0))) (sym all) (subst (λ n. All (IsRow n) (rows_of x).cells) inner (rows-are x c.raw_dim-left.ensures.whole c.requires.shapes.left));
      capacity = omega (arith, many, room);
    }

pub push_row-requires-clause-can : goal.push_row-requires-clause-can
push_row-requires-clause-can g c κs within =
    let e = g.A.Valued in
    let y = c.args.y.now in
    let row = c.in-Some.row in
    let first = All-head (EachColumn (CanSumLanes e) y) row c.next.new.self (subst (All (EachColumn (CanSumLanes e) y)) c.in-Some.ensures.steps c.loop-row.invariant.can) in
    let is_row = All-head (IsRow (get_or y.lengths 0 0)) row c.next.new.self (subst (All (IsRow (get_or y.lengths 0 0))) c.in-Some.ensures.steps c.loop-row.invariant.rows) in
    can-by_lanes e row y is_row c.raw_dim-right.ensures.axes c.raw_dim-right.ensures.whole first

pub push_row-requires-clause-room : goal.push_row-requires-clause-room
push_row-requires-clause-room g c κs within =
    let e = g.A.Valued in
    let x = c.args.x.now in
    let y = c.args.y.now in
    let i = c.loop-row.invariant in
    let row = c.in-Some.row in
    let entries = map (dot_entries e x y) (row_order (product_lengths x.lengths y.lengths)) in
    let room = some-room e.meaning entries c.loop-row.sums.items c.loop-row.row-iterator c.next.new.self row c.in-Some.ensures.steps (λ r. map (lane_sum e r) (columns_of y).cells) i.values in
    let is_row = All-head (IsRow (get_or y.lengths 0 0)) row c.next.new.self (subst (All (IsRow (get_or y.lengths 0 0))) c.in-Some.ensures.steps i.rows) in
    let each = ap length (sums-by_lanes e row y is_row c.raw_dim-right.ensures.axes c.raw_dim-right.ensures.whole) in
    let width = length-below (get_or y.lengths 1 0) ((product_of e (row_of e row) (matrix_of e y)).cell 0) in
    let many = length-map (row_order (product_lengths x.lengths y.lengths)) (dot_entries e x y) ∙ length-row_order (product_lengths x.lengths y.lengths) in
    let capacity = i.capacity in
    omega (arith, room, each, width, many, capacity)

pub loop-row-preserved : goal.loop-row-preserved
loop-row-preserved g c =
    let e = g.A.Valued in
    let x = c.args.x.now in
    let y = c.args.y.now in
    let i = c.loop-row.invariant in
    let row = c.in-Some.row in
    let entries = map (dot_entries e x y) (row_order (product_lengths x.lengths y.lengths)) in
    let rows = subst (All (IsRow (get_or y.lengths 0 0))) c.in-Some.ensures.steps i.rows in
    let by_lanes = sums-by_lanes e row y (All-head (IsRow (get_or y.lengths 0 0)) row c.next.new.self rows) c.raw_dim-right.ensures.axes c.raw_dim-right.ensures.whole in
    let before = i.capacity in
    let after = c.push_row.ensures.capacity in
    record {
      values =
          some-pushed e.meaning entries c.loop-row.sums.items c.loop-row.row-iterator c.next.new.self row c.in-Some.ensures.steps (λ r. map (lane_sum e r) (columns_of y).cells) i.values c.push_row.new.sums.items
          (c.push_row.ensures.values ∙ ap (λ l. map e.meaning c.loop-row.sums.items ++ l) by_lanes);
      can = All-tail (EachColumn (CanSumLanes e) y) row c.next.new.self (subst (All (EachColumn (CanSumLanes e) y)) c.in-Some.ensures.steps i.can);
      rows = All-tail (IsRow (get_or y.lengths 0 0)) row c.next.new.self rows;
      capacity = omega (arith, before, after);
    }

pub returns-then-size-eq0 : goal.returns-then-size-eq0
returns-then-size-eq0 g c =
    let dim = lengths-of _ _ _ _ _ c.product_dim-dim.ensures (c.slice.ensures.value ∙ c.raw_dim-left.ensures.lengths) (c.slice-2.ensures.value ∙ c.raw_dim-right.ensures.lengths) in
    record {
      made = values-none g.A.Valued (product_lengths c.args.x.now.lengths c.args.y.now.lengths) (dot_entries g.A.Valued c.args.x.now c.args.y.now) c.from_elements.result (c.from_elements.ensures.lengths ∙ dim) c.from_elements.ensures.whole
          (ap size (sym dim) ∙ (sym c.size-size.ensures ∙ c.if-size-eq0.true));
      empty = λ none. refl;
    }

pub from_elements-requires-2-clause-many : goal.from_elements-requires-2-clause-many
from_elements-requires-2-clause-many g c =
    let e = g.A.Valued in
    let x = c.args.x.now in
    let y = c.args.y.now in
    let i = c.loop-row.invariant in
    let shape = product_lengths x.lengths y.lengths in
    let dim = lengths-of _ _ _ _ _ c.product_dim-dim.ensures (c.slice.ensures.value ∙ c.raw_dim-left.ensures.lengths) (c.slice-2.ensures.value ∙ c.raw_dim-right.ensures.lengths) in
    let all = all-pushed e.meaning (λ r. map (lane_sum e r) (columns_of y).cells) c.loop-row.sums.items c.loop-row.row-iterator (map (dot_entries e x y) (row_order shape)) c.in-None.ensures.steps.0 i.values in
    sym (length-map c.loop-row.sums.items e.meaning) ∙ (ap length all ∙ (length-map (row_order shape) (dot_entries e x y) ∙ (length-row_order shape ∙ ap size (sym dim))))

pub returns : goal.returns
returns g c =
    let e = g.A.Valued in
    let x = c.args.x.now in
    let y = c.args.y.now in
    let i = c.loop-row.invariant in
    let shape = product_lengths x.lengths y.lengths in
    let dim = lengths-of _ _ _ _ _ c.product_dim-dim.ensures (c.slice.ensures.value ∙ c.raw_dim-left.ensures.lengths) (c.slice-2.ensures.value ∙ c.raw_dim-right.ensures.lengths) in
    let all = all-pushed e.meaning (λ r. map (lane_sum e r) (columns_of y).cells) c.loop-row.sums.items c.loop-row.row-iterator (map (dot_entries e x y) (row_order shape)) c.in-None.ensures.steps.0 i.values in
    let r = c.from_elements-2.result in
    let cells = cells-row_major RowMajor r c.loop-row.sums.items c.from_elements-2.ensures.whole c.from_elements-2.ensures.list refl in
    record {
      made = values-in_row_order e shape (dot_entries e x y) r (c.from_elements-2.ensures.lengths ∙ dim) c.from_elements-2.ensures.whole (ap (map e.meaning) cells ∙ all);
      empty = λ none. refl;
    }
