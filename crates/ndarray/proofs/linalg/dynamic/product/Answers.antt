use Rattle.std.proofs.Common.{◌≡◌, ◌∙◌, ◌++◌, List, ℕ, All, ap, arith, length, map, refl, subst, sym}
use Rattle.std.specs.Prelude.{flat_map}
use Rattle.std.proofs.lemmas.List.{length-map}
use Rattle.std.proofs.lemmas.List.Elements.{All-head, All-tail}
use Rattle.ndarray.specs.Grid.{Grid}
use Rattle.ndarray.specs.Index.{row_order, size}
use Rattle.ndarray.specs.linalg.LaneSums.{CanSumLanes, lane_sum}
use Rattle.ndarray.specs.Products.{dot_entries, product_lengths}
use Rattle.ndarray.proofs.boxes.Orders.{length-row_order}
use Rattle.ndarray.proofs.cells.Cells.{cells-row_major}
use Rattle.ndarray.proofs.cells.LanePairs.{EachColumn, columns_of}
use Rattle.ndarray.proofs.cells.LaneSums.{lanes-can_sum, sums-in_row_order}
use Rattle.ndarray.proofs.cells.Products.{values-in_row_order, values-none}
use Rattle.ndarray.proofs.lists.Pushes.{all-pushed, some-pushed, some-room}
use Rattle.ndarray.proofs.linalg.dynamic.product.Goals as goal

lengths-of : (ks ns ms ls rs : List ℕ) → ks ≡ product_lengths ns ms → ns ≡ ls → ms ≡ rs → ks ≡ product_lengths ls rs
lengths-of ks ns ms ls rs made left right = made ∙ (ap (λ l. product_lengths l ms) left ∙ ap (product_lengths ls) right)

pub loop-row-init : goal.loop-row-init
loop-row-init g c =
    let e = g.A.Valued in
    let x = c.args.x.now in
    let y = c.args.y.now in
    let sums = λ (row : Grid g.row.A.Denot). map (lane_sum e row) (columns_of y).cells in
    let all = c.into_iter-row-iterator.ensures.into_iter_gives.0 ∙ ap (λ w. w.cells) c.rows-row-items.ensures in
    record {
      lengths = ap (λ p. p.lengths) c.in_ok-sums.ensures.room ∙ lengths-of _ _ _ _ _ c.product_dim-dim.ensures (c.slice.ensures.value ∙ c.raw_dim-left.ensures.lengths) (c.slice-2.ensures.value ∙ c.raw_dim-right.ensures.lengths);
      order = ap (λ p. p.order) c.in_ok-sums.ensures.room;
      values = ap (λ p. map e.meaning p.cells ++ flat_map sums c.into_iter-row-iterator.result) c.in_ok-sums.ensures.room ∙ (ap (flat_map sums) all ∙ sums-in_row_order e x y c.requires.shapes);
      can = subst (All (EachColumn (CanSumLanes e) y)) (sym all) (lanes-can_sum e x y c.requires.shapes c.raw_dim-left.ensures.whole c.raw_dim-right.ensures.whole c.requires.sums);
    }

pub push_sums-requires-clause-can : goal.push_sums-requires-clause-can
push_sums-requires-clause-can g c κs within =
    let can = CanSumLanes g.A.Valued in
    let y = c.args.y.now in
    let columns = ap (λ w. w.cells) (c.again.ensures ∙ c.inner_lanes-columns.ensures) in
    subst (All (can c.in-Some.row)) (sym columns) (All-head (EachColumn can y) c.in-Some.row c.next.new.self (subst (All (EachColumn can y)) c.in-Some.ensures.steps c.loop-row.invariant.can))

pub push_sums-requires-clause-room : goal.push_sums-requires-clause-room
push_sums-requires-clause-room g c =
    let e = g.A.Valued in
    let x = c.args.x.now in
    let y = c.args.y.now in
    let i = c.loop-row.invariant in
    let entries = map (dot_entries e x y) (row_order (product_lengths x.lengths y.lengths)) in
    let room = some-room e.meaning entries c.loop-row.sums.cells c.loop-row.row-iterator c.next.new.self c.in-Some.row c.in-Some.ensures.steps (λ row. map (lane_sum e row) (columns_of y).cells) i.values in
    let each = length-map (columns_of y).cells (lane_sum e c.in-Some.row) in
    let columns = ap (λ w. length w.cells) (c.again.ensures ∙ c.inner_lanes-columns.ensures) in
    let many = length-map (row_order (product_lengths x.lengths y.lengths)) (dot_entries e x y) ∙ length-row_order (product_lengths x.lengths y.lengths) in
    let same = ap size i.lengths in
    omega (arith, room, each, columns, many, same)

pub loop-row-preserved : goal.loop-row-preserved
loop-row-preserved g c =
    let e = g.A.Valued in
    let x = c.args.x.now in
    let y = c.args.y.now in
    let i = c.loop-row.invariant in
    let entries = map (dot_entries e x y) (row_order (product_lengths x.lengths y.lengths)) in
    let columns = ap (λ w. w.cells) (c.again.ensures ∙ c.inner_lanes-columns.ensures) in
    record {
      lengths = c.push_sums.ensures.lengths ∙ i.lengths;
      order = c.push_sums.ensures.order ∙ i.order;
      values =
          some-pushed e.meaning entries c.loop-row.sums.cells c.loop-row.row-iterator c.next.new.self c.in-Some.row c.in-Some.ensures.steps (λ row. map (lane_sum e row) (columns_of y).cells) i.values c.push_sums.new.sums.cells
          (c.push_sums.ensures.values ∙ ap (λ l. map e.meaning c.loop-row.sums.cells ++ map (lane_sum e c.in-Some.row) l) columns);
      can = All-tail (EachColumn (CanSumLanes e) y) c.in-Some.row c.next.new.self (subst (All (EachColumn (CanSumLanes e) y)) c.in-Some.ensures.steps i.can);
    }

pub finish-requires : goal.finish-requires
finish-requires g c =
    let made = c.in_ok-sums.ensures.room in
    ap (λ q. length q.cells) made ∙ sym (ap (λ q. size q.lengths) made ∙ (sym c.size-size.ensures ∙ c.if-size-eq0.true))

pub returns-then-size-eq0 : goal.returns-then-size-eq0
returns-then-size-eq0 g c =
    let dim = lengths-of _ _ _ _ _ c.product_dim-dim.ensures (c.slice.ensures.value ∙ c.raw_dim-left.ensures.lengths) (c.slice-2.ensures.value ∙ c.raw_dim-right.ensures.lengths) in
    let same = c.finish.ensures.lengths ∙ (ap (λ p. p.lengths) c.in_ok-sums.ensures.room ∙ dim) in
    record {
      made = values-none g.A.Valued (product_lengths c.args.x.now.lengths c.args.y.now.lengths) (dot_entries g.A.Valued c.args.x.now c.args.y.now) c.finish.result same c.finish.ensures.whole (ap size (sym dim) ∙ (sym c.size-size.ensures ∙ c.if-size-eq0.true));
      empty = λ none. refl;
    }

pub finish-requires-2 : goal.finish-requires-2
finish-requires-2 g c =
    let e = g.A.Valued in
    let x = c.args.x.now in
    let y = c.args.y.now in
    let i = c.loop-row.invariant in
    let shape = product_lengths x.lengths y.lengths in
    let all = all-pushed e.meaning (λ row. map (lane_sum e row) (columns_of y).cells) c.loop-row.sums.cells c.loop-row.row-iterator (map (dot_entries e x y) (row_order shape)) c.in-None.ensures.steps.0 i.values in
    sym (length-map c.loop-row.sums.cells e.meaning) ∙ (ap length all ∙ (length-map (row_order shape) (dot_entries e x y) ∙ (length-row_order shape ∙ sym (ap size i.lengths))))

pub returns : goal.returns
returns g c =
    let e = g.A.Valued in
    let x = c.args.x.now in
    let y = c.args.y.now in
    let i = c.loop-row.invariant in
    let shape = product_lengths x.lengths y.lengths in
    let all = all-pushed e.meaning (λ row. map (lane_sum e row) (columns_of y).cells) c.loop-row.sums.cells c.loop-row.row-iterator (map (dot_entries e x y) (row_order shape)) c.in-None.ensures.steps.0 i.values in
    let r = c.finish-2.result in
    let cells = cells-row_major c.loop-row.sums.order r c.loop-row.sums.cells c.finish-2.ensures.whole c.finish-2.ensures.list i.order in
    record {
      made = values-in_row_order e shape (dot_entries e x y) r (c.finish-2.ensures.lengths ∙ i.lengths) c.finish-2.ensures.whole (ap (map e.meaning) cells ∙ all);
      empty = λ none. refl;
    }
