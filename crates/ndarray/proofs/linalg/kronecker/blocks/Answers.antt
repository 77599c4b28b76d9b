use Rattle.std.proofs.Common.{◌≡◌, ◌∙◌, ◌*◌, ◌++◌, [], ◌∷◌, List, ℕ, All, ap, arith, get_or, length, map, refl, subst, sym}
use Rattle.std.specs.Prelude.{flat_map}
use Rattle.std.proofs.lemmas.List.{length-map}
use Rattle.std.proofs.lemmas.List.Elements.{All-head, All-tail}
use Rattle.ndarray.specs.linalg.BlockRows.{CanMultiplyEach, block_rows}
use Rattle.ndarray.specs.Grid.{Grid}
use Rattle.ndarray.specs.Index.{row_order, size}
use Rattle.ndarray.specs.Matrices.{kronecker_product}
use Rattle.ndarray.specs.Products.{kronecker_lengths, matrix_entries, matrix_of}
use Rattle.ndarray.specs.Subviews.{axis_items}
use Rattle.ndarray.proofs.boxes.Orders.{length-row_order}
use Rattle.ndarray.proofs.boxes.ProductShapes.{kronecker-rows_fit}
use Rattle.ndarray.proofs.cells.BlockRows.{blocks-in_row_order, rows-can_multiply}
use Rattle.ndarray.proofs.cells.Cells.{cells-row_major}
use Rattle.ndarray.proofs.cells.Products.{values-in_row_order, values-none}
use Rattle.ndarray.proofs.lists.Pushes.{all-pushed, some-pushed, some-room}
use Rattle.ndarray.proofs.linalg.kronecker.blocks.Goals as goal

-- the lengths of the result, by those of the two
lengths-of : (ks ns ms ls rs : List ℕ) (l n m r : ℕ) → ks ≡ l * m ∷ n * r ∷ [] → l ∷ n ∷ [] ≡ ns → m ∷ r ∷ [] ≡ ms → ns ≡ ls → ms ≡ rs → ks ≡ kronecker_lengths ls rs
lengths-of ks ns ms ls rs l n m r made left right first second =
    made
    ∙ (ap (λ k. get_or k 0 0 * m ∷ get_or k 1 0 * r ∷ []) (left ∙ first)
    ∙ ap (λ k. get_or ls 0 0 * get_or k 0 0 ∷ get_or ls 1 0 * get_or k 1 0 ∷ []) (right ∙ second))

pub overflow_mul-l : goal.overflow_mul-l
overflow_mul-l g c =
    let left = c.into_pattern-l.ensures ∙ c.raw_dim.ensures.lengths in
    let right = c.into_pattern-m.ensures ∙ c.raw_dim-2.ensures.lengths in
    let same = ap (λ k. get_or k 0 0 * c.into_pattern-m.result.0) left ∙ ap (λ k. get_or c.args.a.now.lengths 0 0 * get_or k 0 0) right in
    let k = kronecker-rows_fit c.args.a.now.lengths c.args.b.now.lengths c.requires.limit in
    record { fits = omega (arith, k, same) }

pub returns-then-size-eq0 : goal.returns-then-size-eq0
returns-then-size-eq0 g c =
    let e = g.A.Valued in
    let a = c.args.a.now in
    let b = c.args.b.now in
    let dim = lengths-of _ _ _ a.lengths b.lengths _ _ _ _ c.Ix2-dim.ensures c.into_pattern-l.ensures c.into_pattern-m.ensures c.raw_dim.ensures.lengths c.raw_dim-2.ensures.lengths in
    let same = c.finish.ensures.lengths ∙ (ap (λ p. p.lengths) c.in_ok-products.ensures.room ∙ dim) in
    record {
      made = values-none e (kronecker_lengths a.lengths b.lengths) (matrix_entries (kronecker_product e.multiplication (matrix_of e a) (matrix_of e b))) c.finish.result same c.finish.ensures.whole (ap size (sym dim) ∙ (sym c.size-size.ensures ∙ c.if-size-eq0.true));
      empty = λ none. refl;
    }

pub loop-row-init : goal.loop-row-init
loop-row-init g c =
    let e = g.A.Valued in
    let a = c.args.a.now in
    let b = c.args.b.now in
    let two_a = sym (ap length (c.into_pattern-l.ensures ∙ c.raw_dim.ensures.lengths)) in
    let two_b = sym (ap length (c.into_pattern-m.ensures ∙ c.raw_dim-2.ensures.lengths)) in
    let products : Grid g.row.A.Denot → List e.Carrier = λ row. block_rows e row (axis_items b 0) in
    let can : Grid g.row.A.Denot → Type 0 = λ row. All (λ below. CanMultiplyEach e row.cells below.cells) (axis_items b 0) in
    let all = c.into_iter-row-iterator.ensures.into_iter_gives ∙ c.outer_iter-row-items.ensures.items in
    let dim = lengths-of _ _ _ a.lengths b.lengths _ _ _ _ c.Ix2-dim.ensures c.into_pattern-l.ensures c.into_pattern-m.ensures c.raw_dim.ensures.lengths c.raw_dim-2.ensures.lengths in
    record {
      lengths = ap (λ p. p.lengths) c.in_ok-products.ensures.room ∙ dim;
      order = ap (λ p. p.order) c.in_ok-products.ensures.room;
      values = ap (λ p. map e.meaning p.cells ++ flat_map products c.into_iter-row-iterator.result) c.in_ok-products.ensures.room
          ∙ (ap (flat_map products) all ∙ blocks-in_row_order e a b two_a two_b c.raw_dim.ensures.whole c.raw_dim-2.ensures.whole);
      can = subst (All can) (sym all) (rows-can_multiply e a b two_a two_b c.raw_dim.ensures.whole c.raw_dim-2.ensures.whole c.requires.products);
    }

pub push_block_rows-requires-clause-can : goal.push_block_rows-requires-clause-can
push_block_rows-requires-clause-can g c κs within =
    let e = g.A.Valued in
    let can : Grid g.row.A.Denot → Type 0 = λ row. All (λ below. CanMultiplyEach e row.cells below.cells) (axis_items c.args.b.now 0) in
    All-head can c.in-Some.row c.next.new.self (subst (All can) c.in-Some.ensures.steps c.loop-row.invariant.can)

pub push_block_rows-requires-clause-room : goal.push_block_rows-requires-clause-room
push_block_rows-requires-clause-room g c κs within =
    let e = g.A.Valued in
    let a = c.args.a.now in
    let b = c.args.b.now in
    let i = c.loop-row.invariant in
    let entry = matrix_entries (kronecker_product e.multiplication (matrix_of e a) (matrix_of e b)) in
    let shape = kronecker_lengths a.lengths b.lengths in
    let products : Grid g.row.A.Denot → List e.Carrier = λ row. block_rows e row (axis_items b 0) in
    let room = some-room e.meaning (map entry (row_order shape)) c.loop-row.products.cells c.loop-row.row-iterator c.next.new.self c.in-Some.row c.in-Some.ensures.steps products i.values in
    let many = length-map (row_order shape) entry ∙ length-row_order shape in
    let same = ap size i.lengths in
    omega (arith, room, many, same)

pub loop-row-preserved : goal.loop-row-preserved
loop-row-preserved g c =
    let e = g.A.Valued in
    let a = c.args.a.now in
    let b = c.args.b.now in
    let i = c.loop-row.invariant in
    let entry = matrix_entries (kronecker_product e.multiplication (matrix_of e a) (matrix_of e b)) in
    let products : Grid g.row.A.Denot → List e.Carrier = λ row. block_rows e row (axis_items b 0) in
    let can : Grid g.row.A.Denot → Type 0 = λ row. All (λ below. CanMultiplyEach e row.cells below.cells) (axis_items b 0) in
    record {
      lengths = c.push_block_rows.ensures.lengths ∙ i.lengths;
      order = c.push_block_rows.ensures.order ∙ i.order;
      values = some-pushed e.meaning (map entry (row_order (kronecker_lengths a.lengths b.lengths))) c.loop-row.products.cells c.loop-row.row-iterator c.next.new.self c.in-Some.row c.in-Some.ensures.steps products i.values c.push_block_rows.new.products.cells c.push_block_rows.ensures.values;
      can = All-tail can c.in-Some.row c.next.new.self (subst (All can) c.in-Some.ensures.steps i.can);
    }

pub finish-requires-2 : goal.finish-requires-2
finish-requires-2 g c =
    let e = g.A.Valued in
    let a = c.args.a.now in
    let b = c.args.b.now in
    let i = c.loop-row.invariant in
    let entry = matrix_entries (kronecker_product e.multiplication (matrix_of e a) (matrix_of e b)) in
    let shape = kronecker_lengths a.lengths b.lengths in
    let products : Grid g.row.A.Denot → List e.Carrier = λ row. block_rows e row (axis_items b 0) in
    let all = all-pushed e.meaning products c.loop-row.products.cells c.loop-row.row-iterator (map entry (row_order shape)) c.in-None.ensures.steps.0 i.values in
    sym (length-map c.loop-row.products.cells e.meaning) ∙ (ap length all ∙ (length-map (row_order shape) entry ∙ (length-row_order shape ∙ sym (ap size i.lengths))))

pub returns : goal.returns
returns g c =
    let e = g.A.Valued in
    let a = c.args.a.now in
    let b = c.args.b.now in
    let i = c.loop-row.invariant in
    let entry = matrix_entries (kronecker_product e.multiplication (matrix_of e a) (matrix_of e b)) in
    let shape = kronecker_lengths a.lengths b.lengths in
    let products : Grid g.row.A.Denot → List e.Carrier = λ row. block_rows e row (axis_items b 0) in
    let all = all-pushed e.meaning products c.loop-row.products.cells c.loop-row.row-iterator (map entry (row_order shape)) c.in-None.ensures.steps.0 i.values in
    let r = c.finish-2.result in
    let cells = cells-row_major c.loop-row.products.order r c.loop-row.products.cells c.finish-2.ensures.whole c.finish-2.ensures.list i.order in
    record {
      made = values-in_row_order e shape entry r (c.finish-2.ensures.lengths ∙ i.lengths) c.finish-2.ensures.whole (ap (map e.meaning) cells ∙ all);
      empty = λ none. refl;
    }
