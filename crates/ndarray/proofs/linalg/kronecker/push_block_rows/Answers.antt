use Rattle.std.proofs.Common.{◌≡◌, ◌∙◌, ◌++◌, All, ap, arith, map, subst}
use Rattle.std.proofs.lemmas.List.{length-append, length-map}
use Rattle.std.proofs.lemmas.List.Elements.{All-tail}
use Rattle.ndarray.specs.linalg.BlockRows.{CanMultiplyEach, block_rows, multiples_by}
use Rattle.ndarray.specs.Grid.{Grid}
use Rattle.ndarray.specs.Index.{size}
use Rattle.ndarray.specs.Subviews.{axis_items}
use Rattle.ndarray.proofs.lists.Pushes.{some-pushed, some-room}
use Rattle.ndarray.proofs.linalg.kronecker.push_block_rows.Goals as goal

pub push_products-requires-clause-room : goal.push_products-requires-clause-room
push_products-requires-clause-room g c κs within =
    let e = g.A.Valued in
    let i = c.loop-below.invariant in
    let row = c.args.row.now in
    let all = block_rows e row (axis_items c.args.b.now 0) in
    let room = some-room e.meaning (map e.meaning c.args.products.now.cells ++ all) c.loop-below.products.cells c.loop-below.below-iterator c.next.new.self c.in-Some.below c.in-Some.ensures.steps (λ below. multiples_by e row.cells below.cells) i.values in
    let both = length-append (map e.meaning c.args.products.now.cells) all in
    let old = length-map c.args.products.now.cells e.meaning in
    let same : size c.loop-below.products.lengths ≡ size c.args.products.now.lengths = ap size i.lengths in
    omega (arith, room, both, old, same, c.requires.room)

pub loop-below-preserved : goal.loop-below-preserved
loop-below-preserved g c =
    let e = g.A.Valued in
    let i = c.loop-below.invariant in
    let row = c.args.row.now in
    let can : Grid g.row.A.Denot → Type 0 = λ below. CanMultiplyEach e row.cells below.cells in
    record {
      lengths = c.push_products.ensures.lengths ∙ i.lengths;
      order = c.push_products.ensures.order ∙ i.order;
      values = some-pushed e.meaning (map e.meaning c.args.products.now.cells ++ block_rows e row (axis_items c.args.b.now 0)) c.loop-below.products.cells c.loop-below.below-iterator c.next.new.self c.in-Some.below c.in-Some.ensures.steps (λ below. multiples_by e row.cells below.cells) i.values c.push_products.new.products.cells c.push_products.ensures.values;
      can = All-tail can c.in-Some.below c.next.new.self (subst (All can) c.in-Some.ensures.steps i.can);
    }
