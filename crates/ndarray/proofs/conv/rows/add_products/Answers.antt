use Rattle.std.proofs.Common.{◌∙◌, List, ap, subst, sym, ℕ}
use Rattle.std.specs.Prelude.{All, filter_map}
use Rattle.ndarray.specs.Grid.{cell}
use Rattle.ndarray.specs.Index.{InBox, row_order}
use Rattle.ndarray.specs.base.Ranks.{row_from}
use Rattle.ndarray.proofs.convolution.WindowRows.{added-all, added-more, added-none, can-add, first-as_many, first-room, next-inside, run-within}
use Rattle.ndarray.proofs.strides.Rows.{length-row_from}
use Rattle.ndarray.proofs.conv.rows.add_products.Goals as goal

pub loop-place-init : goal.loop-place-init
loop-place-init g c =
    let tile = c.args.tile.now in
    let row : List (List ℕ) = row_from (g.D.Lengths.numbers tile.first) tile.axis tile.count in
    added-none g.A.Valued c.args.a.now c.args.mirrored.now row c.new-places.result c.args.sums.now tile.count g.A.Zero.zero (sym (length-row_from (g.D.Lengths.numbers tile.first) tile.axis tile.count)) g.met.A.SumElem.zero_meaning
    (c.new-places.ensures.list ∙ ap row_order c.raw_dim.ensures.lengths) c.requires.zeros

pub counted_from-first-requires-clause-as_many : goal.counted_from-first-requires-clause-as_many
counted_from-first-requires-clause-as_many g c =
    first-as_many g.A.Valued c.args.a.now c.args.mirrored.now c.requires.can c.raw_dim.ensures.whole (g.D.Lengths.numbers c.args.tile.now.first) c.args.tile.now.axis c.args.tile.now.count c.requires.row.within c.requires.row.some _ (next-inside g.A.Valued c.args.a.now c.args.mirrored.now _ c.loop-place.places c.next.new.self c.loop-place.sums c.loop-place.invariant (g.D.Lengths.numbers c.in-Some.place) c.in-Some.ensures.steps)

pub counted_from-first-requires-clause-room : goal.counted_from-first-requires-clause-room
counted_from-first-requires-clause-room g c =
    first-room g.A.Valued c.args.a.now c.args.mirrored.now c.requires.can c.raw_dim.ensures.whole (g.D.Lengths.numbers c.args.tile.now.first) c.args.tile.now.axis c.args.tile.now.count c.requires.row.within c.requires.row.some c.raw_dim-limit.ensures.limit _ (next-inside g.A.Valued c.args.a.now c.args.mirrored.now _ c.loop-place.places c.next.new.self c.loop-place.sums c.loop-place.invariant (g.D.Lengths.numbers c.in-Some.place) c.in-Some.ensures.steps)

pub cells_along-met-requires-clause-within : goal.cells_along-met-requires-clause-within
cells_along-met-requires-clause-within g c =
    let tile = c.args.tile.now in
    subst (λ (is : List ℕ). All (InBox c.args.a.now.lengths) (row_from is tile.axis tile.count)) (sym c.counted_from-first.ensures)
    (run-within g.A.Valued c.args.a.now c.args.mirrored.now c.requires.can c.raw_dim.ensures.whole (g.D.Lengths.numbers tile.first) tile.axis tile.count c.requires.row.within _ (next-inside g.A.Valued c.args.a.now c.args.mirrored.now _ c.loop-place.places c.next.new.self c.loop-place.sums c.loop-place.invariant (g.D.Lengths.numbers c.in-Some.place) c.in-Some.ensures.steps))

pub item-requires : goal.item-requires
item-requires g c = next-inside g.A.Valued c.args.a.now c.args.mirrored.now _ c.loop-place.places c.next.new.self c.loop-place.sums c.loop-place.invariant (g.D.Lengths.numbers c.in-Some.place) c.in-Some.ensures.steps

pub add_scaled-requires-after_bounds : goal.add_scaled-requires-after_bounds
add_scaled-requires-after_bounds g c κs within =
    let tile = c.args.tile.now in
    can-add g.A.Valued c.args.a.now c.args.mirrored.now c.requires.can c.raw_dim.ensures.whole (g.D.Lengths.numbers tile.first) tile.axis tile.count c.requires.row.within
    c.loop-place.places c.next.new.self c.loop-place.sums c.loop-place.invariant (g.D.Lengths.numbers c.in-Some.place) c.in-Some.ensures.steps c.item.result.now c.item.ensures c.cells_along-met.result
    (c.cells_along-met.ensures ∙ ap (λ (is : List ℕ). filter_map (cell c.args.a.now) (row_from is tile.axis tile.count)) c.counted_from-first.ensures)

pub loop-place-preserved : goal.loop-place-preserved
loop-place-preserved g c =
    let tile = c.args.tile.now in
    added-more g.A.Valued c.args.a.now c.args.mirrored.now c.requires.can c.raw_dim.ensures.whole (g.D.Lengths.numbers tile.first) tile.axis tile.count c.requires.row.within
    c.loop-place.places c.next.new.self c.loop-place.sums c.loop-place.invariant (g.D.Lengths.numbers c.in-Some.place) c.in-Some.ensures.steps c.item.result.now c.item.ensures c.cells_along-met.result
    (c.cells_along-met.ensures ∙ ap (λ (is : List ℕ). filter_map (cell c.args.a.now) (row_from is tile.axis tile.count)) c.counted_from-first.ensures)
    c.add_scaled.new.sums c.add_scaled.ensures

pub returns : goal.returns
returns g c =
    let tile = c.args.tile.now in
    added-all g.A.Valued c.args.a.now c.args.mirrored.now c.requires.can c.raw_dim.ensures.whole (g.D.Lengths.numbers tile.first) tile.axis tile.count c.requires.row.within
    c.loop-place.places c.loop-place.sums c.in_default.ensures.steps.0 c.loop-place.invariant
