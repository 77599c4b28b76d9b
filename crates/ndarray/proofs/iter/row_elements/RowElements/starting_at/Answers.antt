use Rattle.std.proofs.Common.{◌≡◌, ◌∙◌, sym, ap, subst, arith, length, take, drop, filter_map}
use Rattle.std.specs.Prelude.{All}
use Rattle.std.proofs.lemmas.List.{length-drop, length-take}
use Rattle.std.proofs.lemmas.List.Elements.{All-take, All-drop}
use Rattle.ndarray.specs.Grid.{HasCells, cell}
use Rattle.ndarray.specs.Index.{InBox, row_order}
use Rattle.ndarray.specs.base.Ranks.{rank}
use Rattle.ndarray.specs.base.Storage.{seen_at}
use Rattle.ndarray.specs.base.Strided.{HaveElements}
use Rattle.ndarray.specs.order.Walks.{walk_rest, WalksFrom}
use Rattle.ndarray.specs.declared.base.shape.Order.TheVariants.{RowMajor}
use Rattle.ndarray.proofs.boxes.Boxes.{InBox-length}
use Rattle.ndarray.proofs.boxes.Orders.{length-row_order}
use Rattle.ndarray.proofs.boxes.Sizes.{size-le}
use Rattle.ndarray.proofs.cells.Cells.{along-row_order, along-take, along-drop, HasCells-row_order}
use Rattle.ndarray.proofs.moving.BorrowedCells.{found-some, held-some}
use Rattle.ndarray.proofs.iter.row_elements.RowElements.starting_at.Goals as goal
use Rattle.ndarray.proofs.iter.row_elements.RowElements.starting_at.Goals.{After-starting_at-walk}

pub starting_at-walk-requires : goal.starting_at-walk-requires
starting_at-walk-requires g c =
    let is = g.D.Lengths.numbers c.args.index in
    subst (λ ns. WalksFrom RowMajor ns is c.args.count) (sym c.raw_dim.ensures.lengths)
    (record { limit = c.raw_dim.ensures.limit; within = c.requires.within; fits = c.requires.fits })

module _ (g : _) (c : After-starting_at-walk g) where
  rest-cells : HasCells c.args.v (drop (rank c.args.v.lengths (g.D.Lengths.numbers c.args.index)) (row_order c.args.v.lengths))
  rest-cells =
      let h = HasCells-row_order c.args.v c.raw_dim.ensures.whole in
      record { whole = h.whole; within = All-drop (InBox c.args.v.lengths) (rank c.args.v.lengths (g.D.Lengths.numbers c.args.index)) (row_order c.args.v.lengths) h.within }

  walked : c.starting_at-walk.result ≡ take c.args.count (drop (rank c.args.v.lengths (g.D.Lengths.numbers c.args.index)) (row_order c.args.v.lengths))
  walked = c.starting_at-walk.ensures ∙ ap (λ ns. walk_rest RowMajor ns (g.D.Lengths.numbers c.args.index) c.args.count) c.raw_dim.ensures.lengths

  within : All (InBox (g.D.Lengths.numbers c.v.inside.layout.dim)) c.starting_at-walk.result
  within =
      subst (λ ns. All (InBox ns) c.starting_at-walk.result) (sym (ap (λ v. v.lengths) c.v.view_is))
      (subst (All (InBox c.args.v.lengths)) (sym walked) (All-take (InBox c.args.v.lengths) c.args.count (drop (rank c.args.v.lengths (g.D.Lengths.numbers c.args.index)) (row_order c.args.v.lengths)) rest-cells.within))

pub over-requires-clause-as_many : goal.over-requires-clause-as_many
over-requires-clause-as_many g c =
    let w = within g ((goal.at.over-requires-clause-as_many g c).After-starting_at-walk) in
    let m = c.v.invariant.as_many in
    λ k d lt. let l = InBox-length _ _ (w k d lt) in omega arith

pub over-requires-clause-fits : goal.over-requires-clause-fits
over-requires-clause-fits g c =
    let is = g.D.Lengths.numbers c.args.index in
    let r = rank c.args.v.lengths is in
    let l = ap length (walked g ((goal.at.over-requires-clause-fits g c).After-starting_at-walk)) ∙ length-take c.args.count (drop r (row_order c.args.v.lengths)) in
    let d = length-drop r (row_order c.args.v.lengths) in
    let n = length-row_order c.args.v.lengths in
    let m = c.raw_dim.ensures.limit in
    let s = size-le c.args.v.lengths in
    omega arith

pub invariant_of-result : goal.invariant_of-result
invariant_of-result g c =
    let v = c.v.inside in
    let axes = g.D.Lengths.numbers in
    subst (HaveElements (seen_at v.storage)) (sym c.over.ensures)
    (held-some (seen_at v.storage) (axes v.layout.dim) v.layout.start (axes v.layout.strides) c.v.invariant c.starting_at-walk.result (within g ((goal.at.invariant_of-result g c).After-starting_at-walk)))

pub returns : goal.returns
returns g c =
    let here = (goal.at.returns g c).After-starting_at-walk in
    let v = c.v.inside in
    let axes = g.D.Lengths.numbers in
    let h = HasCells-row_order c.args.v c.raw_dim.ensures.whole in
    let r = rank c.args.v.lengths (axes c.args.index) in
    ap (filter_map (seen_at v.storage)) c.over.ensures
    ∙ (found-some (seen_at v.storage) (axes v.layout.dim) v.layout.start (axes v.layout.strides) c.v.invariant c.starting_at-walk.result (within g here)
    ∙ (ap (λ w. filter_map (cell w) c.starting_at-walk.result) c.v.view_is
    ∙ (ap (filter_map (cell c.args.v)) (walked g here)
    ∙ (along-take c.args.v (drop r (row_order c.args.v.lengths)) c.args.count (rest-cells g here)
    ∙ ap (take c.args.count) (along-drop c.args.v (row_order c.args.v.lengths) r h ∙ ap (drop r) (along-row_order c.args.v c.raw_dim.ensures.whole))))))
