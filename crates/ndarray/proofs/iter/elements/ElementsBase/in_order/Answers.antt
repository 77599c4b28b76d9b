use Rattle.std.proofs.Common.{◌≡◌, ◌<◌, ◌^◌, ◌∙◌, sym, ap, subst, arith, length, List}
use Rattle.ndarray.specs.Grid.{Grid, IsGrid}
use Rattle.ndarray.specs.Limits.{IsWithinLimit}
use Rattle.ndarray.specs.Orders.{HasInOrder, cells_in}
use Rattle.ndarray.specs.declared.base.shape.Order.{Order}
use Rattle.ndarray.proofs.boxes.Sizes.{size-le}
use Rattle.ndarray.proofs.cells.Cells.{cells_in-HasInOrder}
use Rattle.ndarray.proofs.cells.CellsInOrder.{length-cells_in}
use Rattle.ndarray.proofs.iter.elements.ElementsBase.in_order.Goals as goal

module _ {A : Type 0} (o : Order) (g : Grid A) (whole : IsGrid g) (xs : List A) (e : xs ≡ cells_in o g) where
  described : HasInOrder o g xs
  described = subst (HasInOrder o g) (sym e) (cells_in-HasInOrder o g whole)

  few : IsWithinLimit g.lengths → length xs < 2 ^ 63
  few limit =
      let l = ap length e ∙ length-cells_in o g whole in
      let s = size-le g.lengths in
      omega arith

pub returns-in-Some-clause-cells : goal.returns-in-Some-clause-cells
returns-in-Some-clause-cells g c = c.iter.ensures.rest ∙ c.in-Some.ensures.cells

pub returns-in-Some-clause-described : goal.returns-in-Some-clause-described
returns-in-Some-clause-described g c = described c.args.order c.args.v c.raw_dim-dim.ensures.whole _ (returns-in-Some-clause-cells g c)

pub returns-in-Some-clause-fits : goal.returns-in-Some-clause-fits
returns-in-Some-clause-fits g c = few c.args.order c.args.v c.raw_dim-dim.ensures.whole _ (returns-in-Some-clause-cells g c) c.raw_dim-dim.ensures.limit

pub returns-clause-described : goal.returns-clause-described
returns-clause-described g c = described c.args.order c.args.v c.raw_dim-dim.ensures.whole _ c.in_order.ensures

pub returns-clause-fits : goal.returns-clause-fits
returns-clause-fits g c = few c.args.order c.args.v c.raw_dim-dim.ensures.whole _ c.in_order.ensures c.raw_dim-dim.ensures.limit
