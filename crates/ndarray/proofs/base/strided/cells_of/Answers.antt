use Rattle.std.proofs.Common.{◌≡◌, ◌∙◌, All, ap, filter_map, subst, sym}
use Rattle.ndarray.specs.Grid.{cell}
use Rattle.ndarray.specs.Index.{InBox, row_order}
use Rattle.ndarray.specs.base.Ranks.{row_from}
use Rattle.ndarray.proofs.boxes.Orders.{row_order-is}
use Rattle.ndarray.proofs.cells.Cells.{along-row_order}
use Rattle.ndarray.proofs.cells.Matrices.{row-one}
use Rattle.ndarray.proofs.base.strided.cells_of.Goals as goal

pub cells_along-requires-clause-within : goal.cells_along-requires-clause-within
cells_along-requires-clause-within g c =
    let v = c.args.vector in
    let n = c.into_pattern-len.result in
    let row : row_from c.Ix1.result.0 0 n ≡ row_order v.lengths = ap (λ is. row_from is 0 n) c.Ix1.ensures ∙ (row-one n ∙ ap row_order (c.into_pattern-len.ensures ∙ c.raw_dim.ensures.lengths)) in
    subst (All (InBox v.lengths)) (sym row) (row_order-is v.lengths).within

pub returns : goal.returns
returns g c =
    let v = c.args.vector in
    let n = c.into_pattern-len.result in
    let row : row_from c.Ix1.result.0 0 n ≡ row_order v.lengths = ap (λ is. row_from is 0 n) c.Ix1.ensures ∙ (row-one n ∙ ap row_order (c.into_pattern-len.ensures ∙ c.raw_dim.ensures.lengths)) in
    c.cells_along.ensures ∙ (ap (filter_map (cell v)) row ∙ along-row_order v c.raw_dim.ensures.whole)
